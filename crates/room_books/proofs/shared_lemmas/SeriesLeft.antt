-- What is left of a series of a meeting, and what a new one gives, beside what its book says.
-- Behind Meeting::take of kept, put of kept, take_out of kept, take_out_of of kept, answers_stay of laws, Room::certificate_text of room and 18 more.
use Rattle.std.proofs.Common.{◌≡◌, ◌∙◌, ℤ, Bool, true, false, List, [], ◌∷◌, inl, inr, Option, None, Some, refl, sym, ap, subst}
use Rattle.std.specs.Prelude.{IfSome, option_map}
use Rattle.std.specs.Option.{option_to_list}
use Rattle.std.specs.List.{Contains}
use Rattle.itip_order.proofs.Lists.{in_cons, in_head, none_in_nil}
use Rattle.profile.specs.checker.Instances.{Instance}
use Rattle.profile.specs.events.Confirmed.{IsInSeries}
use Rattle.profile.specs.events.Events.{Event as Whole}
use Rattle.profile.specs.events.Starts.{IsInstance}
use Rattle.profile.specs.rooms.Revisions.{Part}
use Rattle.profile.specs.rooms.Rooms.{Claim, Recurring, IsShownInSeries, is_hidden}
use Rattle.cal_events.specs.Series.{series_said}
use Rattle.cal_events.specs.declared.instance.Single.{Single}
use Rattle.cal_events.specs.declared.series.Series.{Series}
use Rattle.room_books.specs.declared.meeting.MeetingKey.{MeetingKey}
use Rattle.room_books.specs.Room.{is_of_meeting, AreSameSeries, IsFittingSeries}
use Rattle.room_books.specs.Taking.{IsSeriesLeft}
use Rattle.room_books.specs.Meeting.{keyed_instance, series_of, series_list, instance_span}
use Rattle.room_books.proofs.room_lemmas.Meetings.{is_of_parts}
use Rattle.room_books.proofs.shared_lemmas.Rekeyed.{to_series, of_series}

only : {X : Type 0} (x y : X) → Contains (x ∷ []) y → x ≡ y
only x y c = elim (in_cons x [] y c) [ inl here ↦ here | inr none ↦ absurd (none_in_nil y none) ]

module _ (key : MeetingKey) where
  in_one : (s : Series) (b : Instance) → IsInSeries (series_list key (s ∷ [])) b → IsInstance (series_of key s) b
  in_one s b i = subst (λ (m : Whole). IsInstance m b) (sym (only (series_of key s) i.0 i.1)) i.2

  one_in : (s : Series) (b : Instance) → IsInstance (series_of key s) b → IsInSeries (series_list key (s ∷ [])) b
  one_in s b h = (series_of key s, in_head (series_of key s) [], h)

  -- the instances that a test by their original starts leaves
  less_of : (at : ℤ → Bool) (s l : Series) → IsSeriesLeft (λ b. at b.key.slot) (Some s) (Some l) → (b : Instance) → IsInstance (series_of key s) b → at b.key.slot ≡ false → IsInstance (series_of key l) b
  less_of at s l left b h shown =
      let x = of_series key s b h in
      let slot : x.1.booked.key.slot ≡ b.key.slot = sym x.1.slot ∙ sym (ap (λ (z : Instance). z.key.slot) x.2) in
      let still = (left x.1.booked).1 (x.1.is, ap at slot ∙ shown) in
      subst (IsInstance (series_of key l)) (sym x.2) (to_series key l x.0 record { booked = x.1.booked; is = still; slot = x.1.slot; span = x.1.span })

  more_of : (at : ℤ → Bool) (s l : Series) → IsSeriesLeft (λ b. at b.key.slot) (Some s) (Some l) → (b : Instance) → IsInstance (series_of key l) b → IsInstance (series_of key s) b × (at b.key.slot ≡ false)
  more_of at s l left b h =
      let x = of_series key l b h in
      let slot : x.1.booked.key.slot ≡ b.key.slot = sym x.1.slot ∙ sym (ap (λ (z : Instance). z.key.slot) x.2) in
      let was = (left x.1.booked).0 x.1.is in (
        subst (IsInstance (series_of key s)) (sym x.2) (to_series key s x.0 record { booked = x.1.booked; is = was.0; slot = x.1.slot; span = x.1.span }),
        sym (ap at slot) ∙ was.1,
      )

  -- where more parts are taken: what was hidden before stays so, and what is hidden now beside it is what the test takes
  module _ (t u : List Part) (part : Part) (at : ℤ → Bool) (xs : List Recurring) (of_it : (r : Recurring) → Contains xs r → r.part ≡ part)
      (now : (b : Instance) → is_hidden t part b ≡ false → at b.key.slot ≡ false → is_hidden u part b ≡ false)
      (before : (b : Instance) → is_hidden u part b ≡ false → (is_hidden t part b ≡ false) × (at b.key.slot ≡ false)) where
    shown_at : (v : List Part) (r : Recurring) → Contains xs r → (b : Instance) → is_hidden v r.part b ≡ false → is_hidden v part b ≡ false
    shown_at v r c b h = subst (λ (p : Part). is_hidden v p b ≡ false) (of_it r c) h

    at_part : (v : List Part) (r : Recurring) → Contains xs r → (b : Instance) → is_hidden v part b ≡ false → is_hidden v r.part b ≡ false
    at_part v r c b h = subst (λ (p : Part). is_hidden v p b ≡ false) (sym (of_it r c)) h

    earlier : (b : Instance) → IsShownInSeries u xs b → IsShownInSeries t xs b
    earlier b l = record { series = l.series; among = l.among; is = l.is; shown = at_part t l.series l.among b (before b (shown_at u l.series l.among b l.shown)).0 }

    pub left_series : (old new : Option Series) → IsSeriesLeft (λ b. at b.key.slot) old new → AreSameSeries t xs (series_list key (option_to_list old)) → AreSameSeries u xs (series_list key (option_to_list new))
    left_series None None left p = record {
      long = p.long;
      same = λ b. (λ l. (p.same b).0 (earlier b l), λ i. absurd (none_in_nil i.0 i.1));
    }
    left_series None (Some l) left p = absurd left
    left_series (Some s) None left p = absurd left
    left_series (Some s) (Some l) left p = record {
      long = p.long;
      same = λ b. (
        λ lf. (
            let shown = before b (shown_at u lf.series lf.among b lf.shown) in
            one_in l b (less_of at s l left b (in_one s b ((p.same b).0 (earlier b lf))) shown.1)),
        λ i. (
            let was = more_of at s l left b (in_one l b i) in
            let lf = (p.same b).1 (one_in s b was.0) in
            record { series = lf.series; among = lf.among; is = lf.is; shown = at_part u lf.series lf.among b (now b (shown_at t lf.series lf.among b lf.shown) was.1) }),
      );
    }

  -- ---- a new answer

  -- an instance of a part of the meeting is one by this key
  own_booked : (part : Part) (b : Instance) (x : Single) → is_of_meeting key part ≡ true → b.key.organiser ≡ part.organiser → b.key.uid ≡ part.uid → x.slot ≡ b.key.slot → x.span ≡ instance_span b → keyed_instance key x ≡ b
  own_booked part b x own organiser uid slot span =
      let is = is_of_parts key part own in
      let o = is.0 ∙ sym organiser in
      let v = is.1 ∙ sym uid in
      λ i. record { key = record { organiser = o i; uid = v i; slot = slot i }; start = (span i).start; end = (span i).end }

  pub new_series : (t : List Part) (claim : Claim) (series new : Option Series) → is_of_meeting key claim.part ≡ true → claim.series ≡ option_map series_said series → IfSome claim.series (IsFittingSeries claim)
      → IsSeriesLeft (is_hidden t claim.part) series new
      → AreSameSeries t (option_to_list (option_map (λ (meeting : Whole). record { part = claim.part; meeting = meeting }) claim.series)) (series_list key (option_to_list new))
  new_series t claim None None own e fit left = subst (λ (o : Option Whole). AreSameSeries t (option_to_list (option_map (λ (meeting : Whole). record { part = claim.part; meeting = meeting }) o)) []) (sym e)
      record { long = refl; same = λ b. (λ l. absurd (none_in_nil l.series l.among), λ i. absurd (none_in_nil i.0 i.1)) }
  new_series t claim None (Some l) own e fit left = absurd left
  new_series t claim (Some s) None own e fit left = absurd left
  new_series t claim (Some s) (Some l) own e fit left =
      let fits : IsFittingSeries claim (series_said s) = subst (λ (o : Option Whole). IfSome o (IsFittingSeries claim)) e fit in
      let one : Recurring = record { part = claim.part; meeting = series_said s } in
      let single : Instance → Single = λ b. record { slot = b.key.slot; span = instance_span b } in
      subst (λ (o : Option Whole). AreSameSeries t (option_to_list (option_map (λ (meeting : Whole). record { part = claim.part; meeting = meeting }) o)) (series_list key (l ∷ []))) (sym e)
      record {
        long = refl;
        same = λ b. (
          λ lf. (
              let is = only one lf.series lf.among in
              let inside : IsInstance (series_said s) b = subst (λ (r : Recurring). IsInstance r.meeting b) (sym is) lf.is in
              let shown : is_hidden t claim.part b ≡ false = subst (λ (r : Recurring). is_hidden t r.part b ≡ false) (sym is) lf.shown in
              one_in l b (subst (IsInstance (series_of key l)) (own_booked claim.part b (single b) own (fits.organiser b inside) (fits.uid b inside) refl refl)
              (to_series key l (single b) record { booked = b; is = (left b).1 (inside, shown); slot = refl; span = refl }))),
          λ i. (
              let x = of_series key l b (in_one l b i) in
              let was = (left x.1.booked).0 x.1.is in
              let same : x.1.booked ≡ b = sym (own_booked claim.part x.1.booked x.0 own (fits.organiser x.1.booked was.0) (fits.uid x.1.booked was.0) x.1.slot x.1.span) ∙ sym x.2 in
              record { series = one; among = in_head one []; is = subst (IsInstance (series_said s)) same was.0; shown = subst (λ (z : Instance). is_hidden t claim.part z ≡ false) same was.1 }),
        );
      }
