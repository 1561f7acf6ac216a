-- The series of a room's meetings: those of a meeting, those of the others, and where they are.
-- Cited by Room::clash_in_series, Room::decide, Room::recurring_beside, push_at.
use Rattle.std.proofs.Common.{◌≡◌, ◌≢◌, ◌∙◌, ◌<◌, ◌+◌, ℕ, true, false, not, cond, List, [], ◌∷◌, ◌++◌, inl, inr, length, get_or, map, take, append_assoc, subst, sym, refl, ap, arith, length-append, Option, None, Some}
use Rattle.std.specs.Prelude.{slice_get, ◌==◌}
use Rattle.std.specs.List.{Contains, IsDistinct, filter, position}
use Rattle.std.specs.Option.{option_eq, option_to_list}
use Rattle.std.specs.Ordering.{is_eq}
use Rattle.std.specs.Map.{keys_of}
use Rattle.std.proofs.lemmas.Bool.{cases_Bool, both_ways, not-true, eqb-true}
use Rattle.std.proofs.lemmas.List.{get_or_default, length-map, map-append}
use Rattle.std.proofs.lemmas.List.Elements.{Contains-append_left, Contains-append_right, Contains-append_cases}
use Rattle.std.proofs.lemmas.Option.{slice_get_within, slice_get-get_or, get_or_from_slice_get}
use Rattle.itip_order.proofs.Lists.{none_in_nil, in_cons, filter_at, filter_from, any_at}
use Rattle.itip_order.specs.declared.part.Slot.{Slot}
use Rattle.itip_order.specs.Parts.{slot_of}
use denote.Ref.{Bor}
use Rattle.profile.specs.checker.Instances.{Instance}
use Rattle.profile.specs.events.Confirmed.{IsInSeries}
use Rattle.profile.specs.events.Events.{Event as Whole}
use Rattle.profile.specs.events.Starts.{IsInstance}
use Rattle.profile.specs.rooms.Revisions as revisions
use Rattle.cal_events.specs.declared.instance.Single.{Single}
use Rattle.cal_events.specs.declared.series.Series.{Series}
use Rattle.room_books.specs.declared.kept.Meeting.{Meeting}
use Rattle.room_books.specs.declared.meeting.PartAnswer.{PartAnswer}
use Rattle.room_books.specs.declared.meeting.MeetingKey.{MeetingKey}
use Rattle.room_books.specs.declared.recurring.Recurring.{Recurring}
use Rattle.room_books.specs.Slots.{is_at}
use Rattle.room_books.specs.Recurring.{AreAllOf, keyed_of, recurring_said}
use Rattle.room_books.specs.Timeline.{is_own_place}
use Rattle.room_books.specs.Meeting.{all_series, keyed_instance, is_other, other_recurring, recurring_at, recurring_by, recurring_of, same_key, series_at, series_in, series_list, series_of, AreRecurring}
use Rattle.room_books.specs.Claim.{is_of_whole}
use Rattle.room_books.proofs.shared_lemmas.Loops.{one_more}
use Rattle.room_books.proofs.shared_lemmas.Pairs.{flat_at, flat_from, map_at}
use Rattle.room_books.proofs.shared_lemmas.Places.{booked_differs, key_at}
use Rattle.room_books.proofs.shared_lemmas.Rekeyed.{of_series}

-- ---- only a whole recurs

none_apart : (o : Option Series) (slot : Slot) → is_of_whole o slot ≡ true → is_eq (revisions.slot_cmp (slot_of slot) revisions.Whole) ≡ false → option_to_list o ≡ []
none_apart None slot whole apart = refl
none_apart (Some s) slot whole apart = absurd (both_ways _ apart whole)

pub whole_series : (answers : List PartAnswer) → all_series (filter (is_at revisions.Whole) answers) ≡ all_series answers
whole_series [] = refl
whole_series (g ∷ answers) = elim (cases_Bool (is_at revisions.Whole g)) [
  | inl at ↦ ap (λ t. all_series (cond t (g ∷ filter (is_at revisions.Whole) answers) (filter (is_at revisions.Whole) answers))) at ∙ ap (λ l. option_to_list g.series ++ l) (whole_series answers)
  | inr apart ↦ ap (λ t. all_series (cond t (g ∷ filter (is_at revisions.Whole) answers) (filter (is_at revisions.Whole) answers))) apart ∙ whole_series answers
      ∙ ap (λ l. l ++ all_series answers) (sym (none_apart g.series g.slot g.whole apart))
]

-- the series of a place are those of the whole of its entry
pub series_there : (es : List (MeetingKey × Meeting)) (place : ℕ) (e : MeetingKey × Meeting) (found : List PartAnswer) → slice_get es place ≡ Some e → found ≡ filter (is_at revisions.Whole) e.1.answers.items
    → series_list e.0 (all_series found) ≡ recurring_at es place
series_there es place e found at is = ap (λ l. series_list e.0 (all_series l)) is ∙ ap (series_list e.0) (whole_series e.1.answers.items) ∙ ap recurring_by (sym at)

-- ---- the other meetings

-- those of the other meetings in these places, and no more: all of each except for the meeting's own place
pub record AreThere (k : MeetingKey) (es : List (MeetingKey × Meeting)) (own : Option ℕ) (places : List ℕ) (all : List Whole) : Type 0 where
  pub others : (one : Whole) → Contains all one → Contains (other_recurring k es) one
  pub each : (place : ℕ) (one : Whole) → Contains places place → is_own_place own place ≡ false → Contains (recurring_at es place) one → Contains all one

module _ (k : MeetingKey) (es : List (MeetingKey × Meeting)) (distinct : IsDistinct same_key (keys_of es)) (own : Option ℕ) (own_is : own ≡ position (same_key k) (keys_of es)) where
  pub there_none : AreThere k es own [] []
  there_none = record { others = λ one c. absurd (none_in_nil one c); each = λ place one c. absurd (none_in_nil place c) }

  -- the meeting's own place is passed over
  pub there_pass : (places : List ℕ) (i place : ℕ) (all : List Whole) → i < length places → place ≡ get_or places i place → is_own_place own place ≡ true → AreThere k es own (take i places) all → AreThere k es own (take (i + 1) places) all
  there_pass places i place all within at is h = record {
    others = h.others;
    each = λ q one c n there. elim (Contains-append_cases (take i places) (place ∷ []) q (subst (λ (l : List ℕ). Contains l q) (one_more places i place within at) c)) [
      | inl before ↦ h.each q one before n there
      | inr last ↦ absurd (both_ways _ n (ap (is_own_place own) (sym (only place q last)) ∙ is))
    ];
  }
    where
      only : (x y : ℕ) → Contains (x ∷ []) y → x ≡ y
      only x y c = elim (in_cons x [] y c) [ inl e ↦ e | inr n ↦ absurd (none_in_nil y n) ]

  in_entry : (o : Option (MeetingKey × Meeting)) (one : Whole) → Contains (recurring_by o) one → (e : MeetingKey × Meeting) × (o ≡ Some e) × Contains (recurring_of e) one
  in_entry None one c = absurd (none_in_nil one c)
  in_entry (Some e) one c = (e, refl, c)

  -- those of another place are put in
  pub there_more : (places : List ℕ) (i place : ℕ) (all new : List Whole) → i < length places → place ≡ get_or places i place → is_own_place own place ≡ false → new ≡ all ++ recurring_at es place
      → AreThere k es own (take i places) all → AreThere k es own (take (i + 1) places) new
  there_more places i place all new within at other pushed h = record {
    others = λ one c. elim (Contains-append_cases all (recurring_at es place) one (subst (λ (l : List Whole). Contains l one) pushed c)) [
      | inl before ↦ h.others one before
      | inr now ↦
          let e = in_entry (slice_get es place) one now in
          flat_from recurring_of (filter (is_other k) es) e.0 one
          (filter_from (is_other k) es e.0 (place, slice_get_within es place e.0 e.1, get_or_from_slice_get es place e.0 e.0 e.1) (ap not (sym (key_at k es distinct own own_is place e.0 e.1) ∙ other))) e.2
    ];
    each = λ q one c n there. subst (λ (l : List Whole). Contains l one) (sym pushed) (elim (Contains-append_cases (take i places) (place ∷ []) q (subst (λ (l : List ℕ). Contains l q) (one_more places i place within at) c)) [
      | inl before ↦ Contains-append_left all (recurring_at es place) one (h.each q one before n there)
      | inr last ↦ Contains-append_right all (recurring_at es place) one (subst (λ (p : ℕ). Contains (recurring_at es p) one) (sym (only place q last)) there)
    ]);
  }
    where
      only : (x y : ℕ) → Contains (x ∷ []) y → x ≡ y
      only x y c = elim (in_cons x [] y c) [ inl e ↦ e | inr n ↦ absurd (none_in_nil y n) ]

  -- all places at which there are series were looked at
  pub there_all : (places : List ℕ) (all : List Recurring) → AreRecurring (series_at es) places → AreThere k es own places (map recurring_said all) → AreAllOf (other_recurring k es) all
  there_all places all recurs h one = (
    (λ c.
        let f = flat_at recurring_of (filter (is_other k) es) one c in
        let both = filter_at (is_other k) es f.0 f.1 in
        let s = map_at (series_of f.0.0) (all_series f.0.1.answers.items) one f.2 in
        let place = both.0.0 in
        let at : slice_get es place ≡ Some f.0 = slice_get-get_or es place f.0 both.0.1 ∙ ap Some both.0.2 in
        let p = any_at (λ q. q == place) places (recurs place s.0 (subst (λ (o : Option (MeetingKey × Meeting)). Contains (series_in o) s.0) (sym at) s.1)) in
        h.each place one (subst (Contains places) (eqb-true p.0 place p.2) p.1) (key_at k es distinct own own_is place f.0 at ∙ not-true _ both.1)
        (subst (λ (o : Option (MeetingKey × Meeting)). Contains (recurring_by o) one) (sym at) f.2)),
    h.others one,
  )

-- ---- places, as they are lent

pub place_eq : (own : Option ℕ) (place : ℕ) → option_eq ◌==◌ own (Some place) ≡ is_own_place own place
place_eq None place = refl
place_eq (Some p) place = refl

pub place_there : (places lent : List ℕ) → lent ≡ places → (i : ℕ) → i < length lent → get_or lent i 0 ≡ get_or places i (get_or lent i 0)
place_there places lent e i within = ap (λ l. get_or l i 0) e ∙ get_or_default places i 0 (get_or lent i 0) (subst (λ (l : List ℕ). i < length l) e within)

-- an instance of a series of another meeting has a key of its own
pub other_series_differ : (k : MeetingKey) (es : List (MeetingKey × Meeting)) (x : Single) (b : Instance) → IsInSeries (other_recurring k es) b → b.key ≢ (keyed_instance k x).key
other_series_differ k es x b (one, among, is) =
    let f = flat_at recurring_of (filter (is_other k) es) one among in
    let s = map_at (series_of f.0.0) (all_series f.0.1.answers.items) one f.2 in
    let y = of_series f.0.0 s.0 b (subst (λ (w : Whole). IsInstance w b) (sym s.2) is) in
    λ e. booked_differs k f.0.0 x y.0 (not-true _ (filter_at (is_other k) es f.0 f.1).1) (sym (ap (λ (z : Instance). z.key) y.2) ∙ e)

-- ---- series of the meeting are put after those of the others

abbrev pub lent_keyed : MeetingKey → Bor Series → MeetingKey × Series
lent_keyed k one = (k, one.now)

abbrev pub own_keyed : MeetingKey → Series → MeetingKey × Series
own_keyed k one = (k, one)

abbrev pub now_of : List (Bor Series) → List Series
now_of lent = map (λ (one : Bor Series). one.now) lent

keyed_now : (k : MeetingKey) (lent : List (Bor Series)) → map (lent_keyed k) lent ≡ map (own_keyed k) (now_of lent)
keyed_now k [] = refl
keyed_now k (one ∷ lent) = ap (λ l. lent_keyed k one ∷ l) (keyed_now k lent)

module _ (k : MeetingKey) (first mid all : List Recurring) (kept wanted : List (Bor Series))
    (kept_is : map keyed_of mid ≡ map keyed_of first ++ map (lent_keyed k) kept) (wanted_is : map keyed_of all ≡ map keyed_of mid ++ map (lent_keyed k) wanted) where
  pub pushed_both : map keyed_of all ≡ map keyed_of first ++ map (own_keyed k) (now_of kept ++ now_of wanted)
  pushed_both =
      wanted_is ∙ ap (λ l. l ++ map (lent_keyed k) wanted) (kept_is ∙ ap (λ l. map keyed_of first ++ l) (keyed_now k kept))
      ∙ ap (λ l. (map keyed_of first ++ map (own_keyed k) (now_of kept)) ++ l) (keyed_now k wanted)
      ∙ append_assoc (map keyed_of first) (map (own_keyed k) (now_of kept)) (map (own_keyed k) (now_of wanted))
      ∙ ap (λ l. map keyed_of first ++ l) (sym (map-append (own_keyed k) (now_of kept) (now_of wanted)))

  pub pushed_from : length mid ≡ length first + length (now_of kept)
  pushed_from =
      let a = length-map mid keyed_of in let b = length-map first keyed_of in let c = length-map kept (lent_keyed k) in let d = length-map kept (λ (one : Bor Series). one.now) in
      omega (arith, a, b, c, d, ap length kept_is, length-append (map keyed_of first) (map (lent_keyed k) kept))
