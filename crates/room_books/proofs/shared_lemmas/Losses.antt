-- Instances of series that answers no longer confirm: of one answer, of one more, and of all.
-- Cited by has_instance of hidden, Views::left of change, Views::left_at of change, Views::change of change.
use Rattle.std.proofs.Common.{◌≡◌, ◌∙◌, ◌&&◌, ◌||◌, Bool, true, false, List, [], ◌∷◌, ◌++◌, Option, None, Some, inl, inr, refl, sym, ap, subst, arith, length-append}
use Rattle.std.specs.List.{Contains, list_any}
use Rattle.std.specs.Option.{option_to_list}
use Rattle.std.proofs.lemmas.Bool.{both_ways}
use Rattle.std.proofs.lemmas.Grind.{flat_map-append}
use Rattle.std.proofs.lemmas.List.Elements.{Contains-append_left, Contains-append_right, Contains-append_cases}
use Rattle.itip_order.proofs.Lists.{in_cons, in_head, none_in_nil}
use Rattle.itip_messages.proofs.shared_lemmas.WrittenLines.{flat_push}
use Rattle.profile.specs.checker.Instances.{Instance}
use Rattle.profile.specs.events.Starts.{IsInstance}
use Rattle.profile.specs.rooms.Revisions.{Part, At, in_view, is_whole, same_place}
use Rattle.itip_order.specs.declared.part.Slot.{Slot as OwnSlot}
use Rattle.cal_events.specs.Series.{series_said}
use Rattle.cal_events.specs.declared.instance.Single.{Single}
use Rattle.cal_events.specs.declared.series.Series.{Series}
use Rattle.room_books.specs.declared.meeting.PartAnswer.{PartAnswer}
use Rattle.room_books.specs.Slots.{Reordered, is_touched}
use Rattle.room_books.specs.Taking.{is_hidden_by, HidesOneOf, IsSeriesLeft}
use Rattle.room_books.specs.Meeting.{all_series, instance_span, AddsLoss, AreFewer, LosesOne, Recurs, SaysLoss, SaysLossOfOne}
use Rattle.room_books.proofs.shared_lemmas.Fewer.{fewer_same}
use Rattle.room_books.proofs.shared_lemmas.Reordering.{re_back, re_flat, re_in, re_length}
use Rattle.room_books.specs.Slots.Reordered.{re_then}
use Rattle.room_books.proofs.shared_lemmas.Reordering.{re_swapped}

-- ---- one answer

-- an instance, by its original start and its span
abbrev pub single_of : Instance → Single
single_of b = record { slot = b.key.slot; span = instance_span b }

only : (s x : Series) → Contains (s ∷ []) x → s ≡ x
only s x c = elim (in_cons s [] x c) [ inl here ↦ here | inr none ↦ absurd (none_in_nil x none) ]

pub none_lost : (old : Bool) (after : List Series) → AddsLoss old old [] after
none_lost old after = record { loses = false; says = λ single r. absurd (none_in_nil r.0 r.1); is = or_none old }
  where
    or_none : (b : Bool) → b ≡ (b || false)
    or_none true = refl
    or_none false = refl

-- a series has an instance, or none, and nothing is left of it
pub has_one : (series : Series) (b : Instance) → IsInstance (series_said series) b → SaysLoss true (series ∷ []) []
has_one series b is = record {
  single = single_of b;
  was = (series, in_head series [], record { booked = b; is = is; slot = refl; span = refl });
  gone = λ r. none_in_nil r.0 r.1;
}

pub has_none : (series : Series) → ((b : Instance) → IsInstance (series_said series) b → ⊥) → SaysLoss false (series ∷ []) []
has_none series none single r = absurd (none r.2.booked (subst (λ (x : Series). IsInstance (series_said x) r.2.booked) (sym (only series r.0 r.1)) r.2.is))

-- all of a series, or nothing of none
module _ (hides : Instance → Bool) (by_slot : (a b : Instance) → a.key.slot ≡ b.key.slot → hides a ≡ hides b) where
  pub left_says : (loses : Bool) (given left : Option Series) → IsSeriesLeft hides given left → (loses ≡ false → IsSeriesLeft hides given given) → (loses ≡ true → HidesOneOf hides (option_to_list given))
      → SaysLoss loses (option_to_list given) (option_to_list left)
  left_says true None left is none one = let h = one refl in absurd (none_in_nil h.series h.among)
  left_says false None left is none one = λ single r. absurd (none_in_nil r.0 r.1)
  left_says loses (Some s) None is none one = absurd is
  left_says true (Some s) (Some l) is none one =
      let h = one refl in
      let same : s ≡ h.series = only s h.series h.among in
      record {
        single = single_of h.booked;
        was = (h.series, h.among, record { booked = h.booked; is = h.is; slot = refl; span = refl });
        gone = λ r.
            let again = subst (λ (x : Series). Recurs x (single_of h.booked)) (sym (only l r.0 r.1)) r.2 in
            both_ways _ ((is again.booked).0 again.is).1 (sym (by_slot h.booked again.booked again.slot) ∙ h.hidden);
      }
  left_says false (Some s) (Some l) is none one = λ single r.
      let was = subst (λ (x : Series). Recurs x single) (sym (only s r.0 r.1)) r.2 in
      (l, in_head l [], record { booked = was.booked; is = (is was.booked).1 (was.is, ((none refl was.booked).0 was.is).1); slot = was.slot; span = was.span })

-- an instance is hidden by its original start
pub hidden_by_slot : (slots : List OwnSlot) (history : List Part) (part : Part) (a b : Instance) → a.key.slot ≡ b.key.slot → is_hidden_by slots history part a ≡ is_hidden_by slots history part b
hidden_by_slot slots history part a b e =
    ap (λ slot. is_touched slots (At slot) && (is_whole part && list_any (λ other. in_view history other && same_place other (record part { slot = At slot })) history)) e

-- ---- two lists

pub lost_both : (x y : Bool) (a b c d : List Series) → AreFewer a b → AreFewer c d → SaysLossOfOne x a b → SaysLossOfOne y c d → SaysLossOfOne (x || y) (a ++ c) (b ++ d)
lost_both true y a b c d f g p q few =
    let h = g.shorter in let long = length-append a c in
    let e : LosesOne a b = p (omega (arith, few, long)) in
    let w = e.was.1.1 in
    record {
      single = e.single;
      was = (e.was.0, Contains-append_left a c e.was.0 e.was.1, e.was.2);
      gone = λ r. elim (Contains-append_cases b d r.0 r.1) [
        | inl first ↦ e.gone (r.0, first, r.2)
        | inr second ↦ (let v = second.1 in absurd (omega (arith, v, w, h, few, long)))
      ];
    }
lost_both false true a b c d f g p q few =
    let h = f.shorter in let long = length-append a c in
    let e : LosesOne c d = q (omega (arith, few, long)) in
    let w = e.was.1.1 in
    record {
      single = e.single;
      was = (e.was.0, Contains-append_right a c e.was.0 e.was.1, e.was.2);
      gone = λ r. elim (Contains-append_cases b d r.0 r.1) [
        | inl first ↦ (let v = first.1 in absurd (omega (arith, v, w, h, few, long)))
        | inr second ↦ e.gone (r.0, second, r.2)
      ];
    }
lost_both false false a b c d f g p q few = λ single r.
    let long = length-append a c in
    elim (Contains-append_cases a c r.0 r.1) [
      | inl first ↦ (let s = p (omega (arith, few, long)) single (r.0, first, r.2) in (s.0, Contains-append_left b d s.0 s.1, s.2))
      | inr second ↦ (let s = q (omega (arith, few, long)) single (r.0, second, r.2) in (s.0, Contains-append_right b d s.0 s.1, s.2))
    ]

lost_reordered : (x : Bool) (xs ys after : List Series) → Reordered xs ys → SaysLossOfOne x ys after → SaysLossOfOne x xs after
lost_reordered true xs ys after same p few =
    let n = re_length xs ys same in
    let e : LosesOne ys after = p (omega (arith, few, n)) in
    record { single = e.single; was = (e.was.0, re_in ys xs (re_back xs ys same) e.was.0 e.was.1, e.was.2); gone = e.gone }
lost_reordered false xs ys after same p few = λ single r. let n = re_length xs ys same in p (omega (arith, few, n)) single (r.0, re_in xs ys same r.0 r.1, r.2)

-- ---- of answers

-- nothing was given, and nothing is left
pub lost_none : (kept : List Series) → SaysLossOfOne false [] kept
lost_none kept few = λ single r. absurd (none_in_nil r.0 r.1)

-- one more answer
pub one_lost : (old new : Bool) (done : List PartAnswer) (given : PartAnswer) (left kept kept' : List Series) → AddsLoss old new (option_to_list given.series) left → kept' ≡ kept ++ left
    → AreFewer (all_series done) kept → AreFewer (option_to_list given.series) left → SaysLossOfOne old (all_series done) kept → SaysLossOfOne new (all_series (done ++ given ∷ [])) kept'
one_lost old new done given left kept kept' adds e f g p =
    subst (λ (b : Bool). SaysLossOfOne b (all_series (done ++ given ∷ [])) kept') (sym adds.is)
    (subst (λ (l : List Series). SaysLossOfOne (old || adds.loses) l kept') (sym (flat_push (λ (x : PartAnswer). option_to_list x.series) done given))
    (subst (SaysLossOfOne (old || adds.loses) (all_series done ++ option_to_list given.series)) (sym e)
    (lost_both old adds.loses (all_series done) kept (option_to_list given.series) left f g p (λ few. adds.says))))

-- what is left of some answers, beside others that stay
pub all_lost : (x : Bool) (answers out others left : List PartAnswer) → Reordered answers (out ++ others) → AreFewer (all_series out) (all_series left) → SaysLossOfOne x (all_series out) (all_series left)
    → SaysLossOfOne x (all_series answers) (all_series (others ++ left))
all_lost x answers out others left same f p =
    let g : PartAnswer → List Series = λ a. option_to_list a.series in
    let turned : Reordered answers (others ++ out) = re_then answers (out ++ others) (others ++ out) same (re_swapped out others) in
    let stays : SaysLossOfOne false (all_series others) (all_series others) = λ few single r. r in
    subst (SaysLossOfOne x (all_series answers)) (sym (flat_map-append g others left))
    (lost_reordered x (all_series answers) (all_series others ++ all_series out) (all_series others ++ all_series left)
    (subst (Reordered (all_series answers)) (flat_map-append g others out) (re_flat g answers (others ++ out) turned))
    (lost_both false x (all_series others) (all_series others) (all_series out) (all_series left) (fewer_same (all_series others)) f stays p))
