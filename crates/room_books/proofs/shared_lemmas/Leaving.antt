-- What is gone is found by binary search, and is no longer in the way: what the timeline has beside it stays confirmed.
-- Cited by busy_beside of decide, busy_beside_series of decide, decide of decide, is_among of gone, sort of gone, Room::answers_after of room and 4 more.
use Rattle.std.proofs.Common.{◌≡◌, ◌∙◌, ℕ, ◌+◌, ℤ, ◌≤ℤ◌, Bool, true, false, ◌&&◌, List, ◌++◌, length, get_or, inl, inr, Option, None, Some, Result, Ok, Err, refl, sym, ap, subst, arith, length-append}
use Rattle.std.specs.Prelude.{slice_get, ◌==◌}
use Rattle.std.specs.declared.cmp.Ordering.TheVariants.{Equal}
use Rattle.std.specs.Cmp.{IsTotalOrder}
use Rattle.std.specs.FinMap.{int_cmp-IsAntisymmetric}
use Rattle.std.specs.List.{Contains, IsDistinct, position}
use Rattle.std.specs.List.Sorted.{IsPermutation, IsSearchInRange, IsBinarySearchResult, IsSortedByKey}
use Rattle.std.specs.Map.{lookup, keys_of}
use Rattle.std.specs.Ordering.{is_eq}
use Rattle.std.specs.Result.{is_ok}
use Rattle.std.proofs.lemmas.Bool.{cases_lt, cases_Bool, both_ways, and_parts, eq-eqb, eqb-true, false_from_ne_true}
use Rattle.std.proofs.lemmas.Cmp.{on_total, then_total, int_cmp_total, tied_itself}
use Rattle.std.proofs.lemmas.Int.{ints}
use Rattle.std.proofs.lemmas.List.Elements.{Contains-append_left, Contains-append_right, Contains-append_cases}
use Rattle.std.proofs.lemmas.List.Folds.{list_any_at, list_any_none}
use Rattle.std.proofs.lemmas.List.Sorted.{searchable_from_sorted, Contains-permutation, IsPermutation-sym, IsPermutation-trans, IsPermutation-append_left, length_permutation}
use Rattle.itip_order.proofs.Order.{then_equal}
use Rattle.cal_events.proofs.shared_lemmas.Distinct.{pairs_permuted}
use Rattle.profile.specs.checker.Instances.{Instance}
use Rattle.cal_events.specs.declared.instance.Single.{Single}
use Rattle.cal_events.specs.declared.sweep.Span.{Span}
use Rattle.room_books.specs.declared.meeting.MeetingKey.{MeetingKey}
use Rattle.room_books.specs.declared.kept.Meeting.{Meeting}
use Rattle.room_books.specs.declared.timeline.Busy.{Busy}
use Rattle.room_books.specs.Gone.{HaveInstant, AreSeparate, IsPartedInto, IsPartOf, single_cmp, the_single}
use Rattle.room_books.specs.Timeline.{HoldsInstants, busy_in, has_single, is_own_place, is_leaving, same_single, IsSharedIn, IsTimelineOf}
use Rattle.room_books.specs.Meeting.{same_key, keyed_instance, instance_list, confirmed_at, meeting_singles, singles_by, singles_in, instance_span, others, AreAllApart, IsSpanFree}
use Rattle.room_books.proofs.shared_lemmas.Pairs.{pairs_from}
use Rattle.room_books.proofs.shared_lemmas.Parts.{pairs_to, pairs_across, pairs_right}
use Rattle.room_books.proofs.shared_lemmas.Places.{are_at, booked_from, held_before, holds_shared, in_booked, key_at, other_from, other_key, other_place, place_of, real, there}
use Rattle.room_books.proofs.room_lemmas.Putting.{booked_same}
use Rattle.room_books.proofs.room_lemmas.RoomSteps.{found_apart}
use Rattle.room_books.proofs.timeline_lemmas.Timelines.{has_from, single_at, single_from, single_itself, single_same}

-- ---- the order

pub single_total : IsTotalOrder single_cmp
single_total =
    then_total (then_total (on_total (λ (s : Single). s.slot) int_cmp_total) (on_total (λ (s : Single). s.span.start) int_cmp_total)) (on_total (λ (s : Single). s.span.end) int_cmp_total)

single_tie : (a b : Single) → single_cmp a b ≡ Equal → a ≡ b
single_tie a b e =
    let p = then_equal _ _ e in
    let q = then_equal _ _ p.0 in
    let slot = int_cmp-IsAntisymmetric a.slot b.slot q.0 in
    let start = int_cmp-IsAntisymmetric a.span.start b.span.start q.1 in
    let end = int_cmp-IsAntisymmetric a.span.end b.span.end p.1 in
    λ i. record { slot = slot i; span = record { start = start i; end = end i } }

same_tie : (single own : Single) → is_eq (single_cmp own single) ≡ false → same_single single own ≡ false
same_tie single own h = false_from_ne_true _ (λ same.
    let e : single ≡ own = single_same single own same in
    both_ways _ h (ap (λ (s : Single). is_eq (single_cmp own s)) e ∙ ap is_eq (tied_itself single_total own)))

-- one is found where it is among the others
pub found_single : (xs : List Single) (single : Single) (r : Result ℕ ℕ) → IsSortedByKey the_single single_cmp xs → IsSearchInRange r (length xs)
    → IsBinarySearchResult (λ own. single_cmp own single) xs r → is_ok r ≡ has_single single xs
found_single xs single (Ok i) up in_range at =
    let d = single in
    sym (list_any_at (same_single single) xs i d in_range (ap (same_single single) (single_tie (get_or xs i d) single (at d)) ∙ single_itself single))
found_single xs single (Err i) up in_range parted =
    let parts = parted (searchable_from_sorted single_total the_single xs single up) in
    sym (list_any_none (same_single single) xs (λ k d lt.
    elim (cases_lt k i) [
      | inl below ↦ same_tie single (get_or xs k d) (ap is_eq (parts.0 k d (omega arith) below))
      | inr from ↦ same_tie single (get_or xs k d) (ap is_eq (parts.1 k d from lt))
    ]))

-- ---- singles in another order

abbrev pub Apart : Single → Single → Type 0
Apart a b = (t : ℤ) → HaveInstant a.span b.span t → ⊥

pub apart_back : (a b : Single) → Apart a b → Apart b a
apart_back a b h t have = h t (record { in_first = have.in_second; in_second = have.in_first; before = have.before })

pub parted_separate : (all gone kept : List Single) → IsPartedInto all gone kept → AreSeparate all → AreSeparate (gone ++ kept)
parted_separate all gone kept same h = pairs_permuted Apart apart_back all (gone ++ kept) same h

pub kept_separate : (all gone kept : List Single) → IsPartedInto all gone kept → AreSeparate all → AreSeparate kept
kept_separate all gone kept same h = pairs_from Apart kept (pairs_right Apart gone kept (pairs_to Apart (gone ++ kept) (parted_separate all gone kept same h)))

pub parted_length : (all gone kept : List Single) → IsPartedInto all gone kept → length all ≡ length gone + length kept
parted_length all gone kept same = let n = length_permutation all (gone ++ kept) same in omega (arith, n, length-append gone kept)

pub kept_within : (all gone kept : List Single) → IsPartedInto all gone kept → (s : Single) → Contains kept s → Contains all s
kept_within all gone kept same s c = Contains-permutation (gone ++ kept) all s (IsPermutation-sym all (gone ++ kept) same) (Contains-append_right gone kept s c)

pub parted_part : (all gone kept : List Single) → IsPartedInto all gone kept → IsPartOf kept all
parted_part all gone kept same = record {
  within = kept_within all gone kept same;
  shorter = (let n = parted_length all gone kept same in omega (arith, n));
  separate = kept_separate all gone kept same;
}

-- the same in the order of those that are gone
pub parted_sorted : (all gone sorted kept : List Single) → IsPermutation gone sorted → IsPartedInto all gone kept → IsPartedInto all sorted kept
parted_sorted all gone sorted kept p same = IsPermutation-trans all (gone ++ kept) (sorted ++ kept) same (IsPermutation-append_left kept gone sorted p)

-- ---- by the timeline

and_false : (x : Bool) → (x && false) ≡ false
and_false true = refl
and_false false = refl

module _ (k : MeetingKey) (es : List (MeetingKey × Meeting)) (distinct : IsDistinct same_key (keys_of es)) (own : Option ℕ) (own_is : own ≡ position (same_key k) (keys_of es))
    (items : List Busy) (timeline : IsTimelineOf (confirmed_at es) items) (apart : AreAllApart es)
    (gone kept : List Single) (parted : IsPartedInto (singles_by (lookup (same_key k) es)) gone kept) where
  abbrev before : List Single
  before = singles_by (lookup (same_key k) es)

  -- an instance that is kept and holds an instant isn't one that is gone
  not_gone : (r : Single) → Contains kept r → HoldsInstants r.span → has_single r gone ≡ false
  not_gone r c holds = false_from_ne_true _ (λ g.
      let pairs = pairs_to Apart (gone ++ kept) (parted_separate before gone kept parted (found_apart k es apart)) in
      let h0 = holds.0 in
      let same : r.span.start ≤ℤ r.span.start = omega (arith, ints) in
      pairs_across Apart gone kept pairs r r (single_at gone r g) c r.span.start (record { in_first = (same, h0); in_second = (same, h0); before = holds.1 }))

  -- what shares no instant with what doesn't leave shares none with what stays confirmed
  pub free_of_staying : (span : Span) → IsSharedIn (is_leaving own gone) items span None → IsSpanFree (others k es ++ instance_list k kept) span
  free_of_staying span none b t c h = elim (Contains-append_cases (others k es) (instance_list k kept) b c) [
    | inl other ↦
        let o = other_place k es distinct own own_is b other in
        let shared : HaveInstant span o.1.span t = subst (λ (z : Span). HaveInstant span z t) (sym o.3) h in
        none (busy_in o.0 o.1) t (there (confirmed_at es) items timeline o.0 o.1 o.2 (holds_shared span o.1.span t shared)) (ap (λ x. x && has_single o.1 gone) o.4) shared
    | inr mine ↦
        let r = in_booked k kept b mine in
        let shared : HaveInstant span r.0.span t = subst (λ (z : Instance). HaveInstant span (instance_span z) t) (sym r.2) h in
        let holds = holds_shared span r.0.span t shared in
        let place = place_of k es in
        let among = subst (λ (l : List Single). Contains l r.0) (sym (held_before k es)) (kept_within before gone kept parted r.0 r.1) in
        none (busy_in place r.0) t (there (confirmed_at es) items timeline place r.0 among holds) (ap (λ x. is_own_place own place && x) (not_gone r.0 r.1 holds) ∙ and_false (is_own_place own place)) shared
  ]

  -- and what doesn't leave stays confirmed
  pub staying_is : (b : Busy) → Contains items b → is_leaving own gone b ≡ false → (e : MeetingKey × Meeting) → slice_get es b.place ≡ Some e
      → Contains (others k es ++ instance_list k kept) (keyed_instance e.0 b.single)
  staying_is b c stays e at =
      let confirmed : Contains (meeting_singles e.1) b.single = subst (λ (o : Option (MeetingKey × Meeting)). Contains (singles_in o) b.single) at (real (confirmed_at es) items timeline b c) in
      elim (cases_Bool (is_own_place own b.place)) [
        | inl mine ↦
            let same : same_key k e.0 ≡ true = sym (key_at k es distinct own own_is b.place e at) ∙ mine in
            let not_gone : has_single b.single gone ≡ false = sym (ap (λ x. x && has_single b.single gone) mine) ∙ stays in
            let place : b.place ≡ place_of k es = elim (cases_Bool (b.place == place_of k es)) [
              | inl is ↦ eqb-true b.place (place_of k es) is
              | inr n ↦ absurd (both_ways _ (other_key k es distinct b.place e at (λ q. both_ways _ n (eq-eqb b.place (place_of k es) q))) same)
            ] in
            let among : Contains before b.single = single_at before b.single (and_parts _ _ (sym (are_at k es items timeline b place) ∙ has_from items b c)).1 in
            let is_kept : Contains kept b.single = elim (Contains-append_cases gone kept b.single (Contains-permutation before (gone ++ kept) b.single parted among)) [
              | inl left ↦ absurd (both_ways _ not_gone (single_from gone b.single left))
              | inr right ↦ right
            ] in
            Contains-append_right (others k es) (instance_list k kept) (keyed_instance e.0 b.single)
            (subst (Contains (instance_list k kept)) (booked_same k e.0 b.single same) (booked_from k kept b.single is_kept))
        | inr other ↦ Contains-append_left (others k es) (instance_list k kept) (keyed_instance e.0 b.single) (other_from k es distinct own own_is b.place e b.single at confirmed other)
      ]
