-- A binary search among ascending registers.
use Rattle.std.proofs.Common.{◌≡◌, ℕ, zero, suc, ◌+◌, ◌<◌, ◌≤◌, true, false, List, [], ◌∷◌, length, get_or, take, drop, map, Result, Ok, Err, IfOk, IfErr, refl, sym, ap, ◌∙◌, arith}
use Rattle.std.specs.declared.cmp.Ordering.{Ordering}
use Rattle.std.specs.declared.cmp.Ordering.TheVariants.{Less, Equal, Greater}
use Rattle.std.specs.Ordering.{is_lt, is_gt, ordering_reverse}
use Rattle.std.specs.List.{All, AllWithin}
use Rattle.std.specs.List.Sorted.{IsSearchInRange, IsBinarySearchResult, IsSortedBy}
use Rattle.std.proofs.lemmas.Bool.{and_parts, true≢false}
use Rattle.std.proofs.lemmas.List.{get_or-map as read_map, get_or-take, get_or-drop, length-take, length-drop, length-map, take-map, drop-map}
use Rattle.std.proofs.Math.ListN.{get_or-map}
use Rattle.std.proofs.lemmas.List.Elements.{Contains-get_or, All-map}
use Rattle.std.proofs.lemmas.List.Sums.{list_all-from_AllPass}
use Rattle.std.proofs.lemmas.List.Sorted.{searchable_from_sorted}
use Rattle.profile.specs.rooms.Revisions.{Part, place_cmp}
use Rattle.itip_order.specs.Registers.{is_ascending, IsAt, IsGap}
use Rattle.itip_order.proofs.Lists.{all_at}
use Rattle.itip_order.proofs.Order.{place_total}

-- each place is below a later one
ascending_at : (xs : List Part) (i j : ℕ) (d : Part) → is_ascending xs ≡ true → i < j → j < length xs → is_lt (place_cmp (get_or xs i d) (get_or xs j d)) ≡ true
ascending_at [] i j d a lt in_range = absurd (omega arith)
ascending_at (x ∷ xs) zero zero d a lt in_range = absurd (omega arith)
ascending_at (x ∷ xs) zero (suc j) d a lt in_range = all_at (λ y. is_lt (place_cmp x y)) xs (get_or xs j d) (and_parts _ _ a).0 (Contains-get_or xs j d (omega arith))
ascending_at (x ∷ xs) (suc i) zero d a lt in_range = absurd (omega arith)
ascending_at (x ∷ xs) (suc i) (suc j) d a lt in_range = ascending_at xs i j d (and_parts _ _ a).1 (omega arith) (omega arith)

-- what is below isn't above
not_back : (o p : Ordering) → o ≡ ordering_reverse p → is_lt o ≡ true → is_lt p ≡ false
not_back o Less e h = absurd (true≢false (sym h ∙ ap is_lt e))
not_back o Equal e h = refl
not_back o Greater e h = refl

module _ {X : Type 0} (f : X → Part) (xs : List X) (a : is_ascending (map f xs) ≡ true) where
  sorted : IsSortedBy (λ x y. is_lt (place_cmp (f x) (f y))) xs
  sorted k d low high =
      let up = ascending_at (map f xs) k (k + 1) (f d) a (omega arith) (rw length-map high) in
      let at_k = get_or-map f xs k d in
      let at_next = get_or-map f xs (k + 1) d in
      not_back _ _ (place_total.antisymm (f (get_or xs k d)) (f (get_or xs (k + 1) d))) (rw (at_k, at_next) at up)

  within_take : (P : X → Type 0) (i : ℕ) → i ≤ length xs → AllWithin P xs 0 i → All P (take i xs)
  within_take P i le w k d lt = let below : k < i = omega (arith, length-take i xs) in rw get_or-take (w k d (omega arith) below)

  within_drop : (P : X → Type 0) (i : ℕ) → AllWithin P xs i (length xs) → All P (drop i xs)
  within_drop P i w k d lt = rw get_or-drop (w (i + k) d (omega arith) (omega (arith, length-drop i xs)))

  element : (ys : List X) (k : ℕ) → k < length ys → X
  element [] k lt = absurd (omega arith)
  element (y ∷ ys) k lt = y

  -- what the binary search answers
  pub searched : (target : Part) (r : Result ℕ ℕ) → IsSearchInRange r (length xs) → IsBinarySearchResult (λ x. place_cmp (f x) target) xs r → IfOk r (IsAt (map f xs) target) × IfErr r (IsGap (map f xs) target)
  searched target (Ok at) in_range equal = (
    record {
      in_range = rw length-map in_range;
      same = λ d. rw (read_map f xs at (element xs at in_range) d in_range) (equal (element xs at in_range));
    },
    tt,
  )
  searched target (Err at) in_range parted =
      let rises = searchable_from_sorted place_total f xs target sorted in
      let parts = parted rises in (
        tt,
        record {
          in_range = rw length-map in_range;
          below = rw take-map (list_all-from_AllPass (λ r. is_lt (place_cmp r target)) (map f (take at xs)) (All-map (λ r. is_lt (place_cmp r target) ≡ true) f (take at xs) (λ k d lt. ap is_lt (within_take (λ x. place_cmp (f x) target ≡ Less) at in_range parts.0 k d lt))));
          above = rw drop-map (list_all-from_AllPass (λ r. is_gt (place_cmp r target)) (map f (drop at xs)) (All-map (λ r. is_gt (place_cmp r target) ≡ true) f (drop at xs) (λ k d lt. ap is_gt (within_drop (λ x. place_cmp (f x) target ≡ Greater) at parts.1 k d lt))));
        },
      )
