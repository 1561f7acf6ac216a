-- Instants in order, and what a binary search finds among them.
-- Cited by Instants::first_from, Instants::has, Instants::of, has_twins.
use Rattle.std.proofs.Common.{◌≡◌, ◌≢◌, ◌∙◌, ℕ, Bool, ◌+◌, ◌<◌, ◌≤◌, true, false, List, length, get_or, refl, sym, ap, subst, arith, inl, inr, ℤ, pos, ◌<ℤ◌, ◌≤ℤ◌}
use Rattle.std.specs.Prelude.{AllPairs, Contains, Some, None, int_lt, IsTrue, ◌↔◌, Result, Ok, Err, MatchBool}
use Rattle.std.specs.declared.cmp.Ordering.{Ordering}
use Rattle.std.specs.declared.cmp.Ordering.TheVariants.{Less, Equal, Greater}
use Rattle.std.specs.Ordering.{int_cmp, int_eq, is_lt}
use Rattle.std.specs.Result.{is_ok}
use Rattle.std.specs.List.{AllAdjacentBelow, dedup}
use Rattle.std.specs.List.Sorted.{IsPermutation, IsStrictlySortedBy, IsSorted, IsSearchInRange, IsBinarySearchResult, IsPartitionedBy, IsPartitionPoint}
use Rattle.std.specs.FinMap.{int_cmp-IsAntisymmetric}
use Rattle.std.proofs.lemmas.Bool.{cases_lt, true≢false, false≢true}
use Rattle.std.proofs.lemmas.Bool.Decides.{Decides-int_eq}
use Rattle.std.proofs.lemmas.Cmp.{int_ranked, int_cmp_total, int_eq_equiv}
use Rattle.std.proofs.lemmas.List.Kept.{Contains-dedup, Contains-from_dedup, IsStrictlySortedBy-dedup}
use Rattle.std.proofs.lemmas.Int.{ints}
use Rattle.std.proofs.lemmas.List.{get_or_default}
use Rattle.std.proofs.lemmas.List.Sorted.{Contains-permutation, IsPermutation-sym, searchable_from_sorted, sorted_far, ranks_by}
use Rattle.std.proofs.lemmas.Map.Keys.{Less-from_sorted}
use Rattle.cal_events.proofs.shared_lemmas.Distinct.{pairs_permuted}
use Rattle.cal_events.specs.Instants.{IsFirstFrom}
use Rattle.cal_events.specs.Neighbours.{HaveEqual, HaveNoEqual}

not_less : (x : ℤ) → int_cmp x x ≡ Less → ⊥
not_less x e = let l : x <ℤ x = int_ranked x x Less (sym e) in absurd (omega (arith, ints, l))

not_greater : (x : ℤ) → int_cmp x x ≡ Greater → ⊥
not_greater x e = let l : x <ℤ x = int_ranked x x Greater (sym e) in absurd (omega (arith, ints, l))

module _ (xs : List ℤ) (up : IsSorted int_cmp xs) where
  pub has_found : (t : ℤ) (r : Result ℕ ℕ) → IsSearchInRange r (length xs) → IsBinarySearchResult (λ y. int_cmp y t) xs r → IsTrue (is_ok r) ↔ Contains xs t
  has_found t (Ok i) in_range at = ((λ _. (i, in_range, int_cmp-IsAntisymmetric (get_or xs i t) t (at t))), λ _. refl)
  has_found t (Err i) in_range parted = ((λ e. absurd (false≢true e)), λ c. absurd (lacks c))
    where
      lacks : Contains xs t → ⊥
      lacks (k, w, e) =
          let parts = parted (searchable_from_sorted int_cmp_total (λ y. y) xs t up) in
          elim (cases_lt k i) [
            | inl below ↦ not_less t (subst (λ (x : ℤ). int_cmp x t ≡ Less) e (parts.0 k t (omega arith) below))
            | inr from ↦ not_greater t (subst (λ (x : ℤ). int_cmp x t ≡ Greater) e (parts.1 k t from w))
          ]

  -- an element isn't less than one before it
  pub far : (i j : ℕ) (d : ℤ) → i ≤ j → j < length xs → get_or xs i d ≤ℤ get_or xs j d
  far i j d a b = go (int_cmp (get_or xs j d) (get_or xs i d)) refl (sorted_far (λ x y. is_lt (int_cmp x y)) (ranks_by int_cmp_total (λ y. y)) xs up i j d a b)
    where
      go : (r : Ordering) → r ≡ int_cmp (get_or xs j d) (get_or xs i d) → is_lt (int_cmp (get_or xs j d) (get_or xs i d)) ≡ false → get_or xs i d ≤ℤ get_or xs j d
      go Less e h = absurd (true≢false (ap is_lt e ∙ h))
      go Equal e h = let s : get_or xs j d ≡ get_or xs i d = int_ranked _ _ Equal e in omega (arith, ints, s)
      go Greater e h = let s : get_or xs i d <ℤ get_or xs j d = int_ranked _ _ Greater e in omega (arith, ints, s)

  pub parted : (from : ℤ) → IsPartitionedBy (λ y. int_lt y from) xs
  parted from i j d a b h = let l = far i j d a b in grind (arith, ints)

  module _ (from : ℤ) (at : ℕ) (point : IsPartitionPoint (λ y. int_lt y from ≡ true) (λ y. int_lt y from ≡ false) xs at) where
    before : (k : ℕ) (t : ℤ) → k < at → k < length xs → get_or xs k t ≡ t → from ≤ℤ t → ⊥
    before k t lt w e a = let l : int_lt t from ≡ true = subst (λ (x : ℤ). int_lt x from ≡ true) e (point.0 k t (omega arith) lt) in grind (arith, ints)

    pub first_there : (x : ℤ) → at < length xs → get_or xs at x ≡ x → IsFirstFrom xs from (Some x)
    first_there x w e = (
      (at, w, e),
      (let l : int_lt x from ≡ false = subst (λ (y : ℤ). int_lt y from ≡ false) e (point.1 at x (omega arith) w) in grind (arith, ints)),
      λ u c a. elim (cases_lt c.0 at) [
        | inl below ↦ absurd (before c.0 u below c.1 c.2 a)
        | inr after ↦ let l : get_or xs at u ≤ℤ get_or xs c.0 u = far at c.0 u after c.1 in omega (arith, ints, l, c.2, get_or_default xs at x u w, e)
      ],
    )

    pub none_there : length xs ≤ at → IsFirstFrom xs from None
    none_there le = λ t c a. before c.0 t (omega (arith, c.1, le)) c.1 c.2 a

  -- where neighbours differ all do
  all_differ : AllAdjacentBelow ◌≢◌ xs (length xs) → AllPairs ◌≢◌ xs
  all_differ apart i j d lt w e =
      let step = far i (i + 1) d (omega arith) (omega (arith, lt, w)) in
      let rest = far (i + 1) j d (omega (arith, lt)) w in
      apart i d (omega (arith, lt, w)) (omega (arith, ints, step, rest, e))

-- two of one instant are side by side
twins_side : (xs : List ℤ) → HaveEqual int_eq xs → AllPairs ◌≢◌ xs → ⊥
twins_side xs (k, w, e) differ = differ k (k + 1) (pos 0) (omega arith) w ((Decides-int_eq _ _).0 (e (pos 0)))

none_side : (xs : List ℤ) → IsSorted int_cmp xs → HaveNoEqual int_eq xs → AllPairs ◌≢◌ xs
none_side xs up differ = all_differ xs up (λ k d w e. true≢false (sym ((Decides-int_eq _ _).1 e) ∙ differ k d w))

pub twins_found : (xs : List ℤ) → IsSorted int_cmp xs → (found : Bool) → MatchBool found (HaveEqual int_eq xs) (HaveNoEqual int_eq xs) → MatchBool found (AllPairs ◌≢◌ xs → ⊥) (AllPairs ◌≢◌ xs)
twins_found xs up true h = twins_side xs h
twins_found xs up false h = none_side xs up h

-- what is so of neighbours after a sort is so of all
pub twins_moved : (xs sorted : List ℤ) → IsPermutation xs sorted → (found : Bool) → MatchBool found (AllPairs ◌≢◌ sorted → ⊥) (AllPairs ◌≢◌ sorted) → MatchBool found (AllPairs ◌≢◌ xs → ⊥) (AllPairs ◌≢◌ xs)
twins_moved xs sorted same true twins = λ differ. twins (pairs_permuted ◌≢◌ (λ a b other e. other (sym e)) xs sorted same differ)
twins_moved xs sorted same false differ = pairs_permuted ◌≢◌ (λ a b other e. other (sym e)) sorted xs (IsPermutation-sym xs sorted same) differ

-- ---- each once

pub strictly_sorted : (sorted left : List ℤ) → IsSorted int_cmp sorted → left ≡ dedup int_eq sorted → IsStrictlySortedBy int_cmp left
strictly_sorted sorted left up is = subst (IsStrictlySortedBy int_cmp) (sym is) (IsStrictlySortedBy-dedup int_cmp_total (λ x y. refl) sorted up)

pub ascends : (xs : List ℤ) → IsStrictlySortedBy int_cmp xs → AllPairs ◌<ℤ◌ xs
ascends xs up i j d l w = int_ranked _ _ Less (sym (Less-from_sorted int_cmp xs i j d up l w))

pub still_sorted : (sorted left : List ℤ) → IsSorted int_cmp sorted → left ≡ dedup int_eq sorted → IsSorted int_cmp left
still_sorted sorted left up is k d low w =
    let l : get_or left k d <ℤ get_or left (k + 1) d = ascends left (strictly_sorted sorted left up is) k (k + 1) d (omega arith) w in
    go (get_or left k d) (get_or left (k + 1) d) l (int_cmp (get_or left (k + 1) d) (get_or left k d)) refl
  where
    go : (x y : ℤ) → x <ℤ y → (r : Ordering) → r ≡ int_cmp y x → is_lt r ≡ false
    go x y l Less e = let m : y <ℤ x = int_ranked y x Less e in absurd (omega (arith, ints, l, m))
    go x y l Equal e = refl
    go x y l Greater e = refl

pub kept_once : (xs sorted left : List ℤ) → IsPermutation xs sorted → left ≡ dedup int_eq sorted → (t : ℤ) → Contains left t ↔ Contains xs t
kept_once xs sorted left same is t = (
  (λ c. Contains-permutation sorted xs t (IsPermutation-sym xs sorted same) (Contains-from_dedup int_eq sorted t (subst (λ (l : List ℤ). Contains l t) is c))),
  λ c. subst (λ (l : List ℤ). Contains l t) (sym is) (Contains-dedup int_eq_equiv (λ x y e. (Decides-int_eq x y).0 e) sorted t (Contains-permutation xs sorted t same c)),
)
