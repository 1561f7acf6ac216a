-- What holds of each two places of a list holds of each two places of the list in another order.
-- Behind Calendar::of_object of calendar, Calendar::read of calendar, Draft::add of draft, Draft::into_calendar of draft, add_singles of draft, has_equal_neighbours of draft and 7 more.
use Rattle.std.proofs.Common.{◌≡◌, ◌≢◌, ℕ, zero, suc, ◌<◌, ◌≤◌, ◌==◌, cond, List, [], ◌∷◌, length, get_or, subst, sym, refl, ap, inl, inr, arith}
use Rattle.std.specs.Prelude.{AllPairs}
use Rattle.std.specs.List.{swap}
use Rattle.std.specs.List.Sorted.{IsPermutation}
use Rattle.std.proofs.lemmas.List.Edits.{swapped_from_swap, length-swap}
use Rattle.std.proofs.lemmas.List.Sorted.{IsPermutation-keeps}
use Rattle.std.proofs.lemmas.Bool.{cases_eq, cases_lt}
use Rattle.std.proofs.lemmas.Bool.Decides.{nat_tests}

-- R holds of each two places that differ
abbrev pub Distinct : {X : Type 0} → (X → X → Type 0) → List X → Type 0
Distinct {X} R xs = (i j : ℕ) (d : X) → i < length xs → j < length xs → i ≢ j → R (get_or xs i d) (get_or xs j d)

-- where the element at k was before the exchange of a and b
source : ℕ → ℕ → ℕ → ℕ
source a b k = cond (k == a) b (cond (k == b) a k)

source_differs : (a b i j : ℕ) → i ≢ j → source a b i ≢ source a b j
unfolding source
source_differs a b i j ne e = grind (arith, nat_tests)

source_below : (a b k n : ℕ) → a < n → b < n → k < n → source a b k < n
unfolding source
source_below a b k n ha hb hk = grind (arith, nat_tests)

source_is : {X : Type 0} (xs : List X) (a b k : ℕ) (d : X) → a < length xs → b < length xs → get_or (swap xs a b) k d ≡ get_or xs (source a b k) d
unfolding source
source_is xs a b k d ha hb =
    let s = swapped_from_swap xs (swap xs a b) a b d ha hb refl in
    elim (cases_eq k a) [
      | inl e ↦ grind (arith, nat_tests)
      | inr na ↦ elim (cases_eq k b) [ inl e ↦ grind (arith, nat_tests) | inr nb ↦ grind (arith, nat_tests, s.2 k na nb) ]
    ]

distinct_swap : {X : Type 0} (R : X → X → Type 0) (xs : List X) (a b : ℕ) → a < length xs → b < length xs → Distinct R xs → Distinct R (swap xs a b)
distinct_swap {X} R xs a b ha hb h i j d hi hj ne =
    let li : i < length xs = subst (λ n. i < n) (length-swap xs a b) hi in
    let lj : j < length xs = subst (λ n. j < n) (length-swap xs a b) hj in
    subst (λ (x : X). R x (get_or (swap xs a b) j d)) (sym (source_is xs a b i d ha hb))
    (subst (λ (y : X). R (get_or xs (source a b i) d) y) (sym (source_is xs a b j d ha hb))
    (h (source a b i) (source a b j) d (source_below a b i _ ha hb li) (source_below a b j _ ha hb lj) (source_differs a b i j ne)))

pub distinct_permutation : {X : Type 0} (R : X → X → Type 0) (xs ys : List X) → IsPermutation xs ys → Distinct R xs → Distinct R ys
distinct_permutation {X} R xs ys same h =
    IsPermutation-keeps xs (Distinct R) h (λ l i j hi hj p. distinct_swap R l i j hi hj p) ys same

-- a relation of both directions: what holds of each and each later one does so in another order
pub pairs_permuted : {X : Type 0} (R : X → X → Type 0) → ((a b : X) → R a b → R b a) → (xs ys : List X) → IsPermutation xs ys → AllPairs R xs → AllPairs R ys
pairs_permuted {X} R back xs ys same p =
    let distinct : Distinct R xs = λ i j d hi hj ne. elim (cases_lt i j) [
      | inl less ↦ p i j d less hj
      | inr from ↦ back (get_or xs j d) (get_or xs i d) (p j i d (below i j from ne) hi)
    ] in
    let turned = distinct_permutation R xs ys same distinct in
    λ i j d less within. turned i j d (omega (arith, less, within)) within (λ e. omega (arith, less, e))
  where
    below : (i j : ℕ) → j ≤ i → i ≢ j → j < i
    below i j h n = grind arith

pub distinct_nil : {X : Type 0} (R : X → X → Type 0) → Distinct R []
distinct_nil R i j d hi hj ne = absurd (omega arith)

pub distinct_cons : {X : Type 0} (R : X → X → Type 0) (x : X) (xs : List X)
    → ((k : ℕ) (d : X) → k < length xs → R x (get_or xs k d) × R (get_or xs k d) x) → Distinct R xs → Distinct R (x ∷ xs)
distinct_cons R x xs both h zero zero d hi hj ne = absurd (ne refl)
distinct_cons R x xs both h zero (suc j) d hi hj ne = (both j d (omega arith)).0
distinct_cons R x xs both h (suc i) zero d hi hj ne = (both i d (omega arith)).1
distinct_cons R x xs both h (suc i) (suc j) d hi hj ne = h i j d (omega arith) (omega arith) (λ e. ne (ap suc e))

source_twice : (a b k : ℕ) → source a b (source a b k) ≡ k
unfolding source
source_twice a b k = grind (arith, nat_tests)

-- R holds of two places that differ
abbrev pub SomeTwo : {X : Type 0} → (X → X → Type 0) → List X → Type 0
SomeTwo {X} R xs = (i : ℕ) × (j : ℕ) × (d : X) × (i < length xs) × (j < length xs) × (i ≢ j) × R (get_or xs i d) (get_or xs j d)
