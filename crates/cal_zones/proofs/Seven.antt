-- The least of seven numbers in a row is the first.
use Rattle.std.proofs.Common.{◌≡◌, ◌∙◌, refl, subst, inl, inr, ◌⊎◌, ℕ, ◌+◌, ◌≤◌, Bool, true, false, List, [], ◌∷◌, arith, ℤ, pos, negsuc, ◌≤ℤ◌, ◌<ℤ◌, Some, Result, Ok, Err, nat_abs, Ordering, Less, Equal, Greater}
use Rattle.std.specs.List.{list_all, list_any, reduce, fold}
use Rattle.std.specs.Ordering.{int_eq, int_cmp, min_by_ordering, MatchOrdering}
use Rattle.std.specs.Cmp.{int_ranks}
use Rattle.std.specs.Int.{FitsUnsignedBits}
use Rattle.std.specs.Result.{OkIff, result_ok}
use Rattle.std.proofs.lemmas.Bool.{false≢true, and_parts, or_cases}
use Rattle.std.proofs.lemmas.Bool.Decides.{nat_tests, Decides-int_eq}
use Rattle.jiff_core.proofs.SignedLemmas.{signed_arith}
use Rattle.profile.specs.series.ZoneTexts.{is_of_seven, are_seven}
use Rattle.cal_zones.proofs.Named.{seven_at}

abbrev pub least : ℤ → ℤ → ℤ
least a b = min_by_ordering (int_cmp a b) a b

least_by : (a b : ℤ) (o : Ordering) → MatchOrdering o (a <ℤ b) (a ≡ b) (b <ℤ a) → ((min_by_ordering o a b ≡ a) × (a ≤ℤ b)) ⊎ ((min_by_ordering o a b ≡ b) × (b ≤ℤ a))
least_by a b Less m = inl (refl, omega (arith, signed_arith))
least_by a b Equal m = inl (refl, omega (arith, signed_arith))
least_by a b Greater m = inr (refl, omega (arith, signed_arith))

least_cases : (a b : ℤ) → ((least a b ≡ a) × (a ≤ℤ b)) ⊎ ((least a b ≡ b) × (b ≤ℤ a))
least_cases a b = least_by a b (int_cmp a b) (int_ranks a b)

least_low : (low a b : ℤ) → low ≤ℤ a → low ≤ℤ b → low ≤ℤ least a b
least_low low a b h k = elim (least_cases a b) [
  | inl e ↦ rw e.0 h
  | inr e ↦ rw e.0 k
]

-- the bound itself is the least, where it is there
least_is : (low a b : ℤ) → low ≤ℤ a → low ≤ℤ b → (a ≡ low) ⊎ (b ≡ low) → least a b ≡ low
least_is low a b h k (inl s) = elim (least_cases a b) [
  | inl e ↦ e.0 ∙ s
  | inr e ↦ e.0 ∙ (let same : b ≡ low = omega (arith, signed_arith, e.1) in same)
]
least_is low a b h k (inr s) = elim (least_cases a b) [
  | inl e ↦ e.0 ∙ (let same : a ≡ low = omega (arith, signed_arith, e.1) in same)
  | inr e ↦ e.0 ∙ s
]

of_seven_low : (first : ℕ) (z : ℤ) → is_of_seven first z ≡ true → pos first ≤ℤ z
of_seven_low first (pos n) h = let low : first ≤ n = grind (arith, nat_tests) in omega (arith, signed_arith)
of_seven_low first (negsuc n) h = absurd (false≢true h)

fold_least : (first : ℕ) (x : ℤ) (xs : List ℤ) → pos first ≤ℤ x → list_all (is_of_seven first) xs ≡ true
    → (x ≡ pos first) ⊎ (list_any (λ y. int_eq y (pos first)) xs ≡ true) → fold least x xs ≡ pos first
fold_least first x [] low all (inl e) = e
fold_least first x [] low all (inr e) = absurd (false≢true e)
fold_least first x (y ∷ ys) low all some =
    let a = and_parts (is_of_seven first y) (list_all (is_of_seven first) ys) all in
    let next : pos first ≤ℤ y = of_seven_low first y a.0 in
    fold_least first (least x y) ys (least_low (pos first) x y low next) a.1 (elim some [
      | inl e ↦ inl (least_is (pos first) x y low next (inl e))
      | inr e ↦ elim (or_cases (int_eq y (pos first)) (list_any (λ z. int_eq z (pos first)) ys) e) [
        | inl here ↦ inl (least_is (pos first) x y low next (inr ((Decides-int_eq y (pos first)).0 here)))
        | inr there ↦ inr there
      ]
    ])

least_of : (first : ℕ) (m : ℤ) (xs : List ℤ) → are_seven first xs ≡ true → Some m ≡ reduce least xs → m ≡ pos first
least_of first m [] h e = cc
least_of first m (x ∷ xs) h e =
    let t = seven_at first (x ∷ xs) h in
    let a = and_parts (is_of_seven first x) (list_all (is_of_seven first) xs) t.0 in
    let zero : first + 0 ≡ first = omega arith in
    let there : list_any (λ y. int_eq y (pos first)) (x ∷ xs) ≡ true = subst (λ (n : ℕ). list_any (λ y. int_eq y (pos n)) (x ∷ xs) ≡ true) zero t.1 in
    let is : m ≡ fold least x xs = cc in
    is ∙ fold_least first x xs (of_seven_low first x a.0) a.1 (elim (or_cases (int_eq x (pos first)) (list_any (λ y. int_eq y (pos first)) xs) there) [
      | inl e2 ↦ inl ((Decides-int_eq x (pos first)).0 e2)
      | inr e2 ↦ inr e2
    ])

-- so where the least number isn't the first of seven, none is
pub none_first : (m : ℤ) (xs : List ℤ) → Some m ≡ reduce least xs → ((first : ℕ) → m ≡ pos first → first ≤ 25 → are_seven first xs ≡ true → ⊥)
    → (first : ℕ) → first ≤ 25 → are_seven first xs ≡ false
none_first m xs e never first low = not_true (are_seven first xs) (λ h. never first (least_of first m xs h e) low h)
  where
    not_true : (b : Bool) → (b ≡ true → ⊥) → b ≡ false
    not_true true h = absurd (h refl)
    not_true false h = refl

-- what `u8::try_from` gives of a number
pub as_u8 : {E : Type 0} (r : Result ℕ E) (z : ℤ) (n k : ℕ) → OkIff r (FitsUnsignedBits 8 z) (nat_abs z) → Some n ≡ result_ok r → z ≡ pos k → n ≡ k
as_u8 (Ok x) (pos j) n k t v e = let a : j ≡ k = omega (arith, signed_arith, e) in cc (t.1, a)
as_u8 (Ok x) (negsuc j) n k t v e = absurd t.0
as_u8 (Err f) z n k t v e = cc
