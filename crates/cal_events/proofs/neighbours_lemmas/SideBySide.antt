-- What is known of values side by side, one place further.
-- Cited by has_equal_neighbours.
use Rattle.std.proofs.Common.{◌≡◌, ◌∙◌, ℕ, Bool, ◌+◌, ◌-◌, ◌<◌, ◌≤◌, true, false, List, length, get_or, sym, ap, inl, inr, arith}
use Rattle.std.specs.List.{AllAdjacentBelow}
use Rattle.std.proofs.lemmas.Bool.{cases_lt}
use Rattle.std.proofs.lemmas.List.{get_or_default}
use Rattle.cal_events.specs.Neighbours.{HaveEqual}

module _ {X : Type 0} (same : X → X → Bool) (xs : List X) (next : ℕ) (first : 1 ≤ next) (within : next < length xs)
    (a b : X) (a_is : a ≡ get_or xs (next - 1) a) (b_is : b ≡ get_or xs next b) where
  before : next - 1 + 1 ≡ next
  before = omega (arith, first)

  there : (x : X) → get_or xs (next - 1) x ≡ a
  there x = get_or_default xs (next - 1) x a (omega (arith, first, within)) ∙ sym a_is

  behind : (x : X) → get_or xs next x ≡ b
  behind x = get_or_default xs next x b within ∙ sym b_is

  pub equal_at : true ≡ same a b → HaveEqual same xs
  equal_at h = (
    next - 1,
    omega (arith, first, within),
    λ x.
        ap (λ y. same y (get_or xs (next - 1 + 1) x)) (there x) ∙ ap (λ j. same a (get_or xs j x)) before ∙ ap (same a) (behind x) ∙ sym h,
  )

  pub one_further : AllAdjacentBelow (λ p q. same p q ≡ false) xs next → false ≡ same a b → AllAdjacentBelow (λ p q. same p q ≡ false) xs (next + 1)
  one_further h differ k x w =
      elim (cases_lt (k + 1) next) [
        | inl below ↦ h k x below
        | inr from ↦
            let at : k + 1 ≡ next = omega (arith, w, from) in
            let at_k : k ≡ next - 1 = omega (arith, w, from) in
            let p : get_or xs k x ≡ a = ap (λ j. get_or xs j x) at_k ∙ there x in
            let q : get_or xs (k + 1) x ≡ b = ap (λ j. get_or xs j x) at ∙ behind x in
            ap (λ y. same y (get_or xs (k + 1) x)) p ∙ ap (same a) q ∙ sym differ
      ]
