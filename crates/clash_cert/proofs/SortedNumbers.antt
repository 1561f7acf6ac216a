-- Looking for a number among numbers that ascend.
use Rattle.std.proofs.Common.{◌≡◌, ℕ, ◌<◌, ◌≤◌, ◌==◌, true, false, List, length, get_or, sym, ap, subst, ◌∙◌, inl, inr, eq-eqb, arith}
use Rattle.std.specs.Prelude.{AllPairs, Contains, IsTrue, ◌↔◌, ltb}
use Rattle.std.specs.List.Sorted.{IsPartitionedBy, IsPartitionPoint}
use Rattle.std.proofs.lemmas.List.{get_or_default}
use Rattle.std.proofs.lemmas.Bool.{cases_order, true≢false}
use Rattle.std.proofs.lemmas.Bool.Decides.{nat_tests}

module _ (numbers : List ℕ) (number : ℕ) (up : AllPairs ◌<◌ numbers) where
  pub parted : IsPartitionedBy (λ y. ltb y number) numbers
  parted i j d le w h =
      elim (cases_order i j) [
        | inl e ↦ grind (arith, nat_tests, e)
        | inr other ↦ elim other [
          | inl lt ↦ let less = up i j d lt w in grind (arith, nat_tests)
          | inr gt ↦ absurd (omega (arith, gt, le))
        ]
      ]

  module _ (at : ℕ) (point : IsPartitionPoint (λ y. ltb y number ≡ true) (λ y. ltb y number ≡ false) numbers at) where
    pub found : (one : ℕ) → at < length numbers → get_or numbers at one ≡ one → IsTrue (one == number) ↔ Contains numbers number
    found one w e = (
      λ h. let same : one ≡ number = grind (arith, nat_tests) in (at, w, ap (λ d. get_or numbers at d) (sym same) ∙ e ∙ same),
      λ there.
          let k = there.0 in
          let in_k = there.1 in
          let is = there.2 in
          let first : get_or numbers at number ≡ one = get_or_default numbers at number one w ∙ e in
          elim (cases_order k at) [
            | inl same ↦ let equal : one ≡ number = sym first ∙ ap (λ i. get_or numbers i number) (sym same) ∙ is in eq-eqb one number equal
            | inr other ↦ elim other [
              | inl lt ↦ absurd (let below = point.0 k number (omega arith) lt in let below : ltb number number ≡ true = subst (λ y. ltb y number ≡ true) is below in grind (arith, nat_tests))
              | inr gt ↦ absurd (
                  let less : get_or numbers at number < number = subst (λ y. get_or numbers at number < y) is (up at k number gt in_k) in
                  let not_less = point.1 at number (omega arith) w in
                  grind (arith, nat_tests, less, not_less))
            ]
          ],
    )

    pub not_found : length numbers ≤ at → IsTrue false ↔ Contains numbers number
    not_found w = (
      λ h. absurd (true≢false (sym h)),
      λ there.
          let in_k = there.1 in
          let below : ltb number number ≡ true = subst (λ y. ltb y number ≡ true) there.2 (point.0 there.0 number (omega arith) (omega (arith, in_k, w))) in
          absurd (grind (arith, nat_tests)),
    )
