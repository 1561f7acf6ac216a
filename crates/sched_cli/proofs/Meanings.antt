-- Meanings that begin with their numbers.
use Rattle.std.proofs.Common.{◌≡◌, ◌∙◌, ◌++◌, ◌+◌, ◌/◌, ◌%◌, ◌<◌, ◌≤◌, ℕ, [], ◌∷◌, decimal, ap, arith}
use Rattle.std.proofs.lemmas.Fmt.{decimal_digit, decimal_step}

-- a number of one digit, and of two
pub ones : {n k : ℕ} → n ≡ k → k < 10 → decimal n ≡ (48 + k) ∷ []
ones {n} {k} is small = ap decimal is ∙ decimal_digit k small

pub tens : {n k : ℕ} → n ≡ k → 10 ≤ k → k / 10 < 10 → decimal n ≡ (48 + k / 10) ∷ (48 + k % 10) ∷ []
tens {n} {k} is two small = ap decimal is ∙ decimal_step k two (omega (arith, small)) ∙ ap (λ ds. ds ++ ((48 + k % 10) ∷ [])) (decimal_digit (k / 10) small)
