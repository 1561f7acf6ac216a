-- What a test says, and a cast that keeps a number.
use Rattle.std.proofs.Common.{to_z, of_z, w64, ◌≡◌, ◌∙◌, sym, refl, ℕ, ◌==◌, Bool, true, List, [], length, ℤ, arith}
use Rattle.std.proofs.lemmas.Bool.{true≢false, eqb-true}
use Rattle.std.proofs.lemmas.Int.{ints}
use Rattle.std.proofs.lemmas.List.{nil_from_length}
use Rattle.std.specs.declared.cmp.Ordering.{Ordering}
use Rattle.std.specs.declared.cmp.Ordering.TheVariants.{Less, Equal, Greater}
use Rattle.std.specs.Ordering.{is_lt}
use Rattle.profile.specs.text.Values.{IsClockSeconds}

-- what `is_empty` says
pub empty_from : (xs : List ℕ) (b : Bool) → b ≡ (length xs == 0) → b ≡ true → xs ≡ []
empty_from xs b e h = nil_from_length xs (eqb-true (length xs) 0 (sym e ∙ h))

pub is_lt_true : (o : Ordering) → is_lt o ≡ true → o ≡ Less
is_lt_true Less e = refl
is_lt_true Equal e = absurd (true≢false (sym e))
is_lt_true Greater e = absurd (true≢false (sym e))

-- seconds of a clock keep their value in 64 bits
pub wide_clock : (seconds : ℤ) → IsClockSeconds seconds → to_z w64 (of_z w64 seconds) ≡ seconds
wide_clock seconds h = omega (arith, ints, h.0, h.1)
