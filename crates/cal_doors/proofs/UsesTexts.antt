-- Numbers of seconds that come back from their bits. For `earliest_of` and `midnight_in`.
use Rattle.std.proofs.Common.{◌≡◌, ◌∙◌, ap, arith, ℤ, pos, negsuc, ◌-ℤ◌, ◌*ℤ◌, ◌≤ℤ◌, to_z, of_z, w64}
use Rattle.jiff_core.proofs.SignedLemmas.{signed_arith}
use Rattle.profile.specs.series.Days.{IsDayNumber}

seconds_back : (n : ℤ) → IsDayNumber n → to_z w64 (of_z w64 (n *ℤ pos 86_400)) ≡ n *ℤ pos 86_400
seconds_back n range = omega (arith, signed_arith, range)

pub day_back : (n : ℤ) → IsDayNumber n → to_z w64 (of_z w64 n) ≡ n
day_back n range = omega (arith, signed_arith, range)

-- the seconds of a day's midnight
pub midnight_back : (n : ℤ) → IsDayNumber n → to_z w64 (of_z w64 (to_z w64 (of_z w64 n) *ℤ pos 86_400)) ≡ n *ℤ pos 86_400
midnight_back n range = ap (λ x. to_z w64 (of_z w64 (x *ℤ pos 86_400))) (day_back n range) ∙ seconds_back n range

-- a day less a second before a local time, which may be the greatest number
pub earlier_back : (n : ℤ) → negsuc 62_135_596_799 ≤ℤ n → n ≤ℤ pos 9_223_372_036_854_775_807 → to_z w64 (of_z w64 (n -ℤ pos 86_399)) ≡ n -ℤ pos 86_399
earlier_back n low high = omega (arith, signed_arith, low, high)
