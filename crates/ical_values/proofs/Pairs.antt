-- Two digits and four, as octets.
use Rattle.std.proofs.Common.{◌≡◌, ℕ, ◌+◌, ◌/◌, ◌%◌, [], ◌∷◌}
use Rattle.profile.specs.text.Values.{two_digits}

pub two_heads : (n a b : ℕ) → two_digits n ≡ a ∷ b ∷ [] → (48 + n / 10 ≡ a) × (48 + n % 10 ≡ b)
two_heads n a b e = (cc, cc)
