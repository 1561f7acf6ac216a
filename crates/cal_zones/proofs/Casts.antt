-- Offsets and local times in the widths that hold them.
use Rattle.std.proofs.Common.{◌≡◌, ◌∙◌, ap, sym, arith, ℤ, ◌-ℤ◌, to_z, of_z, w32, w64}
use Rattle.std.proofs.lemmas.Int.{to_z-of_z}
use mir.Val.{SFits}
use Rattle.jiff_core.proofs.SignedLemmas.{signed_arith}
use Rattle.profile.specs.text.Values.{IsOffset, IsClockSeconds}
use Rattle.ical_values.proofs.Facts.{wide_clock}

pub narrow : (z : ℤ) → IsOffset z → to_z w32 (of_z w32 z) ≡ z
narrow z h = omega (arith, signed_arith, h)

pub wide_offset : (z : ℤ) → IsOffset z → to_z w64 (of_z w64 z) ≡ z
wide_offset z h = omega (arith, signed_arith, h)

difference : (s o : ℤ) → IsClockSeconds s → IsOffset o → to_z w64 (of_z w64 (s -ℤ o)) ≡ s -ℤ o
difference s o h k = omega (arith, signed_arith, h, k)

-- a local time less an offset
pub read_with : (s o : ℤ) → IsClockSeconds s → IsOffset o → to_z w64 (of_z w64 (to_z w64 (of_z w64 s) -ℤ to_z w64 (of_z w64 (to_z w32 (of_z w32 o))))) ≡ s -ℤ o
read_with s o h k = rw (narrow o k, wide_offset o k, wide_clock s h) (difference s o h k)

-- offsets of the same bits are the same
pub same_bits : (a b : ℤ) → IsOffset a → IsOffset b → of_z w32 a ≡ of_z w32 b → a ≡ b
same_bits a b h k e = sym (narrow a h) ∙ ap (to_z w32) e ∙ narrow b k

-- and so is a number in range of the same bits
pub same_offset : (a b : ℤ) → IsOffset a → SFits w32 b → of_z w32 a ≡ of_z w32 b → a ≡ b
same_offset a b h k e = sym (narrow a h) ∙ (ap (to_z w32) e ∙ to_z-of_z w32 b k)
