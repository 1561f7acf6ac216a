-- The local time that the clocks of a zone show, as a sum that saturates.
use Rattle.std.proofs.Common.{◌≡◌, ◌∙◌, ap, refl, sym, subst, FitsSigned, to_z, of_z, to_z-of_z, w32, w64, arith, ℤ, pos, negsuc, ◌+ℤ◌}
use Rattle.std.specs.Int.{saturate_signed, saturate_to_bits}
use Rattle.std.proofs.lemmas.Int.{ints}
use Rattle.profile.specs.text.Values.{IsClockSeconds, IsOffset}
use Rattle.cal_zones.proofs.Casts.{narrow, wide_offset}

-- seconds that a clock shows aren't the end of a width
unsaturated : (z : ℤ) → IsClockSeconds (saturate_to_bits 63 z) → saturate_to_bits 63 z ≡ z
unsaturated (pos n) h = let high = h.1 in ap pos (omega (arith, ints, high))
unsaturated (negsuc n) h = let low = h.0 in ap negsuc (omega (arith, ints, low))

within : (z : ℤ) → IsClockSeconds z → saturate_to_bits 63 z ≡ z
within (pos n) h = let high = h.1 in ap pos (omega (arith, ints, high))
within (negsuc n) h = let low = h.0 in ap negsuc (omega (arith, ints, low))

module _ (instant offset sum : ℤ) (fits : FitsSigned w64 instant) (o : IsOffset offset)
    (is : sum ≡ saturate_signed w64 (to_z w64 (of_z w64 instant) +ℤ to_z w64 (of_z w64 (to_z w32 (of_z w32 offset))))) where
  same : to_z w64 (of_z w64 instant) +ℤ to_z w64 (of_z w64 (to_z w32 (of_z w32 offset))) ≡ instant +ℤ offset
  same = rw (narrow offset o, to_z-of_z fits, wide_offset offset o) refl

  pub shown_sum : IsClockSeconds sum → instant +ℤ offset ≡ sum
  shown_sum clock = sym (is ∙ (unsaturated _ (rw is at clock) ∙ same))

  pub not_shown : (IsClockSeconds sum → ⊥) → IsClockSeconds (instant +ℤ offset) → ⊥
  not_shown none clock = none (subst IsClockSeconds (sym (is ∙ ap (saturate_signed w64) same ∙ within (instant +ℤ offset) clock)) clock)
