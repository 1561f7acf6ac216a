-- Instants and what clocks show at them.
use Rattle.std.proofs.Common.{◌≡◌, to_z, of_z, w32, w64, arith, ℕ, List, [], ◌∷◌, ℤ, ◌+ℤ◌}
use Rattle.std.proofs.lemmas.Int.{ints}
use Rattle.profile.specs.text.Values.{IsOffset}
use Rattle.cal_zones.proofs.Casts.{narrow, wide_offset}
use Rattle.cal_agenda.specs.Html.{joined}
use Rattle.cal_agenda.specs.Pages.{IsWellWithin}

pub wide : (t : ℤ) → IsWellWithin t → to_z w64 (of_z w64 t) ≡ t
wide t h = omega (arith, ints, h.0, h.1)

sum_wide : (t offset : ℤ) → IsWellWithin t → IsOffset offset → to_z w64 (of_z w64 (t +ℤ offset)) ≡ t +ℤ offset
sum_wide t offset h o = omega (arith, ints, h.0, h.1, o)

-- the sum that the clocks show, in the widths that hold it
pub shown_sum : (t offset : ℤ) → IsWellWithin t → IsOffset offset
    → to_z w64 (of_z w64 (to_z w64 (of_z w64 t) +ℤ to_z w64 (of_z w64 (to_z w32 (of_z w32 offset))))) ≡ t +ℤ offset
shown_sum t offset h o = rw (narrow offset o, wide_offset offset o, wide t h) (sum_wide t offset h o)

-- three texts among others, by what they are
pub six_joined : (x y z : List ℕ) {a b c d e f : List ℕ} → a ≡ b → c ≡ d → e ≡ f → joined (a ∷ x ∷ c ∷ y ∷ e ∷ z ∷ []) ≡ joined (b ∷ x ∷ d ∷ y ∷ f ∷ z ∷ [])
six_joined x y z p q r = λ i. joined (p i ∷ x ∷ q i ∷ y ∷ r i ∷ z ∷ [])
