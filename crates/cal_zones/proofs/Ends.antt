-- The two ends of a zone are the offsets that it names.
use Rattle.std.proofs.Common.{◌≡◌, ◌∙◌, sym, inl, inr, ◌⊎◌, ℤ}
use Rattle.profile.specs.series.Zones.{Observance, Zone, Constant, Single, Pair}
use Rattle.profile.specs.series.Residues.{IsOffsetIn, IsOffsetOf}
use Rattle.cal_zones.specs.Kinds.{AreEnds, IsOrdered}

to_end : (from to least greatest o : ℤ) → IsOrdered from to least greatest → (o ≡ from) ⊎ (o ≡ to) → (o ≡ least) ⊎ (o ≡ greatest)
to_end from to least greatest o (inl k) (inl e) = inl (e ∙ sym k.0)
to_end from to least greatest o (inl k) (inr e) = inr (e ∙ sym k.1)
to_end from to least greatest o (inr k) (inl e) = inr (e ∙ sym k.1)
to_end from to least greatest o (inr k) (inr e) = inl (e ∙ sym k.0)

from_end : (from to least greatest o : ℤ) → IsOrdered from to least greatest → (o ≡ least) ⊎ (o ≡ greatest) → (o ≡ from) ⊎ (o ≡ to)
from_end from to least greatest o (inl k) (inl e) = inl (e ∙ k.0)
from_end from to least greatest o (inl k) (inr e) = inr (e ∙ k.1)
from_end from to least greatest o (inr k) (inl e) = inr (e ∙ k.0)
from_end from to least greatest o (inr k) (inr e) = inl (e ∙ k.1)

-- each of two observances ends what the other sets
first_of_two : (a b : Observance) (o : ℤ) → a.offset_to ≡ b.offset_from → b.offset_to ≡ a.offset_from → IsOffsetIn a o ⊎ IsOffsetIn b o → (o ≡ a.offset_from) ⊎ (o ≡ a.offset_to)
first_of_two a b o e f (inl k) = k
first_of_two a b o e f (inr (inl k)) = inr (k ∙ sym e)
first_of_two a b o e f (inr (inr k)) = inl (k ∙ f)

pub are_offsets : (z : Zone) (least greatest : ℤ) → AreEnds z least greatest → (o : ℤ) → (IsOffsetOf z o → (o ≡ least) ⊎ (o ≡ greatest)) × ((o ≡ least) ⊎ (o ≡ greatest) → IsOffsetOf z o)
are_offsets (Constant k) least greatest h o = (λ e. inl (e ∙ sym h.0), back)
  where
    back : (o ≡ least) ⊎ (o ≡ greatest) → o ≡ k
    back (inl e) = e ∙ h.0
    back (inr e) = e ∙ h.1
are_offsets (Single a) least greatest h o = (λ is. to_end a.offset_from a.offset_to least greatest o h is, λ is. from_end a.offset_from a.offset_to least greatest o h is)
are_offsets (Pair a b) least greatest h o =
    (λ is. to_end a.offset_from a.offset_to least greatest o h.0 (first_of_two a b o h.1 h.2 is), λ is. inl (from_end a.offset_from a.offset_to least greatest o h.0 is))
