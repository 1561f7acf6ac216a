-- The search for the last day on which a time of day isn't past an instant.
use Rattle.std.proofs.Common.{◌≡◌, ◌∙◌, ap, refl, sym, negsuc, FitsSigned, to_z, of_z, to_z-of_z, w32, w64, inl, inr, ℕ, ◌+◌, ◌<◌, ◌≤◌, arith, ℤ, pos, ◌+ℤ◌, ◌*ℤ◌, ◌≤ℤ◌}
use Rattle.std.specs.Int.{saturate_signed, saturate_to_bits}
use Rattle.std.specs.Int.Signed.{◌<ℤ◌}
use Rattle.std.proofs.lemmas.Bool.{cases_order}
use Rattle.jiff_core.proofs.SignedLemmas.{signed_arith, one_part}
use Rattle.profile.specs.series.Days.{IsDayNumber, day_index}
use Rattle.profile.specs.text.Values.{IsClockSeconds, IsOffset}
use Rattle.profile.specs.series.Zones.{Zone, Means, NoneFrom, local_time}
use Rattle.cal_zones.proofs.Casts.{narrow, wide_offset}
use Rattle.cal_zones.proofs.Zones.{AreSides, one_meaning}

-- no meaning is before the one with the greatest offset
means_low : (z : Zone) (least greatest local t : ℤ) → AreSides z least greatest → Means z local t → local ≤ℤ (t +ℤ greatest)
means_low z least greatest local t b (inl x) =
    let s = x.shown in
    elim (b.one t s.0 s.1) [
      | inl low ↦ omega (arith, signed_arith, s.2, b.ordered)
      | inr high ↦ omega (arith, signed_arith, s.2)
    ]
means_low z least greatest local t b (inr x) =
    elim (b.sides x.onset x.listed) [
      | inl low ↦ omega (arith, signed_arith, x.read, b.ordered)
      | inr high ↦ omega (arith, signed_arith, x.read)
    ]

pub none_past : (z : Zone) (least greatest until : ℤ) (second day : ℕ) → AreSides z least greatest → ((other : ℕ) → day < other → other ≤ 3_652_424 → (until +ℤ greatest) <ℤ local_time other second) → NoneFrom z second until (day + 1)
none_past z least greatest until second day b past other from within start m =
    omega (arith, signed_arith, past other (omega arith) within, means_low z least greatest (local_time other second) start b m)

pub none_more : (z : Zone) (least greatest until start : ℤ) (second day : ℕ) → AreSides z least greatest → NoneFrom z second until (day + 1) → Means z (local_time day second) start → until <ℤ start → NoneFrom z second until day
none_more z least greatest until start second day b none m past other from within t n =
    elim (cases_order other day) [
      | inl e ↦ omega (arith, signed_arith, one_meaning z least greatest (local_time day second) start t b m (rw e at n))
      | inr (inl lt) ↦ absurd (omega arith)
      | inr (inr gt) ↦ none other (omega arith) within t n
    ]

-- the local time at a second of a day, by its number and by its index
pub local_of_day : (day : ℤ) (second : ℕ) → IsDayNumber day → (day *ℤ pos 86_400) +ℤ pos second ≡ local_time (day_index day) second
local_of_day day second h = omega (arith, signed_arith, one_part (day +ℤ pos 719_528), h.0, h.1)

-- seconds that a clock shows aren't the end of a width
unsaturated : (z : ℤ) → IsClockSeconds (saturate_to_bits 63 z) → saturate_to_bits 63 z ≡ z
unsaturated (pos n) h = ap pos (omega (arith, signed_arith, h.1))
unsaturated (negsuc n) h = ap negsuc (omega (arith, signed_arith, h.0))

-- the day and the second of it that a clock shows at an instant
pub clock_day : (until offset sum local day : ℤ) (time : ℕ) → FitsSigned w64 until → FitsSigned w64 sum → IsOffset offset
    → sum ≡ saturate_signed w64 (to_z w64 (of_z w64 until) +ℤ to_z w64 (of_z w64 (to_z w32 (of_z w32 offset))))
    → IsClockSeconds (to_z w64 (of_z w64 sum)) → local ≡ to_z w64 (of_z w64 sum) → local ≡ (day *ℤ pos 86_400) +ℤ pos time → time < 86_400 → day ≤ℤ pos 2_932_896
    → until +ℤ offset ≡ local_time (day_index day) time
clock_day until offset sum local day time fits wide o s shows l d t late =
    let cast : to_z w64 (of_z w64 sum) ≡ sum = to_z-of_z wide in
    let clock : IsClockSeconds sum = rw cast at shows in
    let same : to_z w64 (of_z w64 until) +ℤ to_z w64 (of_z w64 (to_z w32 (of_z w32 offset))) ≡ until +ℤ offset = rw (narrow offset o, to_z-of_z fits, wide_offset offset o) refl in
    let e : sum ≡ until +ℤ offset = s ∙ (unsaturated _ (rw s at clock) ∙ same) in
    let is : sum ≡ (day *ℤ pos 86_400) +ℤ pos time = sym cast ∙ (sym l ∙ d) in
    let number : IsDayNumber day = (omega (arith, signed_arith, clock.0, is, t), omega (arith, signed_arith, late)) in
    sym e ∙ (is ∙ local_of_day day time number)

-- a second of a later day, and a later second of the same day or a later one
pub later_day : (index other time second : ℕ) → time < 86_400 → index < other → local_time index time <ℤ local_time other second
later_day index other time second t o = omega (arith, signed_arith)

pub later_second : (index other time second : ℕ) → time < second → index ≤ other → local_time index time <ℤ local_time other second
later_second index other time second t o = omega (arith, signed_arith)
