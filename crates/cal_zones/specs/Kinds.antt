-- What a zone represents, and two numbers by their order.
use Rattle.std.specs.Prelude.{◌≡◌, ◌⊎◌, ℤ, ◌≤ℤ◌}
use Rattle.profile.specs.series.Zones.{Zone, Constant, Single, Pair}
use Rattle.cal_zones.specs.Onsets.{observance_of}
use Rattle.cal_zones.specs.declared.observance.Observance.{Observance}
use Rattle.cal_zones.specs.declared.zone.Form as rust
use Rattle.cal_zones.specs.declared.zone.Form.TheVariants as the
use Rattle.cal_zones.specs.declared.zone.Zone as kept

abbrev pub pair_of : Observance → Observance → Zone
pair_of a b = Pair (observance_of a) (observance_of b)

abbrev pub zone_of_form : rust.Form → Zone
zone_of_form (the.Constant k) = Constant k.offset
zone_of_form (the.Single a) = Single (observance_of a.observance)
zone_of_form (the.Pair p) = pair_of p.standard p.daylight

abbrev pub zone_of : kept.Zone → Zone
zone_of z = zone_of_form z.kind

-- two numbers, the lesser first
abbrev pub IsOrdered : ℤ → ℤ → ℤ → ℤ → Type 0
IsOrdered from to least greatest =
    ((least ≡ from) × (greatest ≡ to) × (from ≤ℤ to)) ⊎ ((least ≡ to) × (greatest ≡ from) × (to ≤ℤ from))

-- the two offsets of a zone, the lesser first. Of two observances each ends what the other sets
abbrev pub AreEnds : Zone → ℤ → ℤ → Type 0
AreEnds (Constant k) least greatest = (least ≡ k) × (greatest ≡ k)
AreEnds (Single a) least greatest = IsOrdered a.offset_from a.offset_to least greatest
AreEnds (Pair a b) least greatest =
    IsOrdered a.offset_from a.offset_to least greatest × (a.offset_to ≡ b.offset_from) × (b.offset_to ≡ a.offset_from)
