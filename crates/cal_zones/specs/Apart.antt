-- Two observances that never begin at once.
use Rattle.std.specs.Prelude.{◌≡◌}
use Rattle.profile.specs.series.Zones.{Onset, IsOnset}
use Rattle.cal_zones.specs.Onsets.{observance_of}
use Rattle.cal_zones.specs.declared.observance.Observance.{Observance}

abbrev pub NeverAtOnce : Observance → Observance → Type 0
NeverAtOnce a b =
    (x y : Onset) → IsOnset (observance_of a) x → IsOnset (observance_of b) y → x.instant ≡ y.instant → ⊥
