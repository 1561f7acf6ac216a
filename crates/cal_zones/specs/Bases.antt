-- The law that ties the rules of one day a year to recurrence rules.
use Rattle.std.specs.Prelude.{◌≡◌, ◌↔◌, ℕ, true}
use Rattle.profile.specs.series.Rules.{is_base}
use Rattle.cal_zones.specs.Shapes.{yearly_pattern}
use Rattle.cal_zones.specs.Yearly.{IsOn}
use Rattle.cal_zones.specs.declared.yearly.Yearly.{Yearly}

-- its days are the base days of the rule as it is written
abbrev pub IsOnAsWritten : Yearly → ℕ → ℕ → Type 0
IsOnAsWritten r start n = (is_base (yearly_pattern r.month r.days start) n ≡ true) ↔ IsOn r n
