-- The days that the rule of a part of a VTIMEZONE lists.
use Rattle.std.specs.Prelude.{◌≡◌, ℕ, ◌<◌, ◌≤◌, List, length, ℤ}
use Rattle.profile.specs.series.Rules.{RuleText, rule_of, rule_days_from}
use Rattle.profile.specs.series.Zones.{Observance, local_time}

-- the observance has this DTSTART and this TZOFFSETFROM
pub record HasStart (start from : ℤ) (o : Observance) : Type 0 where
  pub start_there : local_time o.day o.second ≡ start
  pub second : o.second < 86_400
  pub before : o.offset_from ≡ from

-- the days of a rule from one on, up to another
abbrev pub days_to : RuleText → ℕ → ℕ → List ℕ
days_to rule first last = rule_days_from (rule_of rule first last) first

-- they are these, at most 200
abbrev pub AreListedDays : RuleText → ℕ → ℕ → List ℕ → Type 0
AreListedDays rule first last days = (days ≡ days_to rule first last) × (length days ≤ 200)

-- there are more
abbrev pub AreMany : RuleText → ℕ → ℕ → Type 0
AreMany rule first last = 200 < length (days_to rule first last)
