-- The days of a rule that are still to be looked at.
use Rattle.std.specs.Prelude.{◌≡◌, ℕ, ◌+◌, List, [], ◌∷◌, Option, Some, None, MatchOption, ℤ}
use Rattle.profile.specs.series.Days.{day_index}
use Rattle.profile.specs.series.Rules.{Rule, rule_days_from, IsNextDay, NoDayFrom}
use Rattle.cal_rules.specs.Left.{days_left}
use Rattle.cal_rules.specs.declared.rule.Days.{Days}
use Rattle.cal_events.specs.declared.rule_days.RuleDays.{RuleDays}

abbrev pub rest_to_come : Option Days → List ℕ
rest_to_come None = []
rest_to_come (Some days) = days_left days

abbrev pub with_first : Option ℤ → List ℕ → List ℕ
with_first None days = days
with_first (Some day) days = day_index day ∷ days

abbrev pub days_to_come : RuleDays → List ℕ
days_to_come days = with_first days.first (rest_to_come days.rest)

-- they are those of a rule from a day on
abbrev pub AreDaysOf : Rule → RuleDays → Type 0
AreDaysOf rule days = days_to_come days ≡ rule_days_from rule days.from

-- the first was taken, or there is none
abbrev pub AreStepped : Rule → RuleDays → Option ℤ → RuleDays → Type 0
AreStepped rule old found new =
    AreDaysOf rule new × (new.first ≡ None)
    × MatchOption found (NoDayFrom rule old.from × (new.from ≡ old.from))
    (λ day. IsNextDay rule old.from (day_index day) × (new.from ≡ day_index day + 1))
