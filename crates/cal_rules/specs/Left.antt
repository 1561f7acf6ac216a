-- What the iterator over the days of a rule still gives.
use Rattle.std.specs.Prelude.{ℕ, List}
use Rattle.profile.specs.series.Rules.{rule_days_from}
use Rattle.cal_rules.specs.declared.rule.Days.{Days}

-- the rule days that are still to come
abbrev pub days_left : Days → List ℕ
days_left days = rule_days_from days.rule.now days.cursor.day.index
