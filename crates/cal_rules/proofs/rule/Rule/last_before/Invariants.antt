use Rattle.std.proofs.Common.{◌≡◌, ◌<◌, ◌≤◌, ◌-◌, true}
use Rattle.profile.specs.series.Rules.{is_rule_day}
use Rattle.cal_rules.specs.Counted.{NoneIn}
use Rattle.cal_rules.proofs.rule.Rule.last_before.Given as goal

-- one day of the rule is known, and from a later one on there is none
abbrev pub invariant-loop-none_from : goal.invariant-loop-none_from
invariant-loop-none_from l = record {
  first : l.first ≤ l.last;
  ordered : l.last < l.none_from;
  within : l.none_from ≤ l.end;
  holds : is_rule_day l.self l.last ≡ true;
  none : NoneIn (is_rule_day l.self) l.none_from l.end;
}

abbrev pub decreases-loop-none_from : goal.decreases-loop-none_from
decreases-loop-none_from l = l.none_from - l.last
