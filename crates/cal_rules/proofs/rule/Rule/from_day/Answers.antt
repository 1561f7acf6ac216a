use Rattle.std.proofs.Common.{subst}
use Rattle.profile.specs.series.Rules.{RuleText, rule_of}
use Rattle.profile.specs.series.Days.{day_index}
use Rattle.cal_rules.specs.Counted.{RuleEndsAt}
use Rattle.cal_rules.proofs.rule.Rule.from_day.Goals as goal

pub invariant_of-result : goal.invariant_of-result
invariant_of-result c = (
  c.of-begin.ensures.facts,
  subst (λ (text : RuleText). RuleEndsAt (rule_of text c.of-begin.result.index (day_index c.args.last)) c.find_end-end.result) c.written.ensures.is c.find_end-end.ensures,
)
