use Rattle.std.proofs.Common.{◌∙◌, sym, ap, subst}
use Rattle.profile.specs.series.Rules.{RuleText, rule_of}
use Rattle.profile.specs.series.Days.{day_index}
use Rattle.cal_rules.specs.Known.{AreFacts}
use Rattle.cal_rules.specs.Counted.{RuleEndsAt}
use Rattle.cal_rules.proofs.rule.RuleClone.clone.Goals as goal

pub returns : goal.returns
returns c =
    let rule = c.self.inside in
    record { cases = ap (λ (text : RuleText). rule_of text rule.start.index (day_index rule.last)) c.in_ok-text.ensures.cases ∙ c.self.view_is }

pub invariant_of-result : goal.invariant_of-result
invariant_of-result c =
    let rule = c.self.inside in
    subst (λ (text : RuleText). AreFacts rule.start × RuleEndsAt (rule_of text rule.start.index (day_index rule.last)) rule.end) (sym c.in_ok-text.ensures.cases) c.self.invariant
