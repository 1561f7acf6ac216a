use Rattle.std.proofs.Common.{subst}
use Rattle.profile.specs.series.Rules.{IsAllowed, text_in}
use Rattle.cal_period.proofs.Members.{rule_recurs, rule_count, allowed_week, allowed_plain}
use Rattle.cal_period.proofs.recurs.RuleRecurs.recurs.Goals as goal

pub returns : goal.returns
returns c =
    let r = c.args.self.now in
    let law = c.rule_days_repeat.ensures in
    let allowed = subst IsAllowed c.text.ensures c.is_allowed.ensures in
    rule_recurs r law.down law.up (allowed_week (text_in r) allowed) (allowed_plain (text_in r) allowed) (rule_count r)
