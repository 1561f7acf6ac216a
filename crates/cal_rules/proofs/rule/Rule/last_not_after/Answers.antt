use Rattle.std.proofs.Common.{ap, arith}
use Rattle.profile.specs.series.Rules.{Rule}
use Rattle.profile.specs.series.Days.{day_index}
use Rattle.cal_rules.proofs.LastDays.{none_to}
use Rattle.cal_rules.proofs.rule.Rule.last_not_after.Goals as goal

pub returns-in_default : goal.returns-in_default
returns-in_default c =
    let value = c.index-end.ensures.value in
    let start = c.self.inside.start.index in
    none_to c.args.self.now start (day_index c.args.day) (ap (λ (r : Rule). r.pattern.start) c.self.view_is)
    (λ n from before. c.in_default.ensures n from (omega (arith, value, before)))
