use Rattle.cal_zones.proofs.Onsets.{first_by_rule}
use Rattle.cal_zones.proofs.observance.Observance.first_day.Goals as goal

pub returns-in-Some-clause-first : goal.returns-in-Some-clause-first
returns-in-Some-clause-first c =
    first_by_rule c.args.self.now c.in-Some.rule c.first_from.result c.in-Some.is c.first_from.ensures.first
