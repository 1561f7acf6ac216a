use Rattle.cal_doors.proofs.LawInstances.{same_instances, same_events}
use Rattle.cal_doors.proofs.law.adapted_has_the_same_instances.Goals as goal

pub returns-clause-instances : goal.returns-clause-instances
returns-clause-instances c = same_instances c.one_rule.ensures.reading c.one_zone.ensures.one c.one_general_zone.ensures.one

pub returns-clause-events : goal.returns-clause-events
returns-clause-events c = same_events
