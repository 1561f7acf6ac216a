use Rattle.cal_doors.proofs.OneGeneralZone as law
use Rattle.cal_doors.proofs.law.one_general_zone.Goals as goal

pub returns-clause-one : goal.returns-clause-one
returns-clause-one c = law.one_zone c.one_local_time.ensures.reading c.one_offset.ensures.reading c.one_rule.ensures.reading

pub returns-clause-or_a_fault : goal.returns-clause-or_a_fault
returns-clause-or_a_fault c = law.or_a_fault c.one_local_time.ensures.reading c.one_offset.ensures.reading c.one_rule.ensures.reading
