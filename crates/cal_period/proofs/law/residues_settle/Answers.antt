use Rattle.cal_period.proofs.ResidueLaw.{instance_at_residue, two_clear, one_clear}
use Rattle.cal_period.proofs.law.residues_settle.Goals as goal

pub returns-clause-start : goal.returns-clause-start
returns-clause-start c = instance_at_residue

pub returns-clause-two : goal.returns-clause-two
returns-clause-two c = two_clear c.instances_last.ensures.said

pub returns-clause-one : goal.returns-clause-one
returns-clause-one c = one_clear c.instances_last.ensures.said
