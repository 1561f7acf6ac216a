use Rattle.cal_doors.proofs.General.{single, pair}
use Rattle.cal_doors.proofs.law.zones_are_general.Goals as goal

pub returns-clause-single : goal.returns-clause-single
returns-clause-single c = single

pub returns-clause-pair : goal.returns-clause-pair
returns-clause-pair c = pair
