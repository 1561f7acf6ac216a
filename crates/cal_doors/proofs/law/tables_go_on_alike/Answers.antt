use Rattle.cal_doors.proofs.LawAlike as law
use Rattle.cal_doors.proofs.law.tables_go_on_alike.Goals as goal

pub returns-clause-told : goal.returns-clause-told
returns-clause-told c = law.told

pub returns-clause-alike : goal.returns-clause-alike
returns-clause-alike c = law.alike c.one_general_zone.ensures.one
