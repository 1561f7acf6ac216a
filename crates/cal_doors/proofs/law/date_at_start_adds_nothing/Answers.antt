use Rattle.cal_doors.proofs.Again.{adds_nothing}
use Rattle.cal_doors.proofs.law.date_at_start_adds_nothing.Goals as goal

pub returns : goal.returns
returns c = adds_nothing
