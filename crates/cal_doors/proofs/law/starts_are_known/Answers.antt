use Rattle.cal_doors.proofs.LawStarts.{may_start}
use Rattle.cal_doors.proofs.law.starts_are_known.Goals as goal

pub returns : goal.returns
returns c words room object method lines event placed t is_room says times fixed is h = may_start words room is_room object method lines event placed says times fixed is t h
