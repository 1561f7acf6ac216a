use Rattle.std.proofs.Common.{take, Some}
use Rattle.sched_doors.specs.Pieces.{Scans}
use Rattle.sched_doors.proofs.preamble.scan.Given as goal

abbrev pub invariant-loop-place : goal.invariant-loop-place
invariant-loop-place l = Scans l.fn.line (take l.place l.lent) (Some l.line)
