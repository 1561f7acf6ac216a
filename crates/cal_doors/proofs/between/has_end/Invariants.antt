use Rattle.cal_doors.proofs.Left.{EndsBy, RunsLeft}
use Rattle.cal_doors.proofs.between.has_end.Given as goal

-- where it holds of the runs that are left, it holds of all
abbrev pub invariant-loop-run : goal.invariant-loop-run
invariant-loop-run l = RunsLeft (EndsBy l.fn.to) l.runs l.run-index
