use Rattle.std.proofs.Common.{drop}
use Rattle.cal_doors.specs.Runs.{runs_in}
use Rattle.cal_doors.proofs.Stated.{IsLastSofar}
use Rattle.cal_doors.proofs.between.last_of_all.Given as goal

-- it is the last instant that was stated, but for those of the runs that are left
abbrev pub invariant-loop-run : goal.invariant-loop-run
invariant-loop-run l = IsLastSofar (runs_in l.runs) (runs_in (drop l.run-index l.runs)) l.last
