use Rattle.std.proofs.Common.{drop}
use Rattle.cal_doors.specs.Runs.{runs_in}
use Rattle.cal_doors.proofs.RunsUpTo.{AreParted}
use Rattle.cal_doors.proofs.between.ending.Given as goal

-- up to the instant the onsets are those of the runs that were made and of those that are left
abbrev pub invariant-loop-run : goal.invariant-loop-run
invariant-loop-run l = AreParted l.to (runs_in l.runs) (runs_in l.others.items) (runs_in (drop l.run-index l.runs))
