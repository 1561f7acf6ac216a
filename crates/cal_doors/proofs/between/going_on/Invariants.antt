use Rattle.std.proofs.Common.{drop}
use Rattle.cal_doors.specs.Runs.{runs_in}
use Rattle.cal_doors.proofs.GoingOn.{AreGoneOn}
use Rattle.cal_doors.proofs.between.going_on.Given as goal

-- the onsets of the zone that goes on are those of the runs that were made and of those that are left
abbrev pub invariant-loop-run : goal.invariant-loop-run
invariant-loop-run l = AreGoneOn l.to (runs_in l.runs) (runs_in l.others.items) (runs_in (drop l.run-index l.runs))
