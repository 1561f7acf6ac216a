use Rattle.cal_zones.specs.Onsets.{observance_of}
use Rattle.cal_doors.specs.Runs.{runs_in}
use Rattle.cal_doors.proofs.Left.{AreThere}
use Rattle.cal_doors.proofs.check.covers.Given as goal

-- the onsets after the instant and up to where the runs reach are theirs
abbrev pub invariant-loop-run : goal.invariant-loop-run
invariant-loop-run l = AreThere (runs_in l.runs) (observance_of l.whole.observance) l.instant l.reach
