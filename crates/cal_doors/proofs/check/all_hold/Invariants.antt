use Rattle.cal_doors.specs.Conditions.{PassesCondition}
use Rattle.cal_doors.proofs.Left.{Left}
use Rattle.cal_doors.proofs.check.all_hold.Given as goal

-- where it holds of the onsets of the runs that are left, it holds of all
abbrev pub invariant-loop-run : goal.invariant-loop-run
invariant-loop-run l = Left (PassesCondition l.condition) l.runs l.run-index
