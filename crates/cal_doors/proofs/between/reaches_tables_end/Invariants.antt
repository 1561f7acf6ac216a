use Rattle.profile.specs.doors.Adapting.{IsStatedLate}
use Rattle.cal_doors.proofs.Left.{RunsLeft}
use Rattle.cal_doors.proofs.between.reaches_tables_end.Given as goal

-- where it holds of the runs that are left, it holds of all
abbrev pub invariant-loop-run : goal.invariant-loop-run
invariant-loop-run l = RunsLeft (λ run. IsStatedLate run → ⊥) l.runs l.run-index
