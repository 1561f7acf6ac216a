use Rattle.profile.specs.doors.Adapting.{IsStatedLate}
use Rattle.cal_doors.proofs.Left.{runs_more, runs_end}
use Rattle.cal_doors.proofs.between.reaches_tables_end.Goals as goal

pub loop-run-init : goal.loop-run-init
loop-run-init c = λ h. h

pub loop-run-preserved : goal.loop-run-preserved
loop-run-preserved c =
    runs_more (λ run. IsStatedLate run → ⊥) c.args.runs.now c.loop-run.run-index c.run-item.result c.loop-run-test.true c.run-item.is (c.is_stated_late.ensures.no c.if-is_stated_late.false)
    c.loop-run.invariant

pub returns-clause-no : goal.returns-clause-no
returns-clause-no c = λ _ late. runs_end (λ run. IsStatedLate run → ⊥) c.args.runs.now c.loop-run.run-index c.loop-run-test.false c.loop-run.invariant late.0 late.1 late.2
