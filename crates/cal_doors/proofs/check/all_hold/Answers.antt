use Rattle.cal_doors.specs.Conditions.{PassesCondition}
use Rattle.cal_doors.proofs.Left.{left_more, left_end}
use Rattle.cal_doors.proofs.check.all_hold.Goals as goal

pub loop-run-preserved : goal.loop-run-preserved
loop-run-preserved c =
    left_more (PassesCondition c.args.condition.now) c.args.runs.now c.loop-run.run-index c.run-item.result c.loop-run-test.true c.run-item.is (c.holds.ensures c.if-not-holds.false) c.loop-run.invariant

pub returns : goal.returns
returns c = λ _. left_end (PassesCondition c.args.condition.now) c.args.runs.now c.loop-run.run-index c.loop-run-test.false c.loop-run.invariant
