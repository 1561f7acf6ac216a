use Rattle.std.proofs.Common.{◌≡◌, arith, to_z, of_z, w64, to_z-of_z}
use Rattle.std.proofs.lemmas.Int.{ints}
use Rattle.cal_doors.specs.Runs.{runs_in}
use Rattle.cal_doors.proofs.Left.{at_index}
use Rattle.cal_doors.proofs.Stated.{last_start, last_more, last_all}
use Rattle.cal_doors.proofs.between.last_of_all.Goals as goal

pub loop-run-init : goal.loop-run-init
loop-run-init c = last_start (runs_in c.args.runs.now) _ (omega (arith, ints))

pub loop-run-preserved : goal.loop-run-preserved
loop-run-preserved c =
    let new : to_z w64 (of_z w64 c.later_stated-last.result) ≡ c.later_stated-last.result = to_z-of_z {w = w64} (record { sfits = c.later_stated-last.type_inv }) in
    rw new (last_more c.args.runs.now c.loop-run.run-index _ _ c.run-item.result c.loop-run-test.true c.run-item.is
    (at_index c.args.runs.now c.loop-run.run-index c.run-item.result c.loop-run-test.true c.run-item.is) c.later_stated-last.ensures c.loop-run.invariant)

pub returns : goal.returns
returns c = last_all c.args.runs.now c.loop-run.run-index _ c.loop-run-test.false c.loop-run.invariant
