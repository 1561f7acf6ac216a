use Rattle.std.proofs.Common.{rules, ◌≡◌, arith, to_z, of_z, w64, to_z-of_z}
use Rattle.std.proofs.lemmas.Int.{ints}
use Rattle.cal_zones.specs.Onsets.{observance_of}
use Rattle.cal_doors.specs.Runs.{run_of, runs_in}
use Rattle.cal_doors.proofs.Left.{at_index, there_more, there_all}
use Rattle.cal_doors.proofs.check.covers.Goals as goal

pub loop-run-init : goal.loop-run-init
loop-run-init c = λ x is later l. absurd (omega (arith, ints, later, l))

pub loop-run-preserved : goal.loop-run-preserved
loop-run-preserved c =
    let to : to_z w64 (of_z w64 c.in-Some.to) ≡ c.in-Some.to = to_z-of_z {w = w64} (search rules) in
    rw to
    (there_more (runs_in c.args.runs.now) (run_of c.run-item.result) (observance_of c.args.whole.now.observance) _ _ _
    (at_index c.args.runs.now c.loop-run.run-index c.run-item.result c.loop-run-test.true c.run-item.is) c.in-Some.ensures c.loop-run.invariant)

pub returns-in_default : goal.returns-in_default
returns-in_default c = λ _.
    rw (to_z-of_z c.ranges.instant) at
    (there_all (runs_in c.args.runs.now) (run_of c.run-item.result) (observance_of c.args.whole.now.observance) _ _
    (at_index c.args.runs.now c.loop-run.run-index c.run-item.result c.loop-run-test.true c.run-item.is) c.in_default.ensures c.loop-run.invariant)
