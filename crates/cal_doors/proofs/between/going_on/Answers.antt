use Rattle.std.proofs.Common.{◌≡◌, sym, subst, arith, ◌≤ℤ◌, to_z, of_z, w64, to_z-of_z}
use Rattle.std.specs.Int.Signed.{◌<ℤ◌}
use Rattle.jiff_core.proofs.SignedLemmas.{signed_arith}
use Rattle.cal_doors.specs.Runs.{runs_in}
use Rattle.cal_doors.proofs.GoingOn.{AreGoneOn, gone_on_start, made_more, left_out, made_all}
use Rattle.cal_doors.proofs.between.going_on.Goals as goal

pub loop-run-init : goal.loop-run-init
loop-run-init c =
    subst (λ made. AreGoneOn (to_z w64 (of_z w64 c.args.to)) (runs_in c.args.runs.now) (runs_in made) (runs_in c.args.runs.now)) (sym c.new-others.ensures.items)
    (gone_on_start (to_z w64 (of_z w64 c.args.to)) (runs_in c.args.runs.now))

pub loop-run-preserved-then-to-first_bound : goal.loop-run-preserved-then-to-first_bound
loop-run-preserved-then-to-first_bound c =
    let first : to_z w64 (of_z w64 c.first_bound.result) ≡ c.first_bound.result = to_z-of_z {w = w64} (record { sfits = c.first_bound.type_inv }) in
    let to = to_z-of_z c.ranges.to in
    let later : to_z w64 (of_z w64 c.args.to) <ℤ c.first_bound.result = omega (arith, signed_arith, first, to, c.if-to-first_bound.true) in
    left_out c.args.runs.now c.loop-run.run-index (to_z w64 (of_z w64 c.args.to)) c.first_bound.result c.loop-run.others.items c.run-item.result c.loop-run-test.true c.run-item.is
    c.first_bound.ensures.first later c.loop-run.invariant

pub loop-run-preserved : goal.loop-run-preserved
loop-run-preserved c =
    let first : to_z w64 (of_z w64 c.first_bound.result) ≡ c.first_bound.result = to_z-of_z {w = w64} (record { sfits = c.first_bound.type_inv }) in
    let to = to_z-of_z c.ranges.to in
    let begun : c.first_bound.result ≤ℤ to_z w64 (of_z w64 c.args.to) = omega (arith, signed_arith, first, to, c.if-to-first_bound.false) in
    made_more c.args.runs.now c.loop-run.run-index (to_z w64 (of_z w64 c.args.to)) c.first_bound.result c.loop-run.others.items c.push.new.self.items c.run-item.result c.going_on.result
    c.loop-run-test.true c.run-item.is c.in_ok-push.ensures.items c.first_bound.ensures.first begun c.going_on.ensures c.loop-run.invariant

pub returns : goal.returns
returns c =
    made_all c.args.runs.now c.loop-run.run-index c.args.to c.loop-run.others.items c.loop-run-test.false (rw (to_z-of_z c.ranges.to) at c.loop-run.invariant)
