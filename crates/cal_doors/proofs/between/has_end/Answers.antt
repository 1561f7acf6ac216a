use Rattle.std.proofs.Common.{◌≡◌, arith, subst, ◌≤ℤ◌, to_z, of_z, w64, to_z-of_z}
use Rattle.std.specs.Int.Signed.{◌<ℤ◌}
use Rattle.jiff_core.proofs.SignedLemmas.{signed_arith}
use Rattle.cal_zones.specs.Onsets.{observance_of}
use Rattle.profile.specs.series.Zones.{onset_at}
use Rattle.cal_doors.specs.Runs.{run_of}
use Rattle.cal_doors.proofs.Left.{EndsBy, RunsLeft, all_end, at_index, ends_late, ends_once, runs_more}
use Rattle.cal_doors.proofs.between.has_end.Goals as goal

pub returns-then-is_endless-clause-no : goal.returns-then-is_endless-clause-no
returns-then-is_endless-clause-no c = λ _ all.
    let run = c.run-item.result in
    let first = c.first_bound.result in
    let cast : to_z w64 (of_z w64 first) ≡ first = to_z-of_z {w = w64} (record { sfits = c.first_bound.type_inv }) in
    let to = to_z-of_z c.ranges.to in
    let begun : first ≤ℤ c.args.to = omega (arith, signed_arith, cast, to, c.if-to-first_bound.false) in
    let endless = c.is_endless.ensures.yes c.if-is_endless.true in
    let is_first = c.first_bound.ensures.first in
    endless.1 (all (run_of run) (onset_at (observance_of run.observance) first) (at_index c.args.runs.now c.loop-run.run-index run c.loop-run-test.true c.run-item.is) is_first.listed
    begun endless.0)

pub loop-run-preserved-then-to-first_bound : goal.loop-run-preserved-then-to-first_bound
loop-run-preserved-then-to-first_bound c =
    let run = c.run-item.result in
    let first = c.first_bound.result in
    let cast : to_z w64 (of_z w64 first) ≡ first = to_z-of_z {w = w64} (record { sfits = c.first_bound.type_inv }) in
    let to = to_z w64 (of_z w64 c.args.to) in
    let later : to <ℤ first = omega (arith, signed_arith, cast, c.if-to-first_bound.true) in
    runs_more (EndsBy to) c.args.runs.now c.loop-run.run-index run c.loop-run-test.true c.run-item.is (ends_late to first (run_of run) c.first_bound.ensures.first later) c.loop-run.invariant

pub loop-run-preserved : goal.loop-run-preserved
loop-run-preserved c =
    let run = c.run-item.result in
    let to = to_z w64 (of_z w64 c.args.to) in
    runs_more (EndsBy to) c.args.runs.now c.loop-run.run-index run c.loop-run-test.true c.run-item.is (ends_once to (run_of run) (c.is_endless.ensures.no c.if-is_endless.false)) c.loop-run.invariant

pub returns-clause-yes : goal.returns-clause-yes
returns-clause-yes c = λ _.
    all_end c.args.to c.args.runs.now c.loop-run.run-index c.loop-run-test.false
    (subst (λ t. RunsLeft (EndsBy t) c.args.runs.now c.loop-run.run-index) (to_z-of_z c.ranges.to) c.loop-run.invariant)
