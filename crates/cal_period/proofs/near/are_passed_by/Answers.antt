use Rattle.std.proofs.Common.{◌≡◌, pos, to_z, of_z, w64, to_z-of_z}
use Rattle.cal_events.specs.Series.{series_said}
use Rattle.cal_period.specs.NearSpans.{IsPassedBy}
use Rattle.cal_period.proofs.NearLists.{before_more, before_all}
use Rattle.cal_period.proofs.near.are_passed_by.Goals as goal

pub loop-one-preserved : goal.loop-one-preserved
loop-one-preserved c =
    let test = IsPassedBy (series_said c.args.other.now) c.args.reach c.args.bound in
    let cast_reach : to_z w64 (of_z w64 c.args.reach) ≡ c.args.reach = to_z-of_z c.ranges.reach in
    let cast_bound : to_z w64 (of_z w64 c.args.bound) ≡ c.args.bound = to_z-of_z c.ranges.bound in
    rw (cast_reach, cast_bound)
    (before_more test c.args.near.now c.loop-one.one-index (record { onset = pos 0; span = record { start = pos 0; end = pos 0 } }) (rw (cast_reach, cast_bound) at (c.meets.ensures c.if-meets.false))
    (rw (cast_reach, cast_bound) at c.loop-one.invariant))

pub returns : goal.returns
returns c =
    let test = IsPassedBy (series_said c.args.other.now) c.args.reach c.args.bound in
    let cast_reach : to_z w64 (of_z w64 c.args.reach) ≡ c.args.reach = to_z-of_z c.ranges.reach in
    let cast_bound : to_z w64 (of_z w64 c.args.bound) ≡ c.args.bound = to_z-of_z c.ranges.bound in
    λ e. before_all test c.args.near.now c.loop-one.one-index c.loop-one-test.false (rw (cast_reach, cast_bound) at c.loop-one.invariant)
