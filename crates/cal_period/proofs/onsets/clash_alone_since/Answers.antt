use Rattle.std.proofs.Common.{◌≡◌, to_z, of_z, w64, FitsSigned, rules, to_z-of_z}
use Rattle.cal_events.specs.Series.{series_said}
use Rattle.cal_period.proofs.Entries.{entered}
use Rattle.cal_period.proofs.NearOnsets.{alone_enters, alone_met, alone_passed, alone_ends}
use Rattle.cal_period.proofs.Sweeping.{fewer_left}
use Rattle.cal_period.proofs.onsets.clash_alone_since.Goals as goal

pub loop-next-init : goal.loop-next-init
loop-next-init c =
    let a = series_said c.args.a.now in
    let by = c.args.from in
    let m = c.entry.result in
    let cast : to_z w64 (of_z w64 by) ≡ by = to_z-of_z c.ranges.from in
    let fits_m : FitsSigned w64 m = search rules in
    let cast_m : to_z w64 (of_z w64 m) ≡ m = to_z-of_z fits_m in
    let in_a = rw cast at c.entry.ensures.over in
    let left_a = entered a by m c.starts-starts.result c.requires in_a (rw cast_m at c.starts-starts.ensures.left) in
    rw cast
    (alone_enters a by m c.next.new.self c.to-walk.result
    (c.to-walk.ensures.enters a by m c.starts-starts.result c.next.new.self (c.known_by_start.ensures c.args.a.now) left_a c.next.ensures.steps))

pub returns-in-Some-met_by : goal.returns-in-Some-met_by
returns-in-Some-met_by c =
    let a = series_said c.args.a.now in
    let by = to_z w64 (of_z w64 c.args.from) in
    alone_met a by c.loop-next.starts c.loop-next.walk c.loop-next.invariant c.in-Some.next c.in-Some.ensures.some.0 c.in-Some-met_by.last c.in-Some-met_by.ensures.meets

pub loop-next-smaller : goal.loop-next-smaller
loop-next-smaller c =
    let a = series_said c.args.a.now in
    let by = to_z w64 (of_z w64 c.args.from) in
    let g = c.past-walk.ensures.tail a by c.loop-next.starts c.next-in-Some.new.self c.loop-next.invariant.tail c.next-in-Some.ensures.steps in
    fewer_left a c.next-in-Some.new.self c.loop-next.walk c.past-walk.result g.tail.ahead g.further

pub loop-next-preserved : goal.loop-next-preserved
loop-next-preserved c =
    let a = series_said c.args.a.now in
    let by = to_z w64 (of_z w64 c.args.from) in
    let g = c.past-walk.ensures.tail a by c.loop-next.starts c.next-in-Some.new.self c.loop-next.invariant.tail c.next-in-Some.ensures.steps in
    alone_passed a by c.loop-next.starts c.loop-next.walk c.loop-next.invariant c.in-Some.next c.in-Some.ensures.some.0 c.next-in-Some.new.self c.past-walk.result c.in_default-met_by.ensures.none g

pub returns : goal.returns
returns c =
    let a = series_said c.args.a.now in
    let by = to_z w64 (of_z w64 c.args.from) in
    let cast : by ≡ c.args.from = to_z-of_z c.ranges.from in
    let bound = to_z w64 (of_z w64 c.args.bound) in
    let cast_bound : bound ≡ c.args.bound = to_z-of_z c.ranges.bound in
    rw (cast, cast_bound) at (alone_ends a by c.loop-next.starts c.loop-next.walk c.loop-next.invariant bound c.in_default.ensures.none)
