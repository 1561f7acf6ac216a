use Rattle.std.proofs.Common.{◌≡◌, to_z, of_z, w64, FitsSigned, rules, to_z-of_z}
use Rattle.cal_events.specs.Series.{series_said}
use Rattle.cal_period.proofs.Entries.{entered}
use Rattle.cal_period.proofs.NearOnsets.{beside_first, beside_found, beside_past, beside_end}
use Rattle.cal_period.proofs.Sweeping.{fewer_left}
use Rattle.cal_period.proofs.onsets.clash_since.Goals as goal

pub loop-next-init : goal.loop-next-init
loop-next-init c =
    let a = series_said c.args.a.now in
    let b = series_said c.args.b.now in
    let by = c.args.from in
    let m = c.entry.result in
    let cast : to_z w64 (of_z w64 by) ≡ by = to_z-of_z c.ranges.from in
    let fits_m : FitsSigned w64 m = search rules in
    let cast_m : to_z w64 (of_z w64 m) ≡ m = to_z-of_z fits_m in
    let in_a = rw cast at c.entry.ensures.over in
    let left_a = entered a by m c.starts-starts.result c.requires in_a (rw cast_m at c.starts-starts.ensures.left) in
    rw cast
    (beside_first a b by m c.next.new.self c.to-walk.result
    (c.to-walk.ensures.enters a by m c.starts-starts.result c.next.new.self (c.known_by_start.ensures c.args.a.now) left_a c.next.ensures.steps))

pub returns-in-Some-first_sharer : goal.returns-in-Some-first_sharer
returns-in-Some-first_sharer c =
    let a = series_said c.args.a.now in
    let b = series_said c.args.b.now in
    let by = to_z w64 (of_z w64 c.args.from) in
    let span = c.span_of.result in
    beside_found a b by c.loop-next.starts c.loop-next.walk c.loop-next.invariant c.in-Some.next c.in-Some.ensures.some.0 span.start span.end c.span_of.ensures.0 c.span_of.ensures.1 c.first_sharer.result c.first_sharer.ensures
    c.in-Some-first_sharer.other c.in-Some-first_sharer.is

pub loop-next-smaller : goal.loop-next-smaller
loop-next-smaller c =
    let a = series_said c.args.a.now in
    let by = to_z w64 (of_z w64 c.args.from) in
    let g = c.past-walk.ensures.tail a by c.loop-next.starts c.next-in-Some.new.self c.loop-next.invariant.tail c.next-in-Some.ensures.steps in
    fewer_left a c.next-in-Some.new.self c.loop-next.walk c.past-walk.result g.tail.ahead g.further

pub loop-next-preserved : goal.loop-next-preserved
loop-next-preserved c =
    let a = series_said c.args.a.now in
    let b = series_said c.args.b.now in
    let by = to_z w64 (of_z w64 c.args.from) in
    let span = c.span_of.result in
    let g = c.past-walk.ensures.tail a by c.loop-next.starts c.next-in-Some.new.self c.loop-next.invariant.tail c.next-in-Some.ensures.steps in
    beside_past a b by c.loop-next.starts c.loop-next.walk c.loop-next.invariant c.in-Some.next c.in-Some.ensures.some.0 span.start span.end c.span_of.ensures.0 c.span_of.ensures.1 c.first_sharer.result c.first_sharer.ensures
    c.in_default-first_sharer.is c.next-in-Some.new.self c.past-walk.result g

pub returns : goal.returns
returns c =
    let a = series_said c.args.a.now in
    let b = series_said c.args.b.now in
    let by = to_z w64 (of_z w64 c.args.from) in
    let cast : by ≡ c.args.from = to_z-of_z c.ranges.from in
    let bound = to_z w64 (of_z w64 c.args.bound) in
    let cast_bound : bound ≡ c.args.bound = to_z-of_z c.ranges.bound in
    rw (cast, cast_bound) at (beside_end a b by c.loop-next.starts c.loop-next.walk c.loop-next.invariant bound c.in_default.ensures.none)
