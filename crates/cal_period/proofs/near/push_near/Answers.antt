use Rattle.std.proofs.Common.{◌≡◌, List, refl, subst, sym, arith, pos, ◌+ℤ◌, to_z, of_z, w64, FitsSigned, rules, to_z-of_z}
use Rattle.std.proofs.lemmas.Int.{ints}
use Rattle.std.specs.Prelude.{Contains}
use Rattle.cal_events.specs.Series.{series_said}
use Rattle.cal_period.specs.declared.near.NearSpan.{NearSpan}
use Rattle.cal_period.proofs.Entries.{entered}
use Rattle.cal_period.proofs.NearLists.{AreTaken, taken_first, taken_past, taken_all}
use Rattle.cal_period.proofs.NearOnsets.{sum_fits}
use Rattle.cal_period.proofs.Sweeping.{fewer_left}
use Rattle.cal_period.proofs.near.push_near.Goals as goal

pub loop-next-init : goal.loop-next-init
loop-next-init c =
    let a = series_said c.args.series.now in
    let by = c.args.onset in
    let m = c.entry.result in
    let cast : to_z w64 (of_z w64 by) ≡ by = to_z-of_z c.ranges.onset in
    let fits_m : FitsSigned w64 m = search rules in
    let cast_m : to_z w64 (of_z w64 m) ≡ m = to_z-of_z fits_m in
    let in_a = rw cast at c.entry.ensures.over in
    let left_a = entered a by m c.starts-starts.result c.requires in_a (rw cast_m at c.starts-starts.ensures.left) in
    rw cast
    (taken_first a by m _ c.next.new.self c.to-walk.result
    (c.to-walk.ensures.enters a by m c.starts-starts.result c.next.new.self (c.known_by_start.ensures c.args.series.now) left_a c.next.ensures.steps))

pub returns-in_err-push-clause-stay : goal.returns-in_err-push-clause-stay
returns-in_err-push-clause-stay c = λ one there. subst (λ items. Contains items one) (sym c.in_err-push.ensures.items) (c.loop-next.invariant.stay one there)

pub loop-next-smaller : goal.loop-next-smaller
loop-next-smaller c =
    let a = series_said c.args.series.now in
    let by = to_z w64 (of_z w64 c.args.onset) in
    let g = c.past-walk.ensures.tail a by c.loop-next.starts c.next-in-Some.new.self c.loop-next.invariant.tail c.next-in-Some.ensures.steps in
    fewer_left a c.next-in-Some.new.self c.loop-next.walk c.past-walk.result g.tail.ahead g.further

pub loop-next-preserved : goal.loop-next-preserved
loop-next-preserved c =
    let a = series_said c.args.series.now in
    let by = to_z w64 (of_z w64 c.args.onset) in
    let g = c.past-walk.ensures.tail a by c.loop-next.starts c.next-in-Some.new.self c.loop-next.invariant.tail c.next-in-Some.ensures.steps in
    let more = taken_past a by c.args.near.now.items c.loop-next.near.items c.loop-next.starts c.next-in-Some.new.self c.loop-next.walk c.past-walk.result c.in-Some.next c.span_of.result c.loop-next.invariant g c.span_of.ensures.0 c.span_of.ensures.1 in
    subst (λ items. AreTaken a by c.args.near.now.items items c.next-in-Some.new.self c.past-walk.result) (sym {A = List NearSpan} c.in_ok-push.ensures.items) more

pub returns-clause-holds : goal.returns-clause-holds
returns-clause-holds c =
    let a = series_said c.args.series.now in
    let by = to_z w64 (of_z w64 c.args.onset) in
    let cast : by ≡ c.args.onset = to_z-of_z c.ranges.onset in
    let fits : FitsSigned w64 (c.args.onset +ℤ pos 129_601) = sum_fits c.args.onset (pos 129_601) c.ranges.onset c.requires (omega (arith, ints)) (omega (arith, ints)) in
    let cast_sum : to_z w64 (of_z w64 (c.args.onset +ℤ pos 129_601)) ≡ (c.args.onset +ℤ pos 129_601) = to_z-of_z fits in
    rw cast at (taken_all a by (c.args.onset +ℤ pos 129_601) c.args.near.now.items c.loop-next.near.items c.loop-next.starts c.loop-next.walk c.loop-next.invariant (rw (cast, cast_sum) at c.in_default.ensures.none) (rw cast refl))
