use Rattle.std.proofs.Common.{◌≡◌, arith, subst, to_z, of_z, w64, to_z-of_z}
use Rattle.std.proofs.lemmas.Int.{ints}
use Rattle.cal_events.specs.Series.{series_said}
use Rattle.cal_period.specs.Clear.{IsClearBelow}
use Rattle.cal_period.proofs.OneSeries.{alone_first, alone_end, alone_found, alone_past}
use Rattle.cal_period.proofs.Sweeping.{all_left, fewer_left}
use Rattle.cal_period.proofs.alone.clash_of_own_starts.Goals as goal

pub loop-next-init : goal.loop-next-init
loop-next-init c =
    let a = c.args.a.now in
    let known = c.known_by_start.ensures a in
    let all = all_left (series_said a) _ c.starts-starts.result known (omega (arith, ints)) c.starts-starts.ensures.left in
    alone_first (series_said a) c.next.new.self c.to-walk.result (c.to-walk.ensures.begins (series_said a) c.starts-starts.result c.next.new.self known all c.next.ensures.steps)

pub returns-in-Some-met_by : goal.returns-in-Some-met_by
returns-in-Some-met_by c =
    alone_found (series_said c.args.a.now) c.loop-next.starts c.loop-next.walk c.loop-next.invariant c.in-Some.next c.in-Some.ensures.some.0 c.in-Some-met_by.last c.in-Some-met_by.ensures.meets

pub loop-next-smaller : goal.loop-next-smaller
loop-next-smaller c =
    let series = series_said c.args.a.now in
    let g = c.past-walk.ensures.is_walk series c.loop-next.starts c.next-in-Some.new.self c.loop-next.invariant.is_walk c.next-in-Some.ensures.steps in
    fewer_left series c.next-in-Some.new.self c.loop-next.walk c.past-walk.result g.is_walk.ahead g.further

pub loop-next-preserved : goal.loop-next-preserved
loop-next-preserved c =
    let series = series_said c.args.a.now in
    let g = c.past-walk.ensures.is_walk series c.loop-next.starts c.next-in-Some.new.self c.loop-next.invariant.is_walk c.next-in-Some.ensures.steps in
    alone_past series c.loop-next.starts c.loop-next.walk c.loop-next.invariant c.in-Some.next c.in-Some.ensures.some.0 c.next-in-Some.new.self c.past-walk.result c.in_default-met_by.ensures.none g

pub returns : goal.returns
returns c =
    let a = series_said c.args.a.now in
    let bound = to_z w64 (of_z w64 c.args.bound) in
    let cast : bound ≡ c.args.bound = to_z-of_z c.ranges.bound in
    subst (IsClearBelow a) cast (alone_end a c.loop-next.starts c.loop-next.walk c.loop-next.invariant bound c.in_default.ensures.none)
