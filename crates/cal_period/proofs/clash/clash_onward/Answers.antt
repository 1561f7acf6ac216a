use Rattle.std.proofs.Common.{◌≡◌, arith, subst, to_z, of_z, w64, FitsSigned, rules, to_z-of_z}
use Rattle.cal_events.specs.Calendar.{instance_of}
use Rattle.cal_events.specs.Series.{series_said}
use Rattle.cal_period.specs.Clear.{AreClearBelow}
use Rattle.cal_period.specs.Onward.{MeetFrom}
use Rattle.cal_period.specs.Turns.{IsTurn}
use Rattle.cal_period.proofs.Entries.{entered}
use Rattle.cal_period.proofs.Pairs.{found_turned}
use Rattle.cal_period.proofs.Sweeping.{fewer_left}
use Rattle.cal_period.proofs.Tails.{from_turned, onward_first, onward_turned, onward_found, onward_past, onward_end}
use Rattle.cal_period.proofs.clash.clash_onward.Goals as goal

pub loop-next-init : goal.loop-next-init
loop-next-init c =
    let a = series_said c.args.a.now in
    let b = series_said c.args.b.now in
    let by = c.args.from in
    let m = c.entry.result in
    let n = c.entry-2.result in
    let cast : to_z w64 (of_z w64 by) ≡ by = to_z-of_z c.ranges.from in
    let fits_m : FitsSigned w64 m = search rules in
    let cast_m : to_z w64 (of_z w64 m) ≡ m = to_z-of_z fits_m in
    let fits_n : FitsSigned w64 n = search rules in
    let cast_n : to_z w64 (of_z w64 n) ≡ n = to_z-of_z fits_n in
    let in_a = rw cast at c.entry.ensures.over in
    let in_b = rw cast at c.entry-2.ensures.over in
    let left_a = entered a by m c.starts-of_a.result c.requires.before in_a (rw cast_m at c.starts-of_a.ensures.left) in
    let left_b = entered b by n c.starts-of_b.result c.requires.before in_b (rw cast_n at c.starts-of_b.ensures.left) in
    rw cast
    (onward_first a b by m n c.next.new.self c.next-2.new.self c.to-first.result c.to-second.result c.requires in_a.0 in_b.0
    (c.to-first.ensures.enters a by m c.starts-of_a.result c.next.new.self (c.known_by_start.ensures c.args.a.now) left_a c.next.ensures.steps)
    (c.to-second.ensures.enters b by n c.starts-of_b.result c.next-2.new.self (c.known_by_start.ensures c.args.b.now) left_b c.next-2.ensures.steps))

pub returns-in-Some : goal.returns-in-Some
returns-in-Some c =
    let a = series_said c.args.a.now in
    let b = series_said c.args.b.now in
    let by = to_z w64 (of_z w64 c.args.from) in
    let cast : by ≡ c.args.from = to_z-of_z c.ranges.from in
    let from : MeetFrom a b by = rw cast c.requires in
    let bound = to_z w64 (of_z w64 c.args.bound) in
    let turn = subst (IsTurn bound c.loop-next.first c.loop-next.second) c.in-First.is c.turn_of.ensures in
    onward_found a b by from c.loop-next.of_a c.loop-next.of_b c.loop-next.first c.loop-next.second c.loop-next.invariant c.in-First.next turn.0 c.in-Some.last c.in-Some.ensures.meets

pub loop-next-smaller-in-First : goal.loop-next-smaller-in-First
loop-next-smaller-in-First c =
    let a = series_said c.args.a.now in
    let by = to_z w64 (of_z w64 c.args.from) in
    let g = c.past-first.ensures.tail a by c.loop-next.of_a c.next-in-First.new.self c.loop-next.invariant.in_first c.next-in-First.ensures.steps in
    let l = fewer_left a c.next-in-First.new.self c.loop-next.first c.past-first.result g.tail.ahead g.further in
    omega (arith, l)

pub loop-next-preserved-in-First : goal.loop-next-preserved-in-First
loop-next-preserved-in-First c =
    let a = series_said c.args.a.now in
    let b = series_said c.args.b.now in
    let by = to_z w64 (of_z w64 c.args.from) in
    let cast : by ≡ c.args.from = to_z-of_z c.ranges.from in
    let from : MeetFrom a b by = rw cast c.requires in
    let bound = to_z w64 (of_z w64 c.args.bound) in
    let turn = subst (IsTurn bound c.loop-next.first c.loop-next.second) c.in-First.is c.turn_of.ensures in
    let g = c.past-first.ensures.tail a by c.loop-next.of_a c.next-in-First.new.self c.loop-next.invariant.in_first c.next-in-First.ensures.steps in
    onward_past a b by from c.loop-next.of_a c.loop-next.of_b c.loop-next.first c.loop-next.second c.loop-next.invariant c.in-First.next turn.0 c.next-in-First.new.self c.past-first.result turn.1 c.in_default.ensures.none g

pub returns-in-Some-met_by : goal.returns-in-Some-met_by
returns-in-Some-met_by c =
    let a = series_said c.args.a.now in
    let b = series_said c.args.b.now in
    let by = to_z w64 (of_z w64 c.args.from) in
    let cast : by ≡ c.args.from = to_z-of_z c.ranges.from in
    let from : MeetFrom a b by = rw cast c.requires in
    let bound = to_z w64 (of_z w64 c.args.bound) in
    let turn = subst (IsTurn bound c.loop-next.first c.loop-next.second) c.in-Second.is c.turn_of.ensures in
    let at = onward_turned a b by c.loop-next.of_a c.loop-next.of_b c.loop-next.first c.loop-next.second c.loop-next.invariant in
    found_turned b a (instance_of c.in-Second.next) (instance_of c.in-Some-met_by.last)
    (onward_found b a by (from_turned a b by from) c.loop-next.of_b c.loop-next.of_a c.loop-next.second c.loop-next.first at c.in-Second.next turn.0 c.in-Some-met_by.last c.in-Some-met_by.ensures.meets)

pub loop-next-smaller : goal.loop-next-smaller
loop-next-smaller c =
    let b = series_said c.args.b.now in
    let by = to_z w64 (of_z w64 c.args.from) in
    let g = c.past-second.ensures.tail b by c.loop-next.of_b c.next-in-Second.new.self c.loop-next.invariant.in_second c.next-in-Second.ensures.steps in
    let l = fewer_left b c.next-in-Second.new.self c.loop-next.second c.past-second.result g.tail.ahead g.further in
    omega (arith, l)

pub loop-next-preserved : goal.loop-next-preserved
loop-next-preserved c =
    let a = series_said c.args.a.now in
    let b = series_said c.args.b.now in
    let by = to_z w64 (of_z w64 c.args.from) in
    let cast : by ≡ c.args.from = to_z-of_z c.ranges.from in
    let from : MeetFrom a b by = rw cast c.requires in
    let bound = to_z w64 (of_z w64 c.args.bound) in
    let turn = subst (IsTurn bound c.loop-next.first c.loop-next.second) c.in-Second.is c.turn_of.ensures in
    let at = onward_turned a b by c.loop-next.of_a c.loop-next.of_b c.loop-next.first c.loop-next.second c.loop-next.invariant in
    let g = c.past-second.ensures.tail b by c.loop-next.of_b c.next-in-Second.new.self c.loop-next.invariant.in_second c.next-in-Second.ensures.steps in
    onward_turned b a by c.next-in-Second.new.self c.loop-next.of_a c.past-second.result c.loop-next.first
    (onward_past b a by (from_turned a b by from) c.loop-next.of_b c.loop-next.of_a c.loop-next.second c.loop-next.first at c.in-Second.next turn.0 c.next-in-Second.new.self c.past-second.result turn.1 c.in_default-met_by.ensures.none g)

pub returns-in-Over : goal.returns-in-Over
returns-in-Over c =
    let a = series_said c.args.a.now in
    let b = series_said c.args.b.now in
    let by = to_z w64 (of_z w64 c.args.from) in
    let cast : by ≡ c.args.from = to_z-of_z c.ranges.from in
    let from : MeetFrom a b by = rw cast c.requires in
    let bound = to_z w64 (of_z w64 c.args.bound) in
    let turn = subst (IsTurn bound c.loop-next.first c.loop-next.second) c.in-Over.is c.turn_of.ensures in
    let cast_bound : bound ≡ c.args.bound = to_z-of_z c.ranges.bound in
    subst (AreClearBelow a b) cast_bound
    (onward_end a b by from c.loop-next.of_a c.loop-next.of_b c.loop-next.first c.loop-next.second c.loop-next.invariant bound turn.0 turn.1)
