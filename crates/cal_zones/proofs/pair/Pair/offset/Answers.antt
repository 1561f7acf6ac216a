use Rattle.std.proofs.Common.{◌≡◌, arith, to_z, of_z, w64, to_z-of_z, ◌≤ℤ◌}
use Rattle.jiff_core.proofs.SignedLemmas.{signed_arith}
use Rattle.cal_zones.specs.Onsets.{observance_of}
use Rattle.cal_zones.proofs.Casts.{narrow}
use Rattle.cal_zones.proofs.Zones.{left_alone, left_later, right_alone, right_later}
use Rattle.cal_zones.proofs.pair.Pair.offset.Goals as goal

pub returns-in-None-None-clause-offset : goal.returns-in-None-None-clause-offset
returns-in-None-None-clause-offset c =
    let e = c.offset_before_both.ensures in
    rw (narrow c.offset_before_both.result e.range) (rw (to_z-of_z c.ranges.instant) at e.offset)

pub returns-in-None-Some-clause-offset : goal.returns-in-None-Some-clause-offset
returns-in-None-Some-clause-offset c =
    let a = c.args.self.now.standard in
    let b = c.args.self.now.daylight in
    let none = rw (c.in-None-Some.is-0, to_z-of_z c.ranges.instant) at c.latest_onset-standard.ensures.latest in
    let last = rw (c.in-None-Some.is-1, to_z-of_z c.ranges.instant) at c.latest_onset-daylight.ensures.latest in
    rw (narrow b.offset_to b.to) (right_alone (observance_of a) (observance_of b) c.args.instant _ last none)

pub returns-in-Some-None-clause-offset : goal.returns-in-Some-None-clause-offset
returns-in-Some-None-clause-offset c =
    let a = c.args.self.now.standard in
    let b = c.args.self.now.daylight in
    let last = rw (c.in-Some-None.is-0, to_z-of_z c.ranges.instant) at c.latest_onset-standard.ensures.latest in
    let none = rw (c.in-Some-None.is-1, to_z-of_z c.ranges.instant) at c.latest_onset-daylight.ensures.latest in
    rw (narrow a.offset_to a.to) (left_alone (observance_of a) (observance_of b) c.args.instant _ last none)

pub returns-in-Some-Some-clause-offset : goal.returns-in-Some-Some-clause-offset
returns-in-Some-Some-clause-offset c =
    let a = c.args.self.now.standard in
    let b = c.args.self.now.daylight in
    let both = c.in-Some-Some in
    let first = rw (both.is-0, to_z-of_z c.ranges.instant) at c.latest_onset-standard.ensures.latest in
    let second = rw (both.is-1, to_z-of_z c.ranges.instant) at c.latest_onset-daylight.ensures.latest in
    let x : to_z w64 (of_z w64 both.x) ≡ both.x = omega (arith, signed_arith, rw both.is-0 at c.latest_onset-standard.ensures.low, first.begun, c.ranges.instant) in
    let y : to_z w64 (of_z w64 both.y) ≡ both.y = omega (arith, signed_arith, rw both.is-1 at c.latest_onset-daylight.ensures.low, second.begun, c.ranges.instant) in
    let order : both.y ≤ℤ both.x = omega (arith, signed_arith, c.if-x-y.true) in
    rw (narrow a.offset_to a.to) (left_later (observance_of a) (observance_of b) c.args.instant both.x both.y first second order)

pub returns-in-Some-Some-2-clause-offset : goal.returns-in-Some-Some-2-clause-offset
returns-in-Some-Some-2-clause-offset c =
    let a = c.args.self.now.standard in
    let b = c.args.self.now.daylight in
    let both = c.in-Some-Some in
    let first = rw (both.is-0, to_z-of_z c.ranges.instant) at c.latest_onset-standard.ensures.latest in
    let second = rw (both.is-1, to_z-of_z c.ranges.instant) at c.latest_onset-daylight.ensures.latest in
    let x : to_z w64 (of_z w64 both.x) ≡ both.x = omega (arith, signed_arith, rw both.is-0 at c.latest_onset-standard.ensures.low, first.begun, c.ranges.instant) in
    let y : to_z w64 (of_z w64 both.y) ≡ both.y = omega (arith, signed_arith, rw both.is-1 at c.latest_onset-daylight.ensures.low, second.begun, c.ranges.instant) in
    let order : both.x ≤ℤ both.y = omega (arith, signed_arith, c.if-x-y.false) in
    rw (narrow b.offset_to b.to) (right_later (observance_of a) (observance_of b) c.args.instant both.x both.y first second order)
