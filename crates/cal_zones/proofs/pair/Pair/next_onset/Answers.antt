use Rattle.std.proofs.Common.{◌≡◌, ◌≤ℤ◌, subst, arith, rules, FitsSigned, to_z, of_z, w64, to_z-of_z}
use Rattle.jiff_core.proofs.SignedLemmas.{signed_arith}
use Rattle.profile.specs.series.Zones.{IsOnset}
use Rattle.cal_zones.specs.Onsets.{observance_of}
use Rattle.cal_zones.specs.Spans.{IsNextOr}
use Rattle.cal_zones.proofs.Onsets.{next_left, next_right, none_up_to}
use Rattle.cal_zones.proofs.pair.Pair.next_onset.Goals as goal

pub returns-in-None-Some : goal.returns-in-None-Some
returns-in-None-Some c =
    let p = c.args.self.now in
    let after = c.args.after in
    let y = c.in-None-Some.y in
    let fits : FitsSigned w64 y = search rules in
    let cast : to_z w64 (of_z w64 y) ≡ y = to_z-of_z fits in
    let none = subst (IsNextOr (IsOnset (observance_of p.standard)) after) c.in-None-Some.is-0 (rw (to_z-of_z c.ranges.after) at c.next_onset-standard.ensures) in
    let next = subst (IsNextOr (IsOnset (observance_of p.daylight)) after) c.in-None-Some.is-1 (rw (to_z-of_z c.ranges.after) at c.next_onset-daylight.ensures) in
    rw cast (next_right (observance_of p.standard) (observance_of p.daylight) after y (none_up_to y none (omega (arith, signed_arith, fits))) next)

pub returns-in-Some-None : goal.returns-in-Some-None
returns-in-Some-None c =
    let p = c.args.self.now in
    let after = c.args.after in
    let x = c.in-Some-None.x in
    let fits : FitsSigned w64 x = search rules in
    let cast : to_z w64 (of_z w64 x) ≡ x = to_z-of_z fits in
    let next = subst (IsNextOr (IsOnset (observance_of p.standard)) after) c.in-Some-None.is-0 (rw (to_z-of_z c.ranges.after) at c.next_onset-standard.ensures) in
    let none = subst (IsNextOr (IsOnset (observance_of p.daylight)) after) c.in-Some-None.is-1 (rw (to_z-of_z c.ranges.after) at c.next_onset-daylight.ensures) in
    rw cast (next_left (observance_of p.standard) (observance_of p.daylight) after x next (none_up_to x none (omega (arith, signed_arith, fits))))

pub returns-in-Some-Some : goal.returns-in-Some-Some
returns-in-Some-Some c =
    let p = c.args.self.now in
    let after = c.args.after in
    let x = c.in-Some-Some.x in
    let y = c.in-Some-Some.y in
    let fits : FitsSigned w64 x = search rules in
    let cast : to_z w64 (of_z w64 x) ≡ x = to_z-of_z fits in
    let fits_y : FitsSigned w64 y = search rules in
    let cast_y : to_z w64 (of_z w64 y) ≡ y = to_z-of_z fits_y in
    let next = subst (IsNextOr (IsOnset (observance_of p.standard)) after) c.in-Some-Some.is-0 (rw (to_z-of_z c.ranges.after) at c.next_onset-standard.ensures) in
    let other = subst (IsNextOr (IsOnset (observance_of p.daylight)) after) c.in-Some-Some.is-1 (rw (to_z-of_z c.ranges.after) at c.next_onset-daylight.ensures) in
    let early : x ≤ℤ y = omega (arith, signed_arith, cast, cast_y, c.if-x-y.true) in
    rw cast (next_left (observance_of p.standard) (observance_of p.daylight) after x next (none_up_to x other.none early))

pub returns-in-Some-Some-2 : goal.returns-in-Some-Some-2
returns-in-Some-Some-2 c =
    let p = c.args.self.now in
    let after = c.args.after in
    let x = c.in-Some-Some.x in
    let y = c.in-Some-Some.y in
    let fits : FitsSigned w64 x = search rules in
    let cast : to_z w64 (of_z w64 x) ≡ x = to_z-of_z fits in
    let fits_y : FitsSigned w64 y = search rules in
    let cast_y : to_z w64 (of_z w64 y) ≡ y = to_z-of_z fits_y in
    let other = subst (IsNextOr (IsOnset (observance_of p.standard)) after) c.in-Some-Some.is-0 (rw (to_z-of_z c.ranges.after) at c.next_onset-standard.ensures) in
    let next = subst (IsNextOr (IsOnset (observance_of p.daylight)) after) c.in-Some-Some.is-1 (rw (to_z-of_z c.ranges.after) at c.next_onset-daylight.ensures) in
    let early : y ≤ℤ x = omega (arith, signed_arith, cast, cast_y, c.if-x-y.false) in
    rw cast_y (next_right (observance_of p.standard) (observance_of p.daylight) after y (none_up_to y other.none early) next)
