use Rattle.std.proofs.Common.{◌≤ℤ◌, arith, to_z, of_z, w64, to_z-of_z}
use Rattle.std.proofs.lemmas.Int.{ints}
use Rattle.cal_zones.specs.Onsets.{observance_of}
use Rattle.cal_zones.proofs.Spans.{none_of_two}
use Rattle.cal_zones.proofs.pair.Pair.quiet_until.Goals as goal

pub returns : goal.returns
returns c =
    let p = c.args.self.now in
    let standard = c.quiet_until-standard in
    let daylight = c.quiet_until-daylight in
    let low : to_z w64 (of_z w64 c.min.result) ≤ℤ standard.result = omega (arith, ints, c.min.ensures.self_bound, c.min.type_inv, standard.type_inv) in
    let high : to_z w64 (of_z w64 c.min.result) ≤ℤ daylight.result = omega (arith, ints, c.min.ensures.other_bound, c.min.type_inv, daylight.type_inv) in
    none_of_two (observance_of p.standard) (observance_of p.daylight) c.args.instant standard.result daylight.result _ (rw (to_z-of_z c.ranges.instant) at standard.ensures) (rw (to_z-of_z c.ranges.instant) at daylight.ensures) low high
