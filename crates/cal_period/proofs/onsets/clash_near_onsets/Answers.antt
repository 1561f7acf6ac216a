use Rattle.std.proofs.Common.{◌≡◌, arith, ◌≤ℤ◌, to_z, of_z, w64, FitsSigned, rules, to_z-of_z}
use Rattle.std.proofs.lemmas.Int.{ints}
use Rattle.cal_zones.specs.Kinds.{zone_of}
use Rattle.cal_events.specs.Series.{series_said}
use Rattle.cal_period.proofs.NearOnsets.{pair_found, half_day_earlier, within_both}
use Rattle.cal_period.proofs.onsets.clash_near_onsets.Goals as goal

pub returns : goal.returns
returns c =
    let a = c.args.a.now in
    let b = c.args.b.now in
    let z = zone_of c.args.zone.now in
    let after = c.min.result in
    let last = c.min-2.result in
    let first = c.half_day_before-first in
    let second = c.half_day_before-second in
    let cast_bound : to_z w64 (of_z w64 c.args.bound) ≡ c.args.bound = to_z-of_z c.ranges.bound in
    let fits_after : FitsSigned w64 after = search rules in
    let cast_after : to_z w64 (of_z w64 after) ≡ after = to_z-of_z fits_after in
    let fits_last : FitsSigned w64 last = search rules in
    let cast_last : to_z w64 (of_z w64 last) ≡ last = to_z-of_z fits_last in
    let low : after ≤ℤ first.result = omega (arith, ints, c.min.ensures.self_bound, first.type_inv) in
    let high : after ≤ℤ second.result = omega (arith, ints, c.min.ensures.other_bound, second.type_inv) in
    pair_found z (series_said a) (series_said b) after c.args.bound last c.clash_between.result
    (record { said = c.zones_repeat.ensures.said; bounds = c.zones_repeat.ensures.bounds z (c.zones_repeat.ensures.kept c.args.zone.now); one = c.one_meaning.ensures.offset })
    (record { said = c.series_are_said.ensures a; known = c.known_by_start.ensures a; lasts = c.instances_last.ensures.series a; clock = c.requires.zone.0 })
    (record { said = c.series_are_said.ensures b; known = c.known_by_start.ensures b; lasts = c.instances_last.ensures.series b; clock = c.requires.zone.1 })
    c.requires.apart (within_both c.args.bound last (rw cast_bound at c.min-2.ensures.value)) (half_day_earlier (series_said a) first.result after low first.ensures) (half_day_earlier (series_said b) second.result after high second.ensures)
    (rw (cast_after, cast_last) at c.clash_between.ensures)
