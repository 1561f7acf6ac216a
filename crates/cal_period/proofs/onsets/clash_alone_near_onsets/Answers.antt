use Rattle.std.proofs.Common.{◌≡◌, to_z, of_z, w64, FitsSigned, rules, to_z-of_z}
use Rattle.cal_zones.specs.Kinds.{zone_of}
use Rattle.cal_events.specs.Series.{series_said}
use Rattle.cal_period.proofs.NearOnsets.{alone_found_near, within_both}
use Rattle.cal_period.proofs.onsets.clash_alone_near_onsets.Goals as goal

pub returns : goal.returns
returns c =
    let a = c.args.a.now in
    let z = zone_of c.args.zone.now in
    let after = c.half_day_before.result in
    let last = c.min.result in
    let cast_bound : to_z w64 (of_z w64 c.args.bound) ≡ c.args.bound = to_z-of_z c.ranges.bound in
    let fits_after : FitsSigned w64 after = search rules in
    let cast_after : to_z w64 (of_z w64 after) ≡ after = to_z-of_z fits_after in
    let fits_last : FitsSigned w64 last = search rules in
    let cast_last : to_z w64 (of_z w64 last) ≡ last = to_z-of_z fits_last in
    alone_found_near z (series_said a) after c.args.bound last c.clash_alone_between.result
    (record { said = c.zones_repeat.ensures.said; bounds = c.zones_repeat.ensures.bounds z (c.zones_repeat.ensures.kept c.args.zone.now); one = c.one_meaning.ensures.offset })
    (record { said = c.series_are_said.ensures a; known = c.known_by_start.ensures a; lasts = c.instances_last.ensures.series a; clock = c.requires.zone })
    c.requires.apart (within_both c.args.bound last (rw cast_bound at c.min.ensures.value)) c.half_day_before.ensures
    (rw (cast_after, cast_last) at c.clash_alone_between.ensures)
