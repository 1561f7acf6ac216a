use Rattle.std.proofs.Common.{◌≡◌, arith, ◌+ℤ◌, ◌<ℤ◌, to_z, of_z, w64, FitsSigned, rules, to_z-of_z}
use Rattle.std.proofs.lemmas.Int.{ints}
use Rattle.profile.specs.checker.Instances.{horizon}
use Rattle.profile.specs.series.Zones.{IsZoneOnset}
use Rattle.cal_zones.specs.Kinds.{zone_of}
use Rattle.cal_events.specs.Series.{series_said}
use Rattle.cal_period.specs.Onsets.{AreClearSince}
use Rattle.cal_period.proofs.EveryPair.{where_none}
use Rattle.cal_period.proofs.NearOnsets.{holds_next, holds_all, sum_fits}
use Rattle.cal_period.proofs.onsets.clash_between.Goals as goal

pub loop-onset-preserved : goal.loop-onset-preserved
loop-onset-preserved c =
    let a = series_said c.args.a.now in
    let b = series_said c.args.b.now in
    let onset = c.in-Some.onset in
    let reach = c.reach_of-reach.result in
    let next = c.in-Some.ensures in
    let fits : FitsSigned w64 onset = search rules in
    let cast : to_z w64 (of_z w64 onset) ≡ onset = to_z-of_z fits in
    let fits_reach : FitsSigned w64 reach = search rules in
    let cast_reach : to_z w64 (of_z w64 reach) ≡ reach = to_z-of_z fits_reach in
    let before = next.1 in
    let early : onset <ℤ horizon = omega (arith, ints, before, to_z-of_z c.ranges.bound, c.requires) in
    let cast_sum : to_z w64 (of_z w64 (onset +ℤ reach)) ≡ (onset +ℤ reach) = to_z-of_z (sum_fits onset reach fits early c.reach_of-reach.ensures.range.0 c.reach_of-reach.ensures.range.1) in
    let none = where_none c.clash_since.result _ _ c.in_default-clash_since.is c.clash_since.ensures in
    rw (cast, cast_reach)
    (holds_next (IsZoneOnset (zone_of c.args.zone.now)) (λ t. AreClearSince a b t (t +ℤ reach)) _ _ onset (rw cast_reach at c.loop-onset.invariant) next.0 (rw (cast, cast_reach, cast_sum) at none))

pub returns : goal.returns
returns c =
    let a = series_said c.args.a.now in
    let b = series_said c.args.b.now in
    let reach = c.reach_of-reach.result in
    let fits_reach : FitsSigned w64 reach = search rules in
    let cast_reach : to_z w64 (of_z w64 reach) ≡ reach = to_z-of_z fits_reach in
    let none = where_none c.onset_below.result _ _ c.in_default.is c.onset_below.ensures in (
      reach,
      c.reach_of-reach.ensures.reach,
      holds_all (IsZoneOnset (zone_of c.args.zone.now)) (λ t. AreClearSince a b t (t +ℤ reach)) c.args.after _ c.args.bound (rw (to_z-of_z c.ranges.after, cast_reach) at c.loop-onset.invariant) (rw (to_z-of_z c.ranges.bound) at none),
    )
