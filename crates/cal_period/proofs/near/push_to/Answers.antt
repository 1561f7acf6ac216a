use Rattle.std.proofs.Common.{◌≡◌, to_z, of_z, w64, FitsSigned, rules, to_z-of_z}
use Rattle.cal_zones.specs.Kinds.{zone_of}
use Rattle.cal_events.specs.Series.{series_said}
use Rattle.cal_period.proofs.EveryPair.{where_none}
use Rattle.cal_period.proofs.NearLists.{pushed_first, pushed_more}
use Rattle.cal_period.proofs.near.push_to.Goals as goal

pub loop-onset-init : goal.loop-onset-init
loop-onset-init c = pushed_first (series_said c.args.series.now) (zone_of c.args.zone.now) _ c.args.near.now.items

pub loop-onset-preserved : goal.loop-onset-preserved
loop-onset-preserved c =
    let onset = c.in-Some.onset in
    let fits : FitsSigned w64 onset = search rules in
    let cast : to_z w64 (of_z w64 onset) ≡ onset = to_z-of_z fits in
    rw cast
    (pushed_more (series_said c.args.series.now) (zone_of c.args.zone.now) _ _ onset c.args.near.now.items c.loop-onset.near.items c.push_near.new.near.items c.loop-onset.invariant c.in-Some.ensures.0
    (c.push_near.ensures.stay) (rw cast at c.in_ok-push_near.ensures.holds))

pub returns-clause-none : goal.returns-clause-none
returns-clause-none c = rw (to_z-of_z c.ranges.bound) at (where_none c.onset_below.result _ _ c.in_default.is c.onset_below.ensures)

pub returns-clause-holds : goal.returns-clause-holds
returns-clause-holds c = rw (to_z-of_z c.ranges.after) at c.loop-onset.invariant.holds

pub returns-clause-stay : goal.returns-clause-stay
returns-clause-stay c = c.loop-onset.invariant.stay
