use Rattle.ical_tree.specs.Tree.{component_lines, component_children, numbered_of, zone_of_component}
use Rattle.profile.specs.series.ZoneTexts.{other_parts}
use Rattle.cal_zones.specs.Kinds.{zone_of}
use Rattle.cal_zones.specs.Read.{HasZoneFault, YearlyFault, in_standard, in_daylight, zone_parts, standards_of, daylights_of}
use Rattle.cal_zones.proofs.PartLemmas.{standard_is_part, daylight_is_part}
use Rattle.cal_zones.proofs.Reading.{fault_exit, both_refused, both_say, both_fault}
use Rattle.cal_zones.specs.Onsets.{observance_of}
use Rattle.cal_zones.proofs.Blamed.{where_exit, in_part, later_part, pair_shape}
use Rattle.profile.specs.series.ZoneBlame.{PartBlame, ZoneBlame}
use Rattle.cal_zones.proofs.read.read_pair.Goals as goal

pub returns-in_default-clause-fault : goal.returns-in_default-clause-fault
returns-in_default-clause-fault c = rw c.at.ensures (other_parts c.requires.differ c.requires.several (λ h. c.in_default.ensures.none h.0))

pub returns-in_default-only_named-clause-fault : goal.returns-in_default-only_named-clause-fault
returns-in_default-only_named-clause-fault c = rw c.at-in_default-only_named.ensures (other_parts c.requires.differ c.requires.several (λ h. c.in_default-only_named.ensures.none h.1))

pub returns-in_err-first-clause-fault : goal.returns-in_err-first-clause-fault
returns-in_err-first-clause-fault c =
    let zone = c.args.zone.now in
    let p = component_lines c.in-Some.standard.now in
    let q = component_lines c.in-Some-only_named.daylight.now in
    fault_exit _ (HasZoneFault zone) (YearlyFault p) _ (λ n h. both_fault (zone_parts zone) (standards_of zone) (daylights_of zone) p q n c.requires.differ c.in-Some.ensures.found c.in-Some-only_named.ensures.found
    (standard_is_part (component_children zone) p c.in-Some.ensures.found) (daylight_is_part (component_children zone) q c.in-Some-only_named.ensures.found) (in_standard h)) c.from_residual.ensures.1 c.in_err-first.ensures.fault

pub returns-in_err-second-clause-fault : goal.returns-in_err-second-clause-fault
returns-in_err-second-clause-fault c =
    let zone = c.args.zone.now in
    let p = component_lines c.in-Some.standard.now in
    let q = component_lines c.in-Some-only_named.daylight.now in
    fault_exit _ (HasZoneFault zone) (YearlyFault q) _ (λ n h. both_fault (zone_parts zone) (standards_of zone) (daylights_of zone) p q n c.requires.differ c.in-Some.ensures.found c.in-Some-only_named.ensures.found
    (standard_is_part (component_children zone) p c.in-Some.ensures.found) (daylight_is_part (component_children zone) q c.in-Some-only_named.ensures.found) (in_daylight h)) c.from_residual-in_err-second.ensures.1 c.in_err-second.ensures.fault

pub returns-in_err-first-clause-at : goal.returns-in_err-first-clause-at
returns-in_err-first-clause-at c =
    let zone = c.args.zone.now in
    let part = c.in-Some.standard.now in
    where_exit _ (ZoneBlame (zone_of_component zone)) (PartBlame (numbered_of part)) _ (λ n at h. in_part zone part n at c.in-Some.ensures.among h) c.from_residual.ensures.1 c.in_err-first.ensures.at

pub returns-in_err-second-clause-at : goal.returns-in_err-second-clause-at
returns-in_err-second-clause-at c =
    let zone = c.args.zone.now in
    let part = c.in-Some-only_named.daylight.now in
    where_exit _ (ZoneBlame (zone_of_component zone)) (PartBlame (numbered_of part)) _ (λ n at h. in_part zone part n at c.in-Some-only_named.ensures.among h) c.from_residual-in_err-second.ensures.1 c.in_err-second.ensures.at

pub returns-in-Err-clause-fault : goal.returns-in-Err-clause-fault
returns-in-Err-clause-fault c =
    let zone = c.args.zone.now in
    let p = component_lines c.in-Some.standard.now in
    let q = component_lines c.in-Some-only_named.daylight.now in
    let n = c.in-Err.refusal.number in
    rw c.at-in-Err.ensures (both_fault (zone_parts zone) (standards_of zone) (daylights_of zone) p q n c.requires.differ c.in-Some.ensures.found c.in-Some-only_named.ensures.found
    (standard_is_part (component_children zone) p c.in-Some.ensures.found) (daylight_is_part (component_children zone) q c.in-Some-only_named.ensures.found)
    (both_refused p q c.in_ok-first.first c.in_ok-second.second n c.in_ok-first.ensures.says c.in_ok-second.ensures.says c.in_ok-first.ensures.has_rule c.in_ok-second.ensures.has_rule c.in-Err.ensures.refuses))

pub returns-in-Err-clause-at : goal.returns-in-Err-clause-at
returns-in-Err-clause-at c =
    let later = rw (c.begun-in-Err.ensures, c.begun-in-Err-2.ensures) at c.max-later.ensures in
    rw c.at-in-Err.ensures (later_part c.args.zone.now c.in-Some.standard.now c.in-Some-only_named.daylight.now _ _ c.in-Some.ensures.among c.in-Some-only_named.ensures.among
    (pair_shape _ (observance_of c.in_ok-first.first) (observance_of c.in_ok-second.second) c.in-Err.ensures.refuses) later)

pub returns-in-Ok-clause-says : goal.returns-in-Ok-clause-says
returns-in-Ok-clause-says c =
    let zone = c.args.zone.now in
    let p = component_lines c.in-Some.standard.now in
    let q = component_lines c.in-Some-only_named.daylight.now in
    let a = observance_of c.in_ok-first.first in
    let b = observance_of c.in_ok-second.second in
    let ok = c.in-Ok.ensures in
    both_say (zone_parts zone) (standards_of zone) (daylights_of zone) p q (zone_of c.in-Ok.zone) c.requires.differ c.in-Some.ensures.found c.in-Some-only_named.ensures.found
    (a, b, ok.ok, c.in_ok-first.ensures.says, c.in_ok-second.ensures.says, ok.accepted.0, ok.accepted.1)
