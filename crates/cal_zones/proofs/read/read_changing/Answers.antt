use Rattle.ical_lines.specs.Fault.{RefusesWhere}
use Rattle.ical_tree.specs.Tree.{component_lines, numbered_of, zone_of_component}
use Rattle.profile.specs.series.ZoneBlame.{PartBlame, ZoneBlame}
use Rattle.std.proofs.lemmas.Result.{IfOk-weaker, IfErr-weaker}
use Rattle.cal_zones.proofs.Blamed.{where_weaker, in_part}
use Rattle.cal_zones.specs.Kinds.{zone_of}
use Rattle.cal_zones.specs.Read.{SaysComponentZone, HasZoneFault, SaysSingle, SingleFault, zone_parts, standards_of, daylights_of}
use Rattle.cal_zones.proofs.Reading.{weaker_fault, single_says, single_fault}
use Rattle.cal_zones.proofs.read.read_changing.Goals as goal

pub returns-in-Some-clause-says : goal.returns-in-Some-clause-says
returns-in-Some-clause-says c =
    let zone = c.args.zone.now in
    let part = component_lines c.in-Some.part.now in
    IfOk-weaker _ (λ z. SaysSingle part (zone_of z)) (λ z. SaysComponentZone zone (zone_of z))
    (λ z h. single_says (zone_parts zone) (standards_of zone) (daylights_of zone) part (zone_of z) c.requires c.in-Some.ensures.found h) c.read_single.ensures.says

pub returns-in-Some-clause-fault : goal.returns-in-Some-clause-fault
returns-in-Some-clause-fault c =
    let zone = c.args.zone.now in
    let part = component_lines c.in-Some.part.now in
    weaker_fault _ (SingleFault part) (HasZoneFault zone)
    (λ n h. single_fault (zone_parts zone) (standards_of zone) (daylights_of zone) part n c.requires c.in-Some.ensures.found h) c.read_single.ensures.fault

pub returns-in-Some-clause-at : goal.returns-in-Some-clause-at
returns-in-Some-clause-at c =
    let zone = c.args.zone.now in
    let part = c.in-Some.part.now in
    IfErr-weaker _ (RefusesWhere (PartBlame (numbered_of part))) (RefusesWhere (ZoneBlame (zone_of_component zone)))
    (λ e h. where_weaker _ _ e (λ n at h. in_part zone part n at c.in-Some.ensures.among h) h) c.read_single.ensures.at
