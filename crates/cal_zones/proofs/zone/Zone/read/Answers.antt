use Rattle.ical_tree.specs.Tree.{tree_of}
use Rattle.profile.specs.series.ZoneTexts.{SaysZone, ZoneFault}
use Rattle.cal_zones.specs.Kinds.{zone_of}
use Rattle.cal_zones.specs.Read.{SaysComponentZone, HasZoneFault}
use Rattle.cal_zones.proofs.Reading.{weaker_fault, says_there, fault_there}
use Rattle.std.proofs.lemmas.Result.{IfOk-weaker}
use Rattle.cal_zones.proofs.zone.Zone.read.Goals as goal

pub returns-clause-says : goal.returns-clause-says
returns-clause-says c =
    let zone = c.args.zone.now in
    IfOk-weaker _ (λ z. SaysComponentZone zone (zone_of z)) (λ z. SaysZone (tree_of zone) (zone_of z)) (λ z h. says_there zone (zone_of z) h) c.read_zone.ensures.says

pub returns-clause-fault : goal.returns-clause-fault
returns-clause-fault c =
    let zone = c.args.zone.now in
    weaker_fault _ (HasZoneFault zone) (ZoneFault (tree_of zone)) (fault_there zone) c.read_zone.ensures.fault
