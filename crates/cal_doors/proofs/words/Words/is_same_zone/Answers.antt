use Rattle.std.proofs.Common.{◌∙◌, ap, sym, subst}
use Rattle.std.specs.Prelude.{option_copied}
use Rattle.profile.specs.events.ZonedTimes.{zone_named, SaysZoneOf}
use Rattle.cal_zones.specs.Kinds.{zone_of}
use Rattle.cal_doors.proofs.ToldZones.{zone_held}
use Rattle.cal_doors.proofs.words.Words.is_same_zone.Goals as goal

pub returns : goal.returns
returns c = λ same read answer are.
    let name = c.args.name.now in
    let new = c.args.new.now in
    let zone = c.in-Some.zone.now in
    let other = c.in-Some-get.other.now in
    let here = zone_held answer name c.args.self.now.told.entries zone are.told_zones (sym c.get.ensures.value ∙ ap option_copied c.in-Some.is) in
    let there = zone_held read new c.args.self.now.read.entries other are.read_zones (sym c.get-2.ensures.value ∙ ap option_copied c.in-Some-get.is) in
    (zone_of zone, here, subst (SaysZoneOf (zone_named new read)) (sym (c.is_same.ensures same)) there)
