use Rattle.std.proofs.Common.{◌∙◌, ap, sym, subst}
use Rattle.std.specs.Prelude.{Option, option_map, string_bytes, IfSome}
use Rattle.std.specs.Borrow.{Bor}
use Rattle.ical_tree.specs.Tree.{tree_of}
use Rattle.ical_tree.specs.declared.component.Component.{Component}
use Rattle.profile.specs.series.ZoneTexts.{SaysZone}
use Rattle.profile.specs.events.ZonedTimes.{zone_named, SaysZoneOf}
use Rattle.cal_zones.specs.Kinds.{zone_of}
use Rattle.cal_zones.specs.declared.zone.Zone.{Zone}
use Rattle.cal_doors.specs.Told.{AreZonesOf}
use Rattle.cal_doors.proofs.ToldZones.{zone_added, says_there}
use Rattle.cal_doors.proofs.words.add_zone_of.Goals as goal

pub returns : goal.returns
returns c = λ object is are.
    let name = c.in-Some.name.now in
    let whole = tree_of c.args.named.now.object.now in
    let part = tree_of c.in-Some-named.part.now in
    let zone = c.in-Some-2.zone in
    let key = c.in_ok-name.name in
    let there = sym c.named.ensures ∙ ap (option_map (λ (z : Bor Component). tree_of z.now)) c.in-Some-named.is in
    let read = subst (λ (o : Option Zone). IfSome o (λ z. SaysZone part (zone_of z))) c.in-Some-2.is c.in_ok-zone.ensures in
    let says = says_there (zone_named name whole) part zone there read in
    let named = subst (λ n. SaysZoneOf (zone_named n whole) (zone_of zone)) (sym c.in_ok-name.ensures.ok) says in
    let more = zone_added object key zone c.args.zones.now.entries (subst (λ o. SaysZoneOf (zone_named (string_bytes key) o) (zone_of zone)) (sym is) named) are in
    subst (AreZonesOf object) (sym c.in_ok-insert.ensures.entries) more
