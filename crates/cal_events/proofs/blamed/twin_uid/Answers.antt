use Rattle.std.proofs.Common.{List, map, sym, subst, None}
use Rattle.std.specs.List.{AllZip}
use Rattle.ical_tree.specs.Tree.{tree_of}
use Rattle.ical_tree.proofs.TreeOfLemmas.{tree_of-own}
use Rattle.ical_values.specs.Octets.{text_octets}
use Rattle.profile.specs.checker.Calendars.{SayEvents}
use Rattle.profile.specs.events.Placed.{SaysPlaced}
use Rattle.profile.specs.series.RoomZones.{NamesRoomZone}
use Rattle.cal_zones.specs.RoomZones.{room_of}
use Rattle.cal_events.specs.Component.{component_of}
use Rattle.cal_events.specs.Draft.{IsTwoOf}
use Rattle.cal_events.specs.declared.component.EventComponent.{EventComponent}
use Rattle.profile.specs.checker.Blamed.{of_uid}
use Rattle.cal_events.proofs.shared_lemmas.BlamedLemmas.{twins_blamed}
use Rattle.cal_events.proofs.shared_lemmas.TreeLemmas.{vevents_tree}
use Rattle.cal_events.proofs.blamed.twin_uid.Goals as goal

pub returns : goal.returns
returns c named =
    let object = c.args.object.now in
    let zone = room_of c.args.zone.now in
    let events = map component_of c.in_ok-events.events.items in
    let says : SayEvents (tree_of object) events = record {
      zone = zone;
      names = subst (λ own. NamesRoomZone own zone) (sym (tree_of-own object)) named;
      each = subst (λ vs. AllZip (SaysPlaced zone (tree_of object) None) vs events) (sym (vevents_tree object)) c.in_ok-events.ensures.says;
    } in
    twins_blamed (tree_of object) (text_octets c.in-Some.uid) events c.args.number says
    (subst (λ (l : List EventComponent). IsTwoOf (of_uid (text_octets c.in-Some.uid) (map component_of l)) c.args.number) c.deref-2.ensures.value (c.in_ok-are_twins.ensures c.if-not-branch.false))
