use Rattle.std.proofs.Common.{◌≡◌, ◌∙◌, ◌<◌, ◌≤◌, ◌++◌, ◌∷◌, [], List, ℕ, length, map, get_or, take, sym, ap, subst, None}
use Rattle.std.specs.List.{AllZip}
use Rattle.std.proofs.lemmas.List.{take_all}
use Rattle.ical_lines.specs.Fault.{RefusesBy, RefusesOnly, RefusesWhere}
use Rattle.ical_values.specs.Octets.{address_octets}
use Rattle.ical_values.proofs.Exits.{err_exit}
use Rattle.ical_tree.specs.Own.{own_lines, own_numbered}
use Rattle.ical_tree.specs.Tree as tree
use Rattle.ical_tree.specs.Tree.{component_lines, component_children, numbered_of, tree_of, zones_in}
use Rattle.ical_tree.specs.declared.component.Component.{Component}
use Rattle.profile.specs.text.Trees.{Tree}
use Rattle.profile.specs.faults.Faults.{is_calendar_fault}
use Rattle.profile.specs.checker.Calendars.{CalendarFault}
use Rattle.profile.specs.events.EventComponents.{EventComponentFault}
use Rattle.profile.specs.events.Placed.{SaysPlaced}
use Rattle.profile.specs.series.RoomZones.{NamesRoomZone, RoomZoneFault}
use Rattle.ical_tree.proofs.TreeOfLemmas.{tree_of-own}
use Rattle.cal_zones.specs.RoomZones.{words_of, room_of}
use Rattle.cal_events.specs.Blame.{CalendarBlame, zones_of}
use Rattle.cal_events.specs.Component.{component_of, vevents_of}
use Rattle.cal_events.specs.Draft.{IsDraft}
use Rattle.cal_events.specs.Zones.{object_of}
use Rattle.cal_events.proofs.shared_lemmas.EventLemmas.{push_zip}
use Rattle.cal_events.proofs.shared_lemmas.ReadingLemmas.{begin_pushed, event_blamed, event_refuses, events_blamed, events_by, events_in, is_among, take_event, take_other, zone_blamed, zone_number, zone_refuses}
use Rattle.cal_events.proofs.shared_lemmas.TreeLemmas.{vevents_tree, only_calendar}
use Rattle.cal_events.proofs.draft.Draft.of_object.Goals as goal
use Rattle.cal_events.proofs.draft.Draft.of_object.Goals.{then-is_named+in_ok-event+in_ok-add, else-is_named}

pub loop-component-init : goal.loop-component-init
loop-component-init c = ([], tt, c.new-draft.ensures.draft (address_octets c.args.room.now), c.new-draft.ensures.begun)

pub returns-in_err-event-clause-fault : goal.returns-in_err-event-clause-fault
returns-in_err-event-clause-fault c =
    let object = c.args.object.now in
    let all = component_children object in
    let i = c.loop-component.component-index in
    let x = c.component-item.result in
    let same = c.children-component-items.ensures in
    let within = subst (λ (l : List Component). i < length l) same c.loop-component-test.true in
    let here = subst (λ (l : List Component). x ≡ get_or l i x) same c.component-item.is in
    err_exit _ (RefusesBy (CalendarFault (tree_of object))) _ c.from_residual-in_err-event.ensures.1
    (event_refuses (tree_of object) (vevents_of object) (component_lines x) _ (vevents_tree object) (is_among component_lines all i x within here (sym c.if-is_named.ensures))
    (subst (λ (t : Tree). RefusesBy (EventComponentFault t None (component_lines x)) c.in_err-event.field-0.0) (ap tree_of c.in_ok-zones.ensures.object) c.in_err-event.ensures.fault))

pub loop-component-preserved : goal.loop-component-preserved
loop-component-preserved c =
    let object = tree_of c.args.object.now in
    let room = address_octets c.args.room.now in
    let all = component_children c.args.object.now in
    let i = c.loop-component.component-index in
    let x = c.component-item.result in
    let same = c.children-component-items.ensures in
    let within = subst (λ (l : List Component). i < length l) same c.loop-component-test.true in
    let here = subst (λ (l : List Component). x ≡ get_or l i x) same c.component-item.is in
    let before = c.loop-component.invariant in
    let zone = room_of c.in_ok-zone.zone in
    elim c.if-is_named.branch [
      | then-is_named+in_ok-event+in_ok-add w ↦ (
        before.0 ++ component_of w.in_ok-event.event ∷ [],
        subst (λ vs. AllZip (SaysPlaced zone object None) vs (before.0 ++ component_of w.in_ok-event.event ∷ [])) (sym (take_event component_lines all i x within here (sym w.if-is_named.ensures)))
            (push_zip (SaysPlaced zone object None) (events_in (take i all)) before.0 (component_lines x) (component_of w.in_ok-event.event) before.1
            (subst (λ (t : Tree). SaysPlaced zone t None (component_lines x) (component_of w.in_ok-event.event)) (ap tree_of c.in_ok-zones.ensures.object) w.in_ok-event.ensures.says)),
        subst (IsDraft room (before.0 ++ component_of w.in_ok-event.event ∷ [])) (sym w.draft-is) (w.in_ok-add.ensures.draft before.0 before.2),
        ap (λ d. d.begins.items) w.draft-is ∙ w.in_ok-add.ensures.begun
            ∙ begin_pushed (events_by numbered_of (take i all)) (numbered_of x) c.loop-component.draft.begins.items w.in_ok-event.event.begun before.3 w.in_ok-event.ensures.begun
            ∙ ap (map (λ event. event.begun)) (sym (take_event numbered_of all i x within here (sym w.if-is_named.ensures))),
      )
      | else-is_named w ↦ (
        before.0,
        subst (λ vs. AllZip (SaysPlaced zone object None) vs before.0) (sym (take_other component_lines all i x within here (sym w.if-is_named.ensures))) before.1,
        subst (IsDraft room before.0) (sym w.draft-is) before.2,
        ap (λ d. d.begins.items) w.draft-is ∙ before.3 ∙ ap (map (λ event. event.begun)) (sym (take_other numbered_of all i x within here (sym w.if-is_named.ensures))),
      )
    ]

pub returns-clause-says : goal.returns-clause-says
returns-clause-says c =
    let object = tree_of c.args.object.now in
    let h = c.loop-component.invariant in
    let zone = room_of c.in_ok-zone.zone in
    let all = take_all c.loop-component.component-index (component_children c.args.object.now) (subst (λ (l : List Component). length l ≤ c.loop-component.component-index) c.children-component-items.ensures c.loop-component-test.false) in
    let says = subst (λ vs. AllZip (SaysPlaced zone object None) vs h.0) (ap events_in all ∙ sym (vevents_tree c.args.object.now)) h.1 in
    let names = subst (λ (own : List (List ℕ)). NamesRoomZone own zone) (c.requires ∙ sym (tree_of-own c.args.object.now)) c.in_ok-zone.ensures.names in
    record { events = h.0; says = record { zone = zone; names = names; each = says }; is = h.2 }

pub returns-in_err-event-clause-refuses : goal.returns-in_err-event-clause-refuses
returns-in_err-event-clause-refuses c = err_exit _ (RefusesOnly is_calendar_fault) _ c.from_residual-in_err-event.ensures.1 (only_calendar _ c.in_err-event.ensures.refuses)

pub returns-in_err-zone-clause-fault : goal.returns-in_err-zone-clause-fault
returns-in_err-zone-clause-fault c =
    let fault = c.in_err-zone.field-0.0 in
    err_exit _ (RefusesBy (CalendarFault (tree_of c.args.object.now))) _ c.from_residual.ensures.1
    (zone_refuses c.args.object.now fault (subst (λ (own : List (List ℕ)). RefusesBy (λ n. (n ≡ 44) × RoomZoneFault own) fault) c.requires c.in_err-zone.ensures.fault))

pub returns-in_err-zone-clause-refuses : goal.returns-in_err-zone-clause-refuses
returns-in_err-zone-clause-refuses c =
    err_exit _ (RefusesOnly is_calendar_fault) _ c.from_residual.ensures.1 (zone_number (own_lines c.args.own.now) c.in_err-zone.field-0.0 c.in_err-zone.ensures.fault)

pub add-requires : goal.add-requires
add-requires c = record {
  words = words_of c.in_ok-zone.zone;
  room = room_of c.in_ok-zone.zone;
  named = c.words_mean.ensures;
  object = object_of c.in_ok-zones.zones;
  lines = component_lines c.component-item.result;
  says = c.in_ok-event.ensures.says;
}

pub returns-clause-begun : goal.returns-clause-begun
returns-clause-begun c =
    let all = component_children c.args.object.now in
    let end = subst (λ (l : List Component). length l ≤ c.loop-component.component-index) c.children-component-items.ensures c.loop-component-test.false in
    c.loop-component.invariant.3 ∙ ap (λ cs. map (λ event. event.begun) (events_by numbered_of cs)) (take_all c.loop-component.component-index all end)

pub returns-in_err-zone-clause-at : goal.returns-in_err-zone-clause-at
returns-in_err-zone-clause-at c same =
    err_exit _ (RefusesWhere (CalendarBlame c.args.object.now)) _ c.from_residual.ensures.1
    (zone_blamed c.args.object.now (own_numbered c.args.own.now) _ c.in_err-zone.field-0.0 same c.in_err-zone.ensures.fault c.in_err-zone.ensures.at)

pub returns-in_err-event-clause-at : goal.returns-in_err-event-clause-at
returns-in_err-event-clause-at c same =
    let object = c.args.object.now in
    let all = component_children object in
    let i = c.loop-component.component-index in
    let x = c.component-item.result in
    let within = subst (λ (l : List Component). i < length l) c.children-component-items.ensures c.loop-component-test.true in
    let here = subst (λ (l : List Component). x ≡ get_or l i x) c.children-component-items.ensures c.component-item.is in
    err_exit _ (RefusesWhere (CalendarBlame object)) _ c.from_residual-in_err-event.ensures.1
    (events_blamed object c.in_err-event.field-0.0
    (event_blamed None (zones_of c.in_ok-zones.zones) (zones_in object) (numbered_of x) (tree.events_in object) c.in_err-event.field-0.0 (ap zones_in c.in_ok-zones.ensures.object)
    (is_among numbered_of all i x within here (sym c.if-is_named.ensures)) c.in_err-event.ensures.at))
