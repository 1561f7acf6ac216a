use Rattle.std.proofs.Common.{◌∙◌, ◌<◌, ◌≤◌, sym, subst, List, map, filter, length}
use Rattle.profile.specs.events.EventComponents.{EventComponent as SaidComponent}
use Rattle.ical_lines.specs.Fault.{RefusesBy, RefusesWhere}
use Rattle.ical_lines.specs.declared.fault.Fault.TheVariants.{Refused}
use Rattle.ical_tree.specs.Tree.{events_in, tree_of, zones_in}
use Rattle.profile.specs.events.Events.{is_master, is_override, taken_by, AreOfOne, OverridesApart, EventFault}
use Rattle.ical_values.proofs.Exits.{err_exit}
use Rattle.profile.specs.events.EventBlame.{EventsBlame}
use Rattle.cal_events.specs.Begins.{begins_of, BetweenBlame}
use Rattle.cal_events.proofs.shared_lemmas.LaterLemmas.{between_blamed}
use Rattle.cal_events.specs.declared.component.EventComponent.{EventComponent}
use Rattle.cal_events.specs.Component.{component_of, method_read, vevents_of, IsFaultAmong}
use Rattle.cal_events.specs.MeetingComponents.{IsNotOne, NameInstances, SharesSlot}
use Rattle.cal_zones.specs.RoomZones.{room_of}
use Rattle.cal_events.proofs.shared_lemmas.TreeLemmas.{vevents_tree}
use Rattle.cal_events.proofs.shared_lemmas.ZonedLemmas.{weaker_fault}
use Rattle.cal_events.proofs.shared_lemmas.MeetingLemmas.{among_there, not_one_there, slot_there, object_there, names_taken}
use Rattle.cal_events.proofs.meeting_components.read_meeting_in.Goals as goal

pub returns-in_err-components-clause-fault : goal.returns-in_err-components-clause-fault
returns-in_err-components-clause-fault c =
    let object = c.args.object.now in
    let m = method_read c.args.method in
    let room = room_of c.args.room.now in
    err_exit _ (RefusesBy (EventFault room (tree_of object) m)) _ c.from_residual.ensures.1
    (weaker_fault _ (IsFaultAmong (tree_of object) m (vevents_of object)) (EventFault room (tree_of object) m)
    (among_there room (tree_of object) (vevents_of object) (vevents_tree object) m) c.in_err-components.ensures.fault)

pub returns-in_err-judge_meeting-clause-fault : goal.returns-in_err-judge_meeting-clause-fault
returns-in_err-judge_meeting-clause-fault c =
    let object = c.args.object.now in
    let m = method_read c.args.method in
    let room = room_of c.args.room.now in
    let items = c.in_ok-components.components.items in
    err_exit _ (RefusesBy (EventFault room (tree_of object) m)) _ c.from_residual-in_err-judge_meeting.ensures.1
    (not_one_there room (tree_of object) (vevents_of object) (vevents_tree object) m (map component_of items) c.in_ok-components.ensures.says c.in_err-judge_meeting.field-0.0.number
    (subst (λ (l : List EventComponent). IsNotOne (map component_of l) c.in_err-judge_meeting.field-0.0.number) c.deref.ensures.value c.in_err-judge_meeting.ensures.fault))

pub judge_slots-requires : goal.judge_slots-requires
judge_slots-requires c =
    let object = c.args.object.now in
    let m = method_read c.args.method in
    let said = map component_of c.in_ok-components.components.items in
    record {
      named = subst (λ (l : List EventComponent). NameInstances (map component_of l)) (sym c.deref-2.ensures.value)
          (subst NameInstances (sym c.in_ok-taken.ensures.are) (names_taken (room_of c.args.room.now) (tree_of object) m (vevents_of object) said c.in_ok-components.ensures.says));
    }

pub returns-in_err-judge_slots-clause-fault : goal.returns-in_err-judge_slots-clause-fault
returns-in_err-judge_slots-clause-fault c =
    let object = c.args.object.now in
    let m = method_read c.args.method in
    let room = room_of c.args.room.now in
    let e = c.in_err-judge_slots.field-0.0 in
    err_exit _ (RefusesBy (EventFault room (tree_of object) m)) _ c.from_residual-in_err-judge_slots.ensures.1
    (weaker_fault _ (SharesSlot m (taken_by m (map component_of c.in_ok-components.components.items))) (EventFault room (tree_of object) m)
    (slot_there room (tree_of object) (vevents_of object) (vevents_tree object) m (map component_of c.in_ok-components.components.items) c.in_ok-components.ensures.says)
    (subst (λ (l : List SaidComponent). RefusesBy (SharesSlot m l) e) c.in_ok-taken.ensures.are
    (subst (λ (l : List EventComponent). RefusesBy (SharesSlot m (map component_of l)) e) c.deref-2.ensures.value c.in_err-judge_slots.ensures.fault)))

pub returns-in_err-judge_meeting-clause-at : goal.returns-in_err-judge_meeting-clause-at
returns-in_err-judge_meeting-clause-at c =
    let object = c.args.object.now in
    let m = method_read c.args.method in
    let e = c.in_err-judge_meeting.field-0.0 in
    err_exit _ (RefusesWhere (EventsBlame m (zones_in object) (events_in object))) _ c.from_residual-in_err-judge_meeting.ensures.1
    (between_blamed m (zones_in object) (events_in object) (begins_of c.in_ok-components.components.items) (Refused e) c.in_ok-components.ensures.begun
    (subst (λ (l : List EventComponent). BetweenBlame (begins_of l) e.number e.line) c.deref.ensures.value c.in_err-judge_meeting.ensures.at))

pub returns-in_err-judge_slots-clause-at : goal.returns-in_err-judge_slots-clause-at
returns-in_err-judge_slots-clause-at c =
    let object = c.args.object.now in
    let m = method_read c.args.method in
    let e = c.in_err-judge_slots.field-0.0 in
    err_exit _ (RefusesWhere (EventsBlame m (zones_in object) (events_in object))) _ c.from_residual-in_err-judge_slots.ensures.1
    (between_blamed m (zones_in object) (events_in object) (begins_of c.in_ok-taken.taken.items) e (c.in_ok-taken.ensures.begun ∙ c.in_ok-components.ensures.begun)
    (subst (λ (l : List EventComponent). RefusesWhere (BetweenBlame (begins_of l)) e) c.deref-2.ensures.value c.in_err-judge_slots.ensures.at))

pub returns-clause-says : goal.returns-clause-says
returns-clause-says c =
    let object = c.args.object.now in
    object_there (room_of c.args.room.now) (tree_of object) (method_read c.args.method) (vevents_of object) (map component_of c.in_ok-components.components.items) (map component_of c.in_ok-taken.taken.items)
    c.in_ok-components.ensures.says c.in_ok-taken.ensures.are
    (subst (λ (l : List EventComponent). 0 < length (map component_of l)) c.deref.ensures.value c.in_ok-judge_meeting.ensures.some)
    (subst (λ (l : List EventComponent). AreOfOne (map component_of l)) c.deref.ensures.value c.in_ok-judge_meeting.ensures.one)
    (subst (λ (l : List EventComponent). length (filter is_master (map component_of l)) ≤ 1) c.deref-2.ensures.value c.in_ok-judge_slots.ensures.masters)
    (subst (λ (l : List EventComponent). OverridesApart (method_read c.args.method) (filter is_override (map component_of l))) c.deref-2.ensures.value c.in_ok-judge_slots.ensures.differ)
