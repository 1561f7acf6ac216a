use Rattle.std.proofs.Common.{◌<◌, ◌≤◌, ◌≡◌, ◌∙◌, List, length, map, take, take_all, get_or, sym, ap, subst, arith}
use Rattle.std.specs.List.{AllZip}
use Rattle.ical_lines.specs.Fault.{RefusesBy, RefusesWhere}
use Rattle.ical_tree.specs.Tree.{component_lines, component_children, numbered_of, tree_of, zones_in}
use Rattle.ical_tree.specs.Tree as tree
use Rattle.ical_tree.specs.declared.component.Component.{Component}
use Rattle.profile.specs.text.Trees.{Tree}
use Rattle.profile.specs.events.EventComponents.{EventComponentFault}
use Rattle.profile.specs.events.Placed.{SaysPlaced}
use Rattle.cal_zones.specs.RoomZones.{room_of}
use Rattle.profile.specs.events.EventBlame.{EventsBlame}
use Rattle.cal_events.specs.Blame.{zones_of}
use Rattle.cal_events.specs.Component.{component_of, vevents_of, IsFaultAmong, method_read}
use Rattle.cal_events.proofs.shared_lemmas.ReadingLemmas.{begun_pushed, event_blamed, event_pushed, events_by, events_in, is_among, take_event, take_other}
use Rattle.cal_events.proofs.shared_lemmas.ZonedLemmas.{weaker_fault}
use Rattle.ical_values.proofs.Exits.{err_exit}
use Rattle.cal_events.proofs.reading.read_events.Goals as goal
use Rattle.cal_events.proofs.reading.read_events.Goals.{then-is_named+in_ok-read_placed+in_ok-push, else-is_named}

pub returns-in_err-read_placed-clause-fault : goal.returns-in_err-read_placed-clause-fault
returns-in_err-read_placed-clause-fault c =
    let object = c.args.object.now in
    let all = component_children object in
    let i = c.loop-component.component-index in
    let x = c.component-item.result in
    let same = c.children-component-items.ensures in
    let within = subst (λ (l : List Component). i < length l) same c.loop-component-test.true in
    let here = subst (λ (l : List Component). x ≡ get_or l i x) same c.component-item.is in
    let m = method_read c.args.method in
    let room = room_of c.args.room.now in
    let P = IsFaultAmong (tree_of object) m (vevents_of object) in
    err_exit _ (RefusesBy P) _ c.from_residual-in_err-read_placed.ensures.1
    (weaker_fault _ (EventComponentFault (tree_of object) m (component_lines x)) P
    (λ n h. (component_lines x, is_among component_lines all i x within here (sym c.if-is_named.ensures), h))
    (subst (λ (t : Tree). RefusesBy (EventComponentFault t m (component_lines x)) c.in_err-read_placed.field-0.0) (ap tree_of c.in_ok-zones.ensures.object) c.in_err-read_placed.ensures.fault))

pub returns-in_err-read_placed-clause-at : goal.returns-in_err-read_placed-clause-at
returns-in_err-read_placed-clause-at c =
    let object = c.args.object.now in
    let all = component_children object in
    let x = c.component-item.result in
    let same = c.children-component-items.ensures in
    let within = subst (λ (l : List Component). c.loop-component.component-index < length l) same c.loop-component-test.true in
    let here = subst (λ (l : List Component). x ≡ get_or l c.loop-component.component-index x) same c.component-item.is in
    let m = method_read c.args.method in
    err_exit _ (RefusesWhere (EventsBlame m (zones_in object) (tree.events_in object))) _ c.from_residual-in_err-read_placed.ensures.1
    (event_blamed m (zones_of c.in_ok-zones.zones) (zones_in object) (numbered_of x) (tree.events_in object) _ (ap zones_in c.in_ok-zones.ensures.object)
    (is_among numbered_of all c.loop-component.component-index x within here (sym c.if-is_named.ensures)) c.in_err-read_placed.ensures.at)

pub loop-component-preserved : goal.loop-component-preserved
loop-component-preserved c =
    let object = tree_of c.args.object.now in
    let m = method_read c.args.method in
    let room = room_of c.args.room.now in
    let all = component_children c.args.object.now in
    let i = c.loop-component.component-index in
    let x = c.component-item.result in
    let same = c.children-component-items.ensures in
    let within = subst (λ (l : List Component). i < length l) same c.loop-component-test.true in
    let here = subst (λ (l : List Component). x ≡ get_or l i x) same c.component-item.is in
    let new = c.if-is_named.events.items in
    elim c.if-is_named.branch [
      | then-is_named+in_ok-read_placed+in_ok-push w ↦ (
        subst (λ vs. AllZip (SaysPlaced room object m) vs (map component_of new)) (sym (take_event component_lines all i x within here (sym w.if-is_named.ensures)))
            (event_pushed room object m (events_in (take i all)) (component_lines x) c.loop-component.events.items new w.in_ok-read_placed.field-0 c.loop-component.invariant.0
            (subst (λ (t : Tree). SaysPlaced room t m (component_lines x) (component_of w.in_ok-read_placed.field-0)) (ap tree_of c.in_ok-zones.ensures.object) w.in_ok-read_placed.ensures.says)
            (ap (λ v. v.items) w.events-is ∙ w.in_ok-push.ensures.items)),
        begun_pushed (events_by numbered_of (take i all)) (numbered_of x) c.loop-component.events.items new w.in_ok-read_placed.field-0 c.loop-component.invariant.1
            w.in_ok-read_placed.ensures.begun (ap (λ v. v.items) w.events-is ∙ w.in_ok-push.ensures.items)
            ∙ ap (map (λ event. event.begun)) (sym (take_event numbered_of all i x within here (sym w.if-is_named.ensures))),
      )
      | else-is_named w ↦ (
        subst (λ vs. AllZip (SaysPlaced room object m) vs (map component_of new)) (sym (take_other component_lines all i x within here (sym w.if-is_named.ensures)))
            (subst (λ es. AllZip (SaysPlaced room object m) (events_in (take i all)) (map component_of es)) (sym (ap (λ v. v.items) w.events-is)) c.loop-component.invariant.0),
        ap (λ v. map (λ event. event.begun) v.items) w.events-is ∙ c.loop-component.invariant.1
            ∙ ap (map (λ event. event.begun)) (sym (take_other numbered_of all i x within here (sym w.if-is_named.ensures))),
      )
    ]

pub returns-clause-begun : goal.returns-clause-begun
returns-clause-begun c =
    let all = component_children c.args.object.now in
    let same = c.children-component-items.ensures in
    let end : length all ≤ c.loop-component.component-index = grind (arith, c.loop-component-test.false, same) in
    c.loop-component.invariant.1 ∙ ap (λ cs. map (λ event. event.begun) (events_by numbered_of cs)) (take_all c.loop-component.component-index all end)
