use Rattle.std.proofs.Common.{◌≡◌, ◌<◌, ◌∙◌, sym, length, get_or, rules}
use Rattle.ical_tree.specs.Tree.{component_children}
use Rattle.cal_events.specs.Component.{method_said}
use Rattle.fault_places.proofs.FlawLemmas.{free_further, free_past}
use Rattle.fault_places.proofs.event_flaw.first_flaw.Goals as goal
use Rattle.fault_places.proofs.event_flaw.first_flaw.Goals.{then-is_named+in_default, else-is_named}

pub loop-event-preserved : goal.loop-event-preserved
loop-event-preserved c =
    let method = method_said c.method_of-method.result in
    let children = component_children c.args.object.now in
    let event = c.event-item.result in
    let within : c.loop-event.event-index < length children = search rules in
    let here : event ≡ get_or children c.loop-event.event-index event = search rules in
    elim c.if-is_named.branch [
      | then-is_named+in_default w ↦ free_further method c.args.number children c.loop-event.event-index event within here w.in_default.ensures.none c.loop-event.invariant
      | else-is_named w ↦ free_past method c.args.number children c.loop-event.event-index event within here (sym c.is_named.ensures ∙ w.if-is_named.false) c.loop-event.invariant
    ]
