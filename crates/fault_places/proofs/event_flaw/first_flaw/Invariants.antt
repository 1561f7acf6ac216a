use Rattle.std.proofs.Common.{drop}
use Rattle.ical_tree.specs.Tree.{component_children}
use Rattle.cal_events.specs.Component.{method_said}
use Rattle.fault_places.specs.EventFlaws.{AreFree}
use Rattle.fault_places.proofs.event_flaw.first_flaw.Given as goal

-- where the VEVENTs that are left have no flaw, none has
abbrev pub invariant-loop-event : goal.invariant-loop-event
invariant-loop-event l =
    AreFree (method_said l.method) l.number (drop l.event-index (component_children l.object)) → AreFree (method_said l.method) l.number (component_children l.object)
