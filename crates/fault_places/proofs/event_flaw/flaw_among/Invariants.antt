use Rattle.std.proofs.Common.{drop, map}
use Rattle.ical_tree.specs.Tree.{component_lines}
use Rattle.cal_events.specs.Component.{method_said}
use Rattle.cal_events.specs.Property.{property_said}
use Rattle.fault_places.specs.EventFlaws.{AreRight}
use Rattle.fault_places.proofs.event_flaw.flaw_among.Given as goal

-- where the properties that are left are right, all are
abbrev pub invariant-loop-property : goal.invariant-loop-property
invariant-loop-property l =
    AreRight (method_said l.method) (component_lines l.event) (map property_said (drop l.property-index l.properties))
    → AreRight (method_said l.method) (component_lines l.event) (map property_said l.properties)
