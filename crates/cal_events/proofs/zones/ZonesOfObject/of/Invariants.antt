use Rattle.std.proofs.Common.{take}
use Rattle.ical_tree.specs.Tree.{component_children}
use Rattle.cal_events.specs.Zones.{AreZonesAmong}
use Rattle.cal_events.proofs.zones.ZonesOfObject.of.Given as goal

-- the VTIMEZONEs so far are there
abbrev pub invariant-loop-child : goal.invariant-loop-child
invariant-loop-child l = AreZonesAmong (take l.child-index (component_children l.object)) l.by_name.entries
