use Rattle.std.proofs.Common.{take}
use Rattle.ical_tree.specs.Tree.{component_children}
use Rattle.cal_doors.specs.Named.{AreNamedAmong}
use Rattle.cal_doors.proofs.named.NamedZones.of.Given as goal

-- the VTIMEZONEs so far are there
abbrev pub invariant-loop-child : goal.invariant-loop-child
invariant-loop-child l = AreNamedAmong (take l.child-index (component_children l.object)) l.by_name.entries
