use Rattle.std.proofs.Common.{take}
use Rattle.ical_tree.specs.Tree.{component_children}
use Rattle.cal_doors.specs.Used.{AreUsesOf}
use Rattle.cal_doors.proofs.UsesEvents.{lines_of_events}
use Rattle.cal_doors.proofs.uses.uses_of.Given as goal

-- the VEVENTs so far are added
abbrev pub invariant-loop-child : goal.invariant-loop-child
invariant-loop-child l = AreUsesOf (lines_of_events (take l.child-index (component_children l.object))) l.uses.entries
