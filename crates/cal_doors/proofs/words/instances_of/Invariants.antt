use Rattle.ical_tree.specs.Tree.{tree_of}
use Rattle.cal_doors.specs.Told.{AreZonesOf, AreAllInstancesOf}
use Rattle.cal_doors.proofs.words.instances_of.Given as goal

-- the object names the instances so far
abbrev pub invariant-loop-child : goal.invariant-loop-child
invariant-loop-child l = AreZonesOf (tree_of l.object) l.zones.entries → AreAllInstancesOf (tree_of l.object) l.instances.items
