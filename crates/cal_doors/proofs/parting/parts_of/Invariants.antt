use Rattle.std.proofs.Common.{drop}
use Rattle.ical_tree.specs.Tree.{component_children, tree_of}
use Rattle.cal_doors.specs.Told.{trees_among, IsSingleOf}
use Rattle.cal_doors.proofs.ToldEvents.{MadeSofar}
use Rattle.cal_doors.proofs.parting.parts_of.Given as goal

-- what comes for those that are left makes it an object for each
abbrev pub invariant-loop-child : goal.invariant-loop-child
invariant-loop-child l =
    MadeSofar (IsSingleOf (tree_of l.whole)) (trees_among (component_children l.whole)) (drop l.child-index (component_children l.whole)) l.parts.items
