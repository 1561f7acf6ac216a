use Rattle.ical_tree.specs.Tree.{tree_of}
use Rattle.cal_doors.proofs.AdaptWhole.{GivenSofar}
use Rattle.cal_doors.proofs.right.are_given.Given as goal

-- what is used means what it has to, or is left
abbrev pub invariant-loop-name : goal.invariant-loop-name
invariant-loop-name l = GivenSofar (tree_of l.before.object.now) (tree_of l.now.object.now) l.uses.entries l.changes.entries l.name-iterator
