use Rattle.ical_tree.specs.Tree.{tree_of}
use Rattle.cal_doors.specs.Adapted.{listed_of}
use Rattle.cal_doors.proofs.ChangesMade.{Sofar}
use Rattle.cal_doors.proofs.changes.changes_of.Given as goal

-- the changes so far, and the uses that are left
abbrev pub invariant-loop-name : goal.invariant-loop-name
invariant-loop-name l = Sofar (listed_of l.fn.listed) (tree_of l.fn.zones.object.now) l.fn.uses.entries l.name-iterator l.changes.entries
