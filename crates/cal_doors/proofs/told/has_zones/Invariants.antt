use Rattle.std.proofs.Common.{ℕ, List}
use Rattle.ical_tree.specs.Runs.{lines_left}
use Rattle.ical_tree.specs.Tree.{tree_of}
use Rattle.profile.specs.doors.Uses.{IsLineIn}
use Rattle.cal_doors.specs.Told.{HasItsZone}
use Rattle.cal_doors.proofs.told.has_zones.Given as goal

-- if those that are left name such zones, all do
abbrev pub invariant-loop-line : goal.invariant-loop-line
invariant-loop-line l =
    ((name line : List ℕ) → IsLineIn name (lines_left l.line-iterator) line
    → HasItsZone (tree_of l.fn.zones.object.now) (tree_of l.fn.asked.object.now) (tree_of l.fn.read.object.now) name)
    → (name line : List ℕ) → IsLineIn name (lines_left l.fn.lines) line
    → HasItsZone (tree_of l.fn.zones.object.now) (tree_of l.fn.asked.object.now) (tree_of l.fn.read.object.now) name
