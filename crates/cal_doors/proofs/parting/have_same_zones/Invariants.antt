use Rattle.std.proofs.Common.{◌≡◌, ℕ, List}
use Rattle.ical_tree.specs.Runs.{lines_left}
use Rattle.ical_tree.specs.Tree.{tree_of}
use Rattle.profile.specs.doors.Uses.{IsLineIn}
use Rattle.profile.specs.events.ZonedTimes.{zone_named}
use Rattle.cal_doors.proofs.parting.have_same_zones.Given as goal

-- if those that are left name such zones, all do
abbrev pub invariant-loop-line : goal.invariant-loop-line
invariant-loop-line l =
    ((name line : List ℕ) → IsLineIn name (lines_left l.line-iterator) line → zone_named name (tree_of l.fn.one.object.now) ≡ zone_named name (tree_of l.fn.other.object.now))
    → (name line : List ℕ) → IsLineIn name (lines_left l.fn.lines) line → zone_named name (tree_of l.fn.one.object.now) ≡ zone_named name (tree_of l.fn.other.object.now)
