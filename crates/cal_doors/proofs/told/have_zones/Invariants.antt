use Rattle.std.proofs.Common.{ℕ, List, drop}
use Rattle.std.specs.Prelude.{All}
use Rattle.ical_tree.specs.Tree.{tree_of}
use Rattle.profile.specs.doors.Uses.{IsLineIn}
use Rattle.cal_doors.specs.Told.{events_among, HasItsZone}
use Rattle.cal_doors.proofs.told.have_zones.Given as goal

-- if those that are left name such zones, all do
abbrev pub invariant-loop-component : goal.invariant-loop-component
invariant-loop-component l =
    let P : List (List ℕ) → Type 0 = λ lines. ((name line : List ℕ) → IsLineIn name lines line
    → HasItsZone (tree_of l.fn.zones.object.now) (tree_of l.fn.asked.object.now) (tree_of l.fn.read.object.now) name) in
    All P (events_among (drop l.component-index l.components)) → All P (events_among l.fn.components)
