use Rattle.std.proofs.Common.{◌≡◌, ◌++◌, ℕ, List}
use Rattle.ical_tree.specs.Runs.{lines_left}
use Rattle.ical_tree.specs.Tree.{component_lines}
use Rattle.cal_doors.proofs.UsesTables.{AreAdded}
use Rattle.cal_doors.proofs.uses.add_event.Given as goal

-- the lines so far are added
abbrev pub invariant-loop-line : goal.invariant-loop-line
invariant-loop-line l =
    (done : List (List ℕ)) × (component_lines l.fn.event ≡ done ++ lines_left l.line-iterator) × AreAdded l.whole l.fn.uses.entries done l.uses.entries
