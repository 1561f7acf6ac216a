use Rattle.std.proofs.Common.{◌≡◌}
use Rattle.ical_tree.specs.Runs.{lines_left}
use Rattle.ical_tree.proofs.same.are_same_lines.Given as goal

-- if what is left is the same, all is
abbrev pub invariant-loop-line : goal.invariant-loop-line
invariant-loop-line l = lines_left l.line-iterator ≡ lines_left l.other → lines_left l.fn.one ≡ lines_left l.fn.other
