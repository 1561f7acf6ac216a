use Rattle.std.proofs.Common.{length}
use Rattle.ical_lines.specs.Unfold.{lines_after}
use Rattle.ical_lines.proofs.FirstLineLemmas.{IsBefore}
use Rattle.ical_lines.proofs.first_line.first_line_end.Given as goal

abbrev pub invariant-loop-left : goal.invariant-loop-left
invariant-loop-left l = IsBefore l.fn.octets l.filled l.left

abbrev pub decreases-loop-left : goal.decreases-loop-left
decreases-loop-left l = length (lines_after l.left)
