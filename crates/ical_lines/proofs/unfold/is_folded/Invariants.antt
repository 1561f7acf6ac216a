use Rattle.std.proofs.Common.{◌≡◌, length, drop}
use Rattle.std.specs.List.{list_any}
use Rattle.profile.specs.text.Lines.{physical_lines, is_continuation}
use Rattle.ical_lines.specs.Unfold.{lines_after}
use Rattle.ical_lines.proofs.unfold.is_folded.Given as goal

abbrev pub invariant-loop-left : goal.invariant-loop-left
invariant-loop-left l = list_any is_continuation (lines_after l.left) ≡ list_any is_continuation (drop 1 (physical_lines l.fn.octets))

abbrev pub decreases-loop-left : goal.decreases-loop-left
decreases-loop-left l = length (lines_after l.left)
