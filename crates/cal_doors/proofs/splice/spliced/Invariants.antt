use Rattle.std.proofs.Common.{length}
use Rattle.ical_lines.specs.Unfold.{lines_after}
use Rattle.cal_doors.proofs.splice.spliced.Given as goal

abbrev pub decreases-loop-left : goal.decreases-loop-left
decreases-loop-left l = length (lines_after l.left)
