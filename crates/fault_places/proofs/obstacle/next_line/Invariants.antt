use Rattle.std.proofs.Common.{◌≡◌, length}
use Rattle.ical_tree.specs.Runs.{lines_left}
use Rattle.profile.specs.events.Properties.{lines_named}
use Rattle.fault_places.proofs.obstacle.next_line.Given as goal

-- the lines that are left decide it
abbrev pub invariant-loop-line : goal.invariant-loop-line
invariant-loop-line l = lines_named l.name (lines_left l.fn.lines) ≡ lines_named l.name (lines_left l.lines)

abbrev pub decreases-loop-line : goal.decreases-loop-line
decreases-loop-line l = length (lines_left l.lines)
