use Rattle.ical_tree.specs.Runs.{lines_left}
use Rattle.ical_tree.specs.Tree.{component_lines}
use Rattle.cal_doors.specs.Used.{LineEndsBy}
use Rattle.cal_doors.proofs.UsesScans.{Scanned}
use Rattle.cal_doors.proofs.uses.event_end.Given as goal

-- the lines so far say nothing later
abbrev pub invariant-loop-line : goal.invariant-loop-line
invariant-loop-line l = Scanned (λ line. LineEndsBy line l.last) (component_lines l.event) (lines_left l.line-iterator)
