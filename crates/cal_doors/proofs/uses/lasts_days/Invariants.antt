use Rattle.ical_tree.specs.Runs.{lines_left}
use Rattle.ical_tree.specs.Tree.{component_lines}
use Rattle.cal_doors.proofs.UsesScans.{Scanned}
use Rattle.cal_doors.specs.Used.{HasNoDays}
use Rattle.cal_doors.proofs.uses.lasts_days.Given as goal

-- the lines so far say no nominal days
abbrev pub invariant-loop-line : goal.invariant-loop-line
invariant-loop-line l = Scanned HasNoDays (component_lines l.event) (lines_left l.line-iterator)
