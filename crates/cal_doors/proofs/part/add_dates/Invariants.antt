use Rattle.std.proofs.Common.{drop, map}
use Rattle.ical_lines.specs.Text.{line_text}
use Rattle.ical_tree.specs.Own.{own_lines}
use Rattle.cal_doors.specs.Runs.{runs_in}
use Rattle.cal_doors.proofs.PartSays.{LinesAdded}
use Rattle.cal_doors.proofs.part.add_dates.Given as goal

-- the runs of the lines so far were added
abbrev pub invariant-loop-line : goal.invariant-loop-line
invariant-loop-line l =
    LinesAdded l.times.from l.times.to (own_lines l.properties) (map line_text (drop l.line-index l.line-items)) (runs_in l.fn.runs.items) (runs_in l.runs.items)
