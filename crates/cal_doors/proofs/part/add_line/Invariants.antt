use Rattle.std.proofs.Common.{ℕ, List}
use Rattle.ical_lines.specs.Text.{line_text}
use Rattle.cal_rules.proofs.Cuts.{Leaves}
use Rattle.cal_doors.specs.Runs.{runs_in}
use Rattle.cal_doors.proofs.PartSays.{TextsAdded}
use Rattle.cal_doors.proofs.part.add_line.Given as goal

-- the runs of the texts so far were added, and the others are left
abbrev pub invariant-loop-text : goal.invariant-loop-text
invariant-loop-text l =
    (left : List (List ℕ)) × Leaves l.text-iterator left
    × TextsAdded l.fn.times.from l.fn.times.to (line_text l.fn.line) left (runs_in l.fn.runs.items) (runs_in l.runs.items)
