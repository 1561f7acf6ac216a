use Rattle.std.proofs.Common.{◌≡◌, length}
use Rattle.ical_lines.specs.Text.{lines_left, numbered_left}
use Rattle.ical_tree.specs.Reading.{open_view}
use Rattle.ical_tree.specs.Runs.{lines_after_run}
use Rattle.ical_tree.proofs.RefusalLemmas.{State}
use Rattle.ical_tree.proofs.read.Object.read.Given as goal

abbrev pub invariant-loop-line : goal.invariant-loop-line
invariant-loop-line l = record {
  follows : lines_after_run l.reader.run ≡ numbered_left l.lines;
  state : State (open_view l.reader) l.reader.closed (numbered_left l.lines) l.text;
}

abbrev pub decreases-loop-line : goal.decreases-loop-line
decreases-loop-line l = length (lines_left l.lines)
