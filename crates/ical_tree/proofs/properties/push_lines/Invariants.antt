use Rattle.std.proofs.Common.{◌≡◌, ◌++◌, length, map}
use Rattle.ical_lines.specs.Text.{line_text, numbered}
use Rattle.ical_tree.specs.Runs.{run_lines, run_numbered}
use Rattle.ical_tree.proofs.properties.push_lines.Given as goal

-- the lines so far, and those that are left of the run, are all
abbrev pub invariant-loop-line : goal.invariant-loop-line
invariant-loop-line l = record {
  lines : map line_text l.fn.lines.items ++ run_lines l.fn.run ≡ map line_text l.lines.items ++ run_lines l.left;
  numbered : map numbered l.fn.lines.items ++ run_numbered l.fn.run ≡ map numbered l.lines.items ++ run_numbered l.left;
}

abbrev pub decreases-loop-line : goal.decreases-loop-line
decreases-loop-line l = length (run_lines l.left)
