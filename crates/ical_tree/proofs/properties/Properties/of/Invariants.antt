use Rattle.std.proofs.Common.{◌≡◌, ◌++◌, drop, map}
use Rattle.std.specs.List.{flat_map}
use Rattle.ical_lines.specs.Text.{line_text, numbered}
use Rattle.ical_tree.specs.Runs.{run_lines, run_numbered}
use Rattle.ical_tree.specs.Tree.{component_lines, component_numbered}
use Rattle.ical_tree.proofs.properties.Properties.of.Given as goal

-- the lines so far, and those of the runs that are left, are all
abbrev pub invariant-loop-run : goal.invariant-loop-run
invariant-loop-run l = record {
  lines : component_lines l.component ≡ map line_text l.lines.items ++ flat_map run_lines (drop l.run-index l.run-items);
  numbered : component_numbered l.component ≡ map numbered l.lines.items ++ flat_map run_numbered (drop l.run-index l.run-items);
}
