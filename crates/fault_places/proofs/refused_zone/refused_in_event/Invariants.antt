use Rattle.std.proofs.Common.{ℕ, List}
use Rattle.std.specs.Prelude.{Contains}
use Rattle.ical_tree.specs.Runs.{lines_left}
use Rattle.ical_tree.specs.Tree.{component_lines}
use Rattle.fault_places.proofs.refused_zone.refused_in_event.Given as goal

-- the lines that are left are lines of the VEVENT
abbrev pub invariant-loop-line : goal.invariant-loop-line
invariant-loop-line l = (line : List ℕ) → Contains (lines_left l.line-iterator) line → Contains (component_lines l.event) line
