use Rattle.std.proofs.Common.{◌≡◌}
use Rattle.std.specs.Prelude.{find}
use Rattle.ical_tree.specs.Runs.{lines_left}
use Rattle.ical_tree.specs.Tree.{component_lines}
use Rattle.profile.specs.events.Properties.{is_of}
use Rattle.cal_zones.proofs.zone_names.first_named.Given as goal

-- the lines that are left decide it
abbrev pub invariant-loop-line : goal.invariant-loop-line
invariant-loop-line l = find (is_of l.name) (component_lines l.component) ≡ find (is_of l.name) (lines_left l.line-iterator)
