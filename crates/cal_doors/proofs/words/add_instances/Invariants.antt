use Rattle.std.proofs.Common.{ℕ, List}
use Rattle.std.specs.Prelude.{Contains}
use Rattle.ical_tree.specs.Runs.{lines_left}
use Rattle.ical_tree.specs.Tree.{component_lines}
use Rattle.profile.specs.text.Trees.{Tree, vevents}
use Rattle.cal_doors.specs.Told.{AreZonesOf, AreAllInstancesOf}
use Rattle.cal_doors.proofs.words.add_instances.Given as goal

-- what is left is among its lines, and the object names the instances so far, if it names those before
abbrev pub invariant-loop-line : goal.invariant-loop-line
invariant-loop-line l =
    ((line : List ℕ) → Contains (lines_left l.line-iterator) line → Contains (component_lines l.fn.component) line)
    × ((object : Tree) → AreZonesOf object l.fn.zones.entries → Contains (vevents object) (component_lines l.fn.component)
    → AreAllInstancesOf object l.fn.instances.items → AreAllInstancesOf object l.instances.items)
