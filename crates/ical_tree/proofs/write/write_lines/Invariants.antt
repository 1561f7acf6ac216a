use Rattle.std.proofs.Common.{◌≡◌, ◌++◌, take, length}
use Rattle.std.specs.List.{flat_map}
use Rattle.profile.specs.text.Lines.{folded}
use Rattle.ical_tree.specs.Runs.{lines_left}
use Rattle.ical_tree.specs.Tree.{component_lines}
use Rattle.ical_tree.proofs.write.write_lines.Given as goal

abbrev pub invariant-loop-line : goal.invariant-loop-line
invariant-loop-line l = record {
  can : (goal.iterator-loop-line).can_next l.line-iterator;
  finite : (goal.iterator-loop-line).is_finite l.line-iterator;
  keeps : take (length l.initial.out.items) l.out.items ≡ l.initial.out.items;
  written : l.out.items ++ flat_map folded (lines_left l.line-iterator) ≡ l.initial.out.items ++ flat_map folded (component_lines l.component);
}
