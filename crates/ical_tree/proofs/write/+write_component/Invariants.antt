use Rattle.std.proofs.Common.{◌≡◌, ◌++◌, take, length}
use Rattle.std.specs.List.{flat_map}
use Rattle.profile.specs.text.Lines.{folded}
use Rattle.ical_tree.specs.Tree.{written_lines}
use Rattle.ical_tree.proofs.WriteLemmas.{start_of}
use Rattle.ical_tree.proofs.write.+write_component.Given as goal

abbrev pub invariant-loop-child : goal.invariant-loop-child
invariant-loop-child l = record {
  keeps : take (length l.fn.out.items) l.out.items ≡ l.fn.out.items;
  written : l.out.items ≡ start_of l.component l.fn.out.items ++ flat_map folded (flat_map written_lines (take l.child-index l.child-items));
}
