use Rattle.std.proofs.Common.{◌≡◌, map, drop}
use Rattle.ical_tree.specs.Tree.{component_children, tree_of}
use Rattle.ical_tree.proofs.component.Component.+is_same.Given as goal

-- if what is left is the same, all is
abbrev pub invariant-loop-child : goal.invariant-loop-child
invariant-loop-child l = map tree_of (drop l.child-index l.child-items) ≡ map tree_of l.left → map tree_of l.child-items ≡ map tree_of (component_children l.fn.other)
