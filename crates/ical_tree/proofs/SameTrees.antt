-- Components with the same name, the same lines and the same components inside are the same tree.
use Rattle.std.proofs.Common.{◌≡◌, ◌∙◌, ap, sym, ℕ, ◌≤◌, length, List, [], map, drop}
use Rattle.std.proofs.lemmas.List.{drop_all}
use Rattle.profile.specs.text.Trees.{Tree, tree}
use Rattle.ical_tree.specs.declared.component.Component.{Component}
use Rattle.ical_tree.specs.declared.component.Component.TheFolds.{fold_out-Component}
use Rattle.ical_tree.specs.Tree.{component_name, component_lines, component_children, trees_of, tree_step, tree_of}

tree_out : (c : Component) → tree_of c ≡ tree (component_name c) (component_lines c) (trees_of (map tree_of (component_children c)))
tree_out c = fold_out-Component Tree tree_step c

pub same_tree : (one other : Component) → component_name one ≡ component_name other → component_lines one ≡ component_lines other
    → map tree_of (component_children one) ≡ map tree_of (component_children other) → tree_of one ≡ tree_of other
same_tree one other name lines inside =
    tree_out one ∙ ap (λ n. tree n (component_lines one) (trees_of (map tree_of (component_children one)))) name
    ∙ ap (λ ls. tree (component_name other) ls (trees_of (map tree_of (component_children one)))) lines
    ∙ ap (λ ts. tree (component_name other) (component_lines other) (trees_of ts)) inside ∙ sym (tree_out other)

-- all of one list were passed, and none of the other is left
pub none_left : (items left : List Component) (i : ℕ) → length items ≤ i → left ≡ [] → map tree_of (drop i items) ≡ map tree_of left
none_left items left i past empty = ap (map tree_of) (drop_all i items past ∙ sym empty)
