use Rattle.std.proofs.Common.{◌≡◌, ◌∙◌, ap, sym, arith, length}
use Rattle.std.proofs.lemmas.Bool.Decides.{nat_tests}
use Rattle.std.proofs.lemmas.Bool.{not-false}
use Rattle.std.proofs.lemmas.Slice.Eq.{bytes_eq-Decides}
use Rattle.std.specs.Str.{bytes_eq}
use Rattle.std.specs.Prelude.{map}
use Rattle.std.proofs.lemmas.List.{nil_from_length}
use Rattle.ical_tree.specs.Tree.{tree_of}
use Rattle.ical_tree.proofs.SameTrees.{same_tree, none_left}
use Rattle.ical_tree.proofs.component.Component.+is_same.Goals as goal

pub returns : goal.returns
returns t c = λ same.
    let items = c.children-child-items.result.now in
    let left = c.loop-child.left.now in
    let empty : length left ≡ 0 = grind (arith, nat_tests, same, c.is_empty.ensures) in
    let equal = not-false (bytes_eq c.name.result.now c.name-2.result.now) (sym c.ne.ensures ∙ c.if-ne.false) in
    let named = sym c.name.ensures ∙ (bytes_eq-Decides c.name.result.now c.name-2.result.now).0 equal ∙ c.name-2.ensures in
    let inside = c.loop-child.invariant (none_left items left c.loop-child.child-index c.loop-child-test.false (nil_from_length left empty)) in
    same_tree c.args.self.now c.args.other.now named (c.has_same_lines.ensures c.if-not-has_same_lines.false) (ap (map tree_of) (sym c.children-child-items.ensures) ∙ inside)
