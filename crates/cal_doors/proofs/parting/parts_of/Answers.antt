use Rattle.std.proofs.Common.{◌≡◌, ◌∙◌, refl, sym, subst, ◌+◌, drop}
use Rattle.std.proofs.lemmas.List.{drop_all}
use Rattle.std.specs.Prelude.{[]}
use Rattle.ical_tree.specs.Tree.{component_children, tree_of}
use Rattle.cal_doors.specs.Told.{trees_among, IsSingleOf}
use Rattle.cal_doors.proofs.RightGiven.{of_some}
use Rattle.cal_doors.proofs.ToldEvents.{none_made, one_made, other_made, all_made, child_at}
use Rattle.cal_doors.proofs.parting.parts_of.Goals as goal

pub loop-child-init : goal.loop-child-init
loop-child-init c =
    none_made (IsSingleOf (tree_of c.args.whole.now)) (trees_among (component_children c.args.whole.now)) (component_children c.args.whole.now) c.new-parts.result.items
    c.new-parts.ensures.items refl

pub loop-child-preserved-then-not-is_named : goal.loop-child-preserved-then-not-is_named
loop-child-preserved-then-not-is_named c =
    let all = component_children c.args.whole.now in
    let i = c.loop-child.child-index in
    let child = c.child-item.result in
    other_made (IsSingleOf (tree_of c.args.whole.now)) (trees_among all) (drop i all) (drop (i + 1) all) child c.loop-child.parts.items
    (child_at c.children-child-items.result.now all i child c.children-child-items.ensures c.loop-child-test.true c.child-item.is)
    (sym c.is_named.ensures ∙ c.if-not-is_named.true) c.loop-child.invariant

pub loop-child-preserved : goal.loop-child-preserved
loop-child-preserved c =
    let all = component_children c.args.whole.now in
    let i = c.loop-child.child-index in
    let child = c.child-item.result in
    one_made (IsSingleOf (tree_of c.args.whole.now)) (trees_among all) (drop i all) (drop (i + 1) all) child c.loop-child.parts.items c.push.new.self.items c.in-Some.part
    (child_at c.children-child-items.result.now all i child c.children-child-items.ensures c.loop-child-test.true c.child-item.is)
    (sym c.is_named.ensures ∙ c.if-not-is_named.false) c.in_ok-push.ensures.items
    (of_some _ c.in-Some.part (λ p. IsSingleOf (tree_of c.args.whole.now) (tree_of child) p.items) c.in-Some.is c.in_ok-part.ensures) c.loop-child.invariant

pub returns : goal.returns
returns c =
    let all = component_children c.args.whole.now in
    let i = c.loop-child.child-index in
    all_made (IsSingleOf (tree_of c.args.whole.now)) (trees_among all) (drop i all) c.loop-child.parts.items
    (subst (λ l. drop i l ≡ []) c.children-child-items.ensures (drop_all i c.children-child-items.result.now c.loop-child-test.false)) c.loop-child.invariant
