use Rattle.std.proofs.Common.{◌≡◌, ◌∙◌, ◌<◌, ◌≤◌, ap, sym, subst, arith, refl, List, length, get_or}
use Rattle.std.specs.Prelude.{Contains}
use Rattle.std.proofs.lemmas.List.{drop_all}
use Rattle.ical_tree.specs.Tree.{component_lines, component_children}
use Rattle.ical_tree.specs.declared.component.Component.{Component}
use Rattle.profile.specs.series.ZoneTexts.{is_part}
use Rattle.cal_zones.specs.Read.{parts_in}
use Rattle.cal_zones.proofs.PartLemmas.{is_among, drop_other, parts_tree}
use Rattle.cal_doors.proofs.ChangesNamed.{Lines}
use Rattle.cal_doors.proofs.changes.has_part.Goals as goal

pub loop-child-init : goal.loop-child-init
loop-child-init c = refl

pub returns-then-is_part-clause-yes : goal.returns-then-is_part-clause-yes
returns-then-is_part-clause-yes c = λ _ none.
    let all = component_children c.args.zone.now in
    let i = c.loop-child.child-index in
    let x = c.child-item.result in
    let within = subst (λ (l : List Component). i < length l) c.children-child-items.ensures c.loop-child-test.true in
    let here = subst (λ (l : List Component). x ≡ get_or l i x) c.children-child-items.ensures c.child-item.is in
    let there = subst (λ (ps : List Lines). Contains ps (component_lines x)) (sym (parts_tree is_part c.args.zone.now) ∙ none) (is_among is_part all i x within here (sym c.if-is_part.ensures)) in
    absurd (omega (arith, there.1))

pub loop-child-preserved : goal.loop-child-preserved
loop-child-preserved c =
    let all = component_children c.args.zone.now in
    let i = c.loop-child.child-index in
    let x = c.child-item.result in
    let within = subst (λ (l : List Component). i < length l) c.children-child-items.ensures c.loop-child-test.true in
    let here = subst (λ (l : List Component). x ≡ get_or l i x) c.children-child-items.ensures c.child-item.is in
    c.loop-child.invariant ∙ drop_other is_part all i x within here (sym c.if-is_part.ensures)

pub returns-clause-no : goal.returns-clause-no
returns-clause-no c = λ _.
    let all = component_children c.args.zone.now in
    let i = c.loop-child.child-index in
    let done = subst (λ (l : List Component). length l ≤ i) c.children-child-items.ensures c.loop-child-test.false in
    parts_tree is_part c.args.zone.now ∙ c.loop-child.invariant ∙ ap (parts_in is_part) (drop_all i all done)
