use Rattle.std.proofs.Common.{◌≡◌, OnOk, subst, ◌++◌, ◌∷◌, [], codes, ap, ◌∙◌}
use Rattle.std.specs.List.{flat_map}
use Rattle.profile.specs.text.Lines.{folded}
use Rattle.ical_lines.proofs.FoldLemmas.{keeps_on}
use Rattle.ical_tree.specs.Tree.{component_lines}
use Rattle.ical_tree.proofs.WriteLemmas.{keeps_written, keeps_after, child_first, child_more, all_written}
use Rattle.ical_tree.proofs.write.+write_component.Goals as goal

pub loop-child-init : goal.loop-child-init
loop-child-init t c = record {
  keeps = keeps_on c.args.out.now.items c.write_property.new.out.items _ (keeps_after c.args.out.now.items _ _ c.in_ok-write_property.ensures.written) c.in_ok-write_lines.ensures.keeps;
  written = child_first _ _ [] (c.in_ok-write_lines.ensures.written ∙ ap (λ z. z ++ flat_map folded (component_lines c.args.component.now)) (c.in_ok-write_property.ensures.written ∙ ap (λ n. c.args.out.now.items ++ folded (codes "BEGIN" ++ 58 ∷ n)) c.name.ensures));
}

pub loop-child-preserved : goal.loop-child-preserved
loop-child-preserved t c = record {
  keeps = keeps_on c.args.out.now.items c.loop-child.out.items _ c.loop-child.invariant.keeps c.in_ok-write_component.ensures.keeps;
  written = child_more c.loop-child.out.items _ _ c.children-child-items.result.now c.loop-child.child-index c.child-item.result c.loop-child-test.true c.child-item.is c.loop-child.invariant.written c.in_ok-write_component.ensures.written;
}

pub returns : goal.returns
returns t c = record {
  written = all_written c.write_property-2.result c.loop-child.out.items c.write_property-2.new.out.items c.args.out.now.items c.args.component.now c.children-child-items.result.now c.loop-child.child-index c.children-child-items.ensures c.loop-child-test.false c.loop-child.invariant.written (subst (λ n. OnOk c.write_property-2.result (c.write_property-2.new.out.items ≡ c.loop-child.out.items ++ folded (codes "END" ++ 58 ∷ n))) c.name-2.ensures c.write_property-2.ensures.written);
  keeps = keeps_written c.write_property-2.result c.args.out.now.items _ c.write_property-2.new.out.items _ c.loop-child.invariant.keeps c.write_property-2.ensures.written c.write_property-2.ensures.unchanged;
}

pub returns-in_err-write_lines-clause-keeps : goal.returns-in_err-write_lines-clause-keeps
returns-in_err-write_lines-clause-keeps t c =
    keeps_on c.args.out.now.items c.write_property.new.out.items _ (keeps_after c.args.out.now.items _ _ c.in_ok-write_property.ensures.written) c.write_lines.ensures.keeps

pub returns-in_err-write_component-clause-keeps : goal.returns-in_err-write_component-clause-keeps
returns-in_err-write_component-clause-keeps t c = keeps_on c.args.out.now.items c.loop-child.out.items _ c.loop-child.invariant.keeps c.write_component.ensures.keeps
