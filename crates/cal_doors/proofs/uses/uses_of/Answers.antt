use Rattle.std.proofs.Common.{◌∙◌, [], sym, subst}
use Rattle.ical_tree.specs.Tree.{component_children}
use Rattle.cal_doors.specs.Used.{AreUsesOf}
use Rattle.cal_doors.proofs.UsesTables.{no_events}
use Rattle.cal_doors.proofs.UsesEvents.{event_there, other_there, all_there}
use Rattle.cal_doors.proofs.uses.uses_of.Goals as goal

pub loop-child-init : goal.loop-child-init
loop-child-init c = subst (AreUsesOf []) (sym c.new-uses.ensures.empty) no_events

pub loop-child-preserved-then-not-is_named : goal.loop-child-preserved-then-not-is_named
loop-child-preserved-then-not-is_named c =
    subst (λ es. AreUsesOf es c.loop-child.uses.entries)
    (sym (other_there c.children-child-items.result.now (component_children c.args.object.now) c.loop-child.child-index c.child-item.result c.children-child-items.ensures c.loop-child-test.true c.child-item.is (sym c.is_named.ensures ∙ c.if-not-is_named.true)))
    c.loop-child.invariant

pub loop-child-preserved : goal.loop-child-preserved
loop-child-preserved c =
    subst (λ es. AreUsesOf es c.add_event.new.uses.entries)
    (sym (event_there c.children-child-items.result.now (component_children c.args.object.now) c.loop-child.child-index c.child-item.result c.children-child-items.ensures c.loop-child-test.true c.child-item.is (sym c.is_named.ensures ∙ c.if-not-is_named.false)))
    (c.in_ok-add_event.ensures c.if-not-branch.false _ c.loop-child.invariant)

pub returns : goal.returns
returns c =
    subst (λ es. AreUsesOf es c.loop-child.uses.entries)
    (all_there c.children-child-items.result.now c.args.object.now c.loop-child.child-index c.children-child-items.ensures c.loop-child-test.false)
    c.loop-child.invariant
