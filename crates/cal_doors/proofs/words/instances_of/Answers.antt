use Rattle.std.proofs.Common.{◌≡◌, sym, subst, true}
use Rattle.std.specs.Prelude.{Contains}
use Rattle.ical_tree.specs.Tree.{tree_of, component_lines}
use Rattle.profile.specs.text.Trees.{vevents}
use Rattle.cal_doors.specs.Told.{is_event}
use Rattle.cal_doors.proofs.ToldWords.{event_of}
use Rattle.cal_doors.proofs.words.instances_of.Goals as goal

pub loop-child-preserved : goal.loop-child-preserved
loop-child-preserved c = λ zones.
    let object = c.args.object.now in
    let child = c.child-item.result in
    c.in_ok-add_instances.ensures (tree_of object) zones
    (λ is. subst (λ x. Contains (vevents (tree_of object)) (component_lines x)) (sym c.child-item.is)
    (event_of object c.children-child-items.result.now c.loop-child.child-index child c.children-child-items.ensures c.loop-child-test.true (subst (λ x. is_event x ≡ true) c.child-item.is is)))
    (c.loop-child.invariant zones)
