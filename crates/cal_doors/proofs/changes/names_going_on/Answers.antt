use Rattle.std.proofs.Common.{◌∙◌}
use Rattle.cal_doors.proofs.AdaptWhole.{first_named, step_other, step_named, all_named}
use Rattle.cal_doors.proofs.changes.names_going_on.Goals as goal

pub loop-name-init : goal.loop-name-init
loop-name-init c =
    first_named c.args.changes.now.entries c.into_iter-name-iterator.result c.new-names.result.items c.new-names.ensures.items
    (c.into_iter-name-iterator.ensures.into_iter_gives ∙ c.iter-name-items.ensures.rest)

pub loop-name-preserved-in_ok-push : goal.loop-name-preserved-in_ok-push
loop-name-preserved-in_ok-push c =
    step_named c.args.changes.now.entries c.loop-name.name-iterator c.next.new.self c.in-Some.name.now c.in-Some.choice.now c.in-Some.ensures.steps c.loop-name.names.items c.push.new.self.items
    c.in_ok-from_str.field-0 c.in_ok-push.ensures.items (c.in_ok-from_str.ensures.ok ∙ c.as_str.ensures.value) c.if-choice.true c.loop-name.invariant

pub loop-name-preserved : goal.loop-name-preserved
loop-name-preserved c =
    step_other c.args.changes.now.entries c.loop-name.name-iterator c.next.new.self c.in-Some.name.now c.in-Some.choice.now c.in-Some.ensures.steps c.loop-name.names.items
    c.if-choice.false c.loop-name.invariant

pub returns : goal.returns
returns c =
    all_named c.args.changes.now.entries c.loop-name.name-iterator c.loop-name.names.items c.in-None.ensures.steps.0 c.iter-name-items.ensures.unique c.loop-name.invariant
