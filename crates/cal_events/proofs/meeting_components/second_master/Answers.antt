use Rattle.std.proofs.Common.{ap, not}
use Rattle.cal_events.proofs.meeting_components_lemmas.SlotLemmas.{second_there, some_before}
use Rattle.cal_events.proofs.shared_lemmas.LaterLemmas.{later_at}
use Rattle.cal_events.proofs.meeting_components.second_master.Goals as goal

pub returns-then-masters-eq1-clause-one : goal.returns-then-masters-eq1-clause-one
returns-then-masters-eq1-clause-one c =
    let x = c.component-item.result in
    second_there c.args.components.now c.loop-component.component-index x c.loop-component-test.true c.component-item.is c.loop-component.masters c.loop-component.invariant.0
    c.if-masters-eq1.true (ap not c.if-is_none.ensures)

pub returns-then-masters-eq1-clause-at : goal.returns-then-masters-eq1-clause-at
returns-then-masters-eq1-clause-at c =
    later_at c.args.components.now c.loop-component.component-index c.component-item.result c.loop-component-test.true c.component-item.is
    (some_before c.args.components.now c.loop-component.component-index c.loop-component.masters c.loop-component.invariant.0 c.if-masters-eq1.true)
