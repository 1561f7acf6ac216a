use Rattle.std.proofs.Common.{arith}
use Rattle.cal_events.proofs.meeting_components_lemmas.SlotLemmas.{share_by_instant}
use Rattle.cal_events.proofs.meeting_components.share_instant.Goals as goal

pub returns : goal.returns
returns c =
    let ts = c.loop-component.instants.items in
    let b = c.has_twins.result in
    share_by_instant c.args.components.now c.loop-component.component-index b ts (omega (arith, c.loop-component-test.false)) c.loop-component.invariant
    c.has_twins.ensures
