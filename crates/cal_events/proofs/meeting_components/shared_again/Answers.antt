use Rattle.std.proofs.Common.{◌-◌, arith, subst}
use Rattle.cal_events.specs.Begins.{begins_of, IsLater}
use Rattle.cal_events.specs.Component.{method_read}
use Rattle.cal_events.specs.declared.component.EventComponent.{EventComponent}
use Rattle.cal_events.proofs.meeting_components_lemmas.SlotLemmas.{named_before, two_shared}
use Rattle.cal_events.proofs.shared_lemmas.LaterLemmas.{later_at}
use Rattle.cal_events.proofs.meeting_components.shared_again.Goals as goal

pub loop-apart-init : goal.loop-apart-init
loop-apart-init c = (omega arith, two_shared (method_read c.args.method) c.args.components.now c.requires.shared, omega arith)

pub share_slot-requires : goal.share_slot-requires
share_slot-requires c = record {
  named = named_before c.args.components.now _ c.requires.named;
}

pub returns : goal.returns
returns c =
    let all = c.args.components.now in
    let x = c.index-components-shared.result in
    subst (λ (e : EventComponent). IsLater (begins_of all) e.begun) c.index-components-shared.is
    (later_at all (c.loop-apart.shared - 1) x (omega (arith, c.loop-apart.invariant.1, c.loop-apart.invariant.2)) c.index-components-shared.is
    (omega (arith, c.loop-apart.invariant.0, c.loop-apart.invariant.1)))
