use Rattle.std.proofs.Common.{[], sym, subst}
use Rattle.std.proofs.Math.Logic.{∥∥₁_map}
use Rattle.profile.specs.events.EventComponents.{EventComponent as SaidComponent}
use Rattle.cal_events.specs.Component.{component_of}
use Rattle.cal_events.specs.Said.{IsWritten}
use Rattle.cal_events.proofs.shared_lemmas.InRooms.{written_others}
use Rattle.itip_messages.proofs.message_component.MessageComponent.of.Goals as goal

pub instances_for-requires-clause-written : goal.instances_for-requires-clause-written
instances_for-requires-clause-written c =
    subst (λ (x : SaidComponent). ∥ IsWritten x ∥₁) (sym c.in_ok-event.ensures.event) (∥∥₁_map c.requires.written (written_others (component_of c.args.event) [] []))
