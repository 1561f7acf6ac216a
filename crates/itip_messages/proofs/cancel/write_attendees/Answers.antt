-- One more address.
use Rattle.std.proofs.Common.{◌∙◌, ◌++◌, codes, ap, arith}
use Rattle.profile.specs.text.Lines.{folded}
use Rattle.itip_messages.proofs.cancel_lemmas.CancelLines.{attendee_more}
use Rattle.itip_messages.proofs.cancel.write_attendees.Goals as goal

pub loop-address-preserved : goal.loop-address-preserved
loop-address-preserved c =
    attendee_more c.args.addresses.now c.loop-address.address-index c.address-item.result c.args.object.now c.loop-address.object c.named.new.self (omega arith) c.address-item.is c.loop-address.invariant
    (c.in_ok-named.ensures.ok ∙ ap (λ l. c.loop-address.object ++ folded (codes "ATTENDEE:" ++ l)) c.as_str.ensures)
