use Rattle.std.proofs.Common.{◌∙◌, ◌++◌, codes, ap}
use Rattle.profile.specs.text.Lines.{folded}
use Rattle.itip_messages.proofs.cancel_lemmas.CancelLines.{event_written}
use Rattle.itip_messages.proofs.cancel.write_event.Goals as goal

pub returns : goal.returns
returns c =
    event_written c.args.cancel.now c.args.object.now c.line.new.self c.uid.new.self c.write_revision.new.object c.write_status.new.object c.named.new.self c.write_attendees.new.object c.line-2.new.self
    c.in_ok-line.ensures.ok c.in_ok-uid.ensures.ok c.in_ok-write_revision.ensures c.in_ok-write_status.ensures
    (c.in_ok-named.ensures.ok ∙ ap (λ l. c.write_status.new.object ++ folded (codes "ORGANIZER:" ++ l)) c.as_str.ensures)
    c.in_ok-write_attendees.ensures c.in_ok-line-2.ensures.ok
