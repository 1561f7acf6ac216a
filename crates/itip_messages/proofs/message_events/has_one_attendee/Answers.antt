use Rattle.std.proofs.Common.{◌∙◌, sym}
use Rattle.itip_messages.proofs.message_events_lemmas.EventsRead.{first_and_others}
use Rattle.itip_messages.proofs.message_events.has_one_attendee.Goals as goal

pub returns-in-Some : goal.returns-in-Some
returns-in-Some c =
    c.are_all.ensures ∙ sym (first_and_others c.args.event.now.attendees.items c.in-Some.first.now c.in-Some.others.now (sym c.deref.ensures.value ∙ c.in-Some.ensures.cases.0))
