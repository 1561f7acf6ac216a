use Rattle.itip_messages.proofs.message_events_lemmas.Blamed.{begun_among}
use Rattle.itip_messages.proofs.message_events.first_without_one.Goals as goal

pub returns-then-not-has_one_attendee-clause-at : goal.returns-then-not-has_one_attendee-clause-at
returns-then-not-has_one_attendee-clause-at c = begun_among c.args.events.now c.loop-event.event-index c.event-item.result c.loop-event-test.true c.event-item.is
