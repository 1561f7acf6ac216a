-- The texts of a store that was read can be in lines.
use Rattle.itip_messages.proofs.sent_law_lemmas.StoredEvents.{stored_attendee, stored_name}
use Rattle.itip_messages.proofs.sent_law.stored_texts_can_be_sent.Goals as goal

pub returns-clause-name : goal.returns-clause-name
returns-clause-name c = stored_name

pub returns-clause-attendees : goal.returns-clause-attendees
returns-clause-attendees c = stored_attendee
