-- A CANCEL that was written reads back as one message, and says the same to each attendee.
use Rattle.itip_messages.proofs.sent_law_lemmas.CancelReads.{cancel_spells, cancel_tells, cancel_others}
use Rattle.itip_messages.proofs.sent_law.cancels_read_back.Goals as goal

pub returns-clause-spells : goal.returns-clause-spells
returns-clause-spells c = cancel_spells c.lines_read_back.ensures.lines c.lines_read_back.ensures.reads

pub returns-clause-tells : goal.returns-clause-tells
returns-clause-tells c = cancel_tells

pub returns-clause-others : goal.returns-clause-others
returns-clause-others c = cancel_others
