-- What an organiser shows reads back, as an event and as a calendar.
use Rattle.itip_messages.proofs.sent_law_lemmas.ShownReads.{shown_reads, shown_calendar}
use Rattle.itip_messages.proofs.sent_law.shown_reads_back.Goals as goal

pub returns-clause-event : goal.returns-clause-event
returns-clause-event c = shown_reads c.lines_read_back.ensures.lines c.lines_read_back.ensures.reads c.zone_reads_back.ensures

pub returns-clause-calendar : goal.returns-clause-calendar
returns-clause-calendar c = shown_calendar c.lines_read_back.ensures.lines c.lines_read_back.ensures.reads c.zone_reads_back.ensures
