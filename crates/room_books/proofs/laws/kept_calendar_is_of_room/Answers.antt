-- What is kept reads back, line by line and zone by zone; and octets say one calendar.
use Rattle.profile.specs.checker.Naming.{IsOfRoom}
use Rattle.room_books.proofs.laws_lemmas.KeptCalendars.{kept_there_for, never_others}
use Rattle.room_books.proofs.laws.kept_calendar_is_of_room.Goals as goal

pub returns-clause-is : goal.returns-clause-is
returns-clause-is c = kept_there_for c.lines_read_back.ensures.lines c.lines_read_back.ensures.reads c.zone_reads_back.ensures

pub returns-clause-not_others : goal.returns-clause-not_others
returns-clause-not_others c = λ room words zone book calendar named reached kept.
    never_others c.one_tree.ensures.one c.one_event.ensures.one room calendar 0
    (kept_there_for c.lines_read_back.ensures.lines c.lines_read_back.ensures.reads c.zone_reads_back.ensures room words zone book calendar named reached kept)

pub returns-clause-reads : goal.returns-clause-reads
returns-clause-reads c = λ room words zone book calendar named reached kept n.
    let is = kept_there_for c.lines_read_back.ensures.lines c.lines_read_back.ensures.reads c.zone_reads_back.ensures room words zone book calendar named reached kept in
    c.one_calendar_text.ensures.or_a_fault room calendar is.confirmed n is.spelled
