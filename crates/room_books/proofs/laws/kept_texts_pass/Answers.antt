-- What is kept reads back, line by line and zone by zone.
use Rattle.room_books.proofs.laws_lemmas.KeptCalendars.{kept_passes}
use Rattle.room_books.proofs.laws.kept_texts_pass.Goals as goal

pub returns : goal.returns
returns c = kept_passes c.lines_read_back.ensures.lines c.lines_read_back.ensures.reads c.zone_reads_back.ensures c.one_calendar_text.ensures.one
