-- Each room's book is one that octets asked for.
use Rattle.room_books.proofs.laws_lemmas.KeptCalendars.{keeps_pass}
use Rattle.room_books.proofs.laws_lemmas.KeptStreams.{served_keeps}
use Rattle.room_books.proofs.laws.served_texts_pass.Goals as goal

pub returns : goal.returns
returns c = λ moment hosts first objects after answers refused zones all room has.
    let k = served_keeps moment hosts first objects after answers refused zones all room has in
    keeps_pass c.lines_read_back.ensures.lines c.lines_read_back.ensures.reads c.zone_reads_back.ensures c.one_calendar_text.ensures.one room.address room.words room.zone k.named room.book k.keeps
