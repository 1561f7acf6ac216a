-- What is kept reads back, line by line and zone by zone.
use Rattle.profile.specs.streams.Streams.{IsReached}
use Rattle.room_books.proofs.laws_lemmas.KeptCalendars.{kept_same}
use Rattle.room_books.proofs.laws.kept_texts_spell.Goals as goal

pub returns : goal.returns
returns c = λ room words zone deliveries book calendar named delivered runs kept.
    let reached : IsReached room zone book = record { deliveries = deliveries; delivered = delivered; runs = runs } in
    let same = kept_same c.lines_read_back.ensures.lines c.lines_read_back.ensures.reads c.zone_reads_back.ensures room words zone book named reached calendar kept in
    (same.all, same.spells, same.singles, same.series, same.exact)
