use Rattle.std.proofs.Common.{ℤ, List, subst}
use Rattle.itip_order.specs.Parts.{part_of}
use Rattle.cal_events.specs.Series.{series_said, IsSeriesWithout}
use Rattle.room_books.proofs.shared_lemmas.Fewer.{fewer_one}
use Rattle.room_books.proofs.hidden_lemmas.HiddenStarts.{series_without}
use Rattle.room_books.proofs.hidden.without_hidden.Goals as goal

pub returns-clause-left : goal.returns-clause-left
returns-clause-left c = λ history represented.
    let series = c.args.series.now in let left = c.in_ok-left.left in
    series_without c.args.slots.now history (part_of c.args.part.now) series left c.in_ok-starts.starts.items (c.known_by_start.ensures series) (c.in_ok-starts.ensures history represented)
    (subst (λ (l : List ℤ). IsSeriesWithout (series_said series) l (series_said left)) c.deref.ensures.value c.in_ok-left.ensures)

pub returns-clause-fewer : goal.returns-clause-fewer
returns-clause-fewer c = fewer_one c.args.series.now c.in_ok-left.left c.deref.result.now c.in_ok-left.ensures
