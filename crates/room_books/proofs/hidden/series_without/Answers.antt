use Rattle.std.proofs.Common.{Option, Some, sym, subst}
use Rattle.itip_order.specs.Parts.{part_of}
use Rattle.cal_events.specs.declared.series.Series.{Series}
use Rattle.room_books.specs.Taking.{is_hidden_by, IsSeriesLeft}
use Rattle.room_books.proofs.hidden.series_without.Goals as goal

pub returns-clause-left : goal.returns-clause-left
returns-clause-left c = λ history represented.
    subst (λ (o : Option Series). IsSeriesLeft (is_hidden_by c.args.slots.now history (part_of c.args.part.now)) o (Some c.in_ok-left.left)) (sym c.in-Some.is) (c.in_ok-left.ensures.left history represented)
