use Rattle.std.proofs.Common.{List, Option, Some, sym, subst}
use Rattle.itip_order.specs.declared.part.Slot.{Slot as OwnSlot}
use Rattle.itip_order.specs.Parts.{part_of}
use Rattle.profile.specs.rooms.Rooms.{is_hidden}
use Rattle.cal_events.specs.declared.series.Series.{Series}
use Rattle.room_books.specs.Taking.{is_hidden_by, IsSeriesLeft}
use Rattle.room_books.proofs.hidden_lemmas.HiddenStarts.{hidden_held, left_same}
use Rattle.room_books.proofs.hidden.series_left.Goals as goal

pub returns-clause-left : goal.returns-clause-left
returns-clause-left c = λ history represented.
    let part = part_of c.args.part.now in
    let slots = c.in_ok-slots.slots.items in
    let left = c.in_ok-left.left in
    let of = subst (λ (l : List OwnSlot). IsSeriesLeft (is_hidden_by l history part) (Some c.in-Some.series) (Some left)) c.deref.ensures.value (c.in_ok-left.ensures.left history represented) in
    subst (λ (o : Option Series). IsSeriesLeft (is_hidden history part) o (Some left)) (sym c.in-Some.is)
    (left_same (is_hidden_by slots history part) (is_hidden history part) (Some c.in-Some.series) (Some left) (hidden_held c.args.held.now history represented slots c.in_ok-slots.ensures part) of)
