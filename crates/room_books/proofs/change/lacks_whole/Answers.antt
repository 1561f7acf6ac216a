use Rattle.std.proofs.Common.{sym}
use Rattle.itip_order.specs.Parts.{part_of}
use Rattle.room_books.proofs.change_lemmas.Wholes.{whole_lacking}
use Rattle.room_books.proofs.change.lacks_whole.Goals as goal

pub returns : goal.returns
returns c = λ history s. whole_lacking history (part_of c.args.part.now) c.args.held.now s c.part_in.result c.part_in.ensures.found c.part_in.ensures.none c.is_none.result (sym c.is_none.ensures)
