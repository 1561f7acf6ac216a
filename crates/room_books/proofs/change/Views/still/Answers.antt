use Rattle.std.proofs.Common.{◌∙◌, sym, inr}
use Rattle.itip_order.specs.Parts.{part_of}
use Rattle.room_books.proofs.change.Views.still.Goals as goal

pub returns-then-not-shows-clause-still : goal.returns-then-not-shows-clause-still
returns-then-not-shows-clause-still c = inr (part_of c.in-Some.own.now, c.in-Some.ensures.found, λ history s. sym (c.shows.ensures history s) ∙ c.if-not-shows.true)
