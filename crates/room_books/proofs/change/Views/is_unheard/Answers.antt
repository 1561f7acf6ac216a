use Rattle.std.proofs.Common.{◌∙◌, Bool, ◌&&◌, sym, ap, ap₂}
use Rattle.itip_order.specs.Parts.{part_of}
use Rattle.profile.specs.rooms.Rooms.{lacks_whole}
use Rattle.room_books.proofs.change.Views.is_unheard.Goals as goal

pub returns-then-is_fresh : goal.returns-then-is_fresh
returns-then-is_fresh c = λ before after b a. ap₂ (λ (x y : Bool). x && y) (sym c.if-is_fresh.true ∙ c.is_fresh.ensures before after b a) (c.lacks_whole.ensures after a)

pub returns-else-is_fresh : goal.returns-else-is_fresh
returns-else-is_fresh c = λ before after b a. c.if-is_fresh.false ∙ ap (λ (x : Bool). x && lacks_whole after (part_of c.args.part.now)) (sym c.if-is_fresh.false ∙ c.is_fresh.ensures before after b a)
