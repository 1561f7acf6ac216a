use Rattle.std.proofs.Common.{◌≡◌, take, List}
use Rattle.room_books.specs.Gone.{Sheds}
use Rattle.itip_order.specs.Registers.{RepresentsHistory}
use Rattle.itip_order.specs.Parts.{part_of}
use Rattle.profile.specs.rooms.Revisions.{Part}
use Rattle.room_books.specs.Taking.{left_beside}
use Rattle.room_books.proofs.change.Views.left_beside.Given as goal

abbrev pub invariant-loop-single : goal.invariant-loop-single
invariant-loop-single l =
    ((history : List Part) → RepresentsHistory l.self.after.now history → l.left.items ≡ left_beside l.self.slots.now history (part_of l.part) (take l.single-index l.singles))
    × Sheds (take l.single-index l.singles) l.left.items l.fn.gone.items l.gone.items
