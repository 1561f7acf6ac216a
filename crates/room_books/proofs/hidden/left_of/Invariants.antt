use Rattle.std.proofs.Common.{◌≡◌, take, List}
use Rattle.room_books.specs.Gone.{IsPartOf}
use Rattle.itip_order.specs.Registers.{RepresentsHistory}
use Rattle.itip_order.specs.Parts.{part_of}
use Rattle.profile.specs.rooms.Revisions.{Part}
use Rattle.room_books.specs.Taking.{left_in}
use Rattle.room_books.proofs.hidden.left_of.Given as goal

abbrev pub invariant-loop-single : goal.invariant-loop-single
invariant-loop-single l =
    ((history : List Part) → RepresentsHistory l.held history → l.left.items ≡ left_in history (part_of l.part) (take l.single-index l.singles))
    × IsPartOf l.left.items (take l.single-index l.singles)
