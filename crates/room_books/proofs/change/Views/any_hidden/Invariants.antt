use Rattle.std.proofs.Common.{◌≡◌, List, take}
use Rattle.itip_order.specs.Parts.{part_of}
use Rattle.itip_order.specs.Registers.{RepresentsHistory}
use Rattle.profile.specs.rooms.Revisions.{Part}
use Rattle.room_books.specs.Taking.{left_beside}
use Rattle.room_books.proofs.change.Views.any_hidden.Given as goal

abbrev pub invariant-loop-single : goal.invariant-loop-single
invariant-loop-single l = (history : List Part) → RepresentsHistory l.self.after.now history → take l.single-index l.singles ≡ left_beside l.self.slots.now history (part_of l.part) (take l.single-index l.singles)
