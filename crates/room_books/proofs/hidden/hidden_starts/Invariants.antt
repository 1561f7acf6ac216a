use Rattle.std.proofs.Common.{List, take}
use Rattle.itip_order.specs.Parts.{part_of}
use Rattle.itip_order.specs.Registers.{RepresentsHistory}
use Rattle.profile.specs.rooms.Revisions.{Part}
use Rattle.room_books.specs.Taking.{AreHiddenStarts}
use Rattle.room_books.proofs.hidden.hidden_starts.Given as goal

abbrev pub invariant-loop-slot : goal.invariant-loop-slot
invariant-loop-slot l = (history : List Part) → RepresentsHistory l.held history → AreHiddenStarts (take l.slot-index l.slots) history (part_of l.part) l.starts.items
