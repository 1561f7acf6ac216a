use Rattle.std.proofs.Common.{List, take}
use Rattle.std.specs.List.{Contains}
use Rattle.itip_order.specs.Parts.{part_of}
use Rattle.itip_order.specs.Registers.{RepresentsHistory}
use Rattle.profile.specs.rooms.Revisions.{Part}
use Rattle.room_books.specs.declared.meeting.PartAnswer.{PartAnswer}
use Rattle.room_books.specs.Taking.{LeavesAll}
use Rattle.room_books.proofs.change.Views.leaves_each.Given as goal

abbrev pub invariant-loop-given : goal.invariant-loop-given
invariant-loop-given l = (history : List Part) → RepresentsHistory l.self.after.now history → (given : PartAnswer) → Contains (take l.given-index l.answers) given → LeavesAll l.self.slots.now history (part_of l.part) given
