-- The slots that were found lost and those to come: what is of none of them is left alone.
use Rattle.std.proofs.Common.{◌++◌, drop}
use Rattle.itip_order.specs.Parts.{part_of}
use Rattle.room_books.proofs.change_lemmas.Looking.{AreLost}
use Rattle.room_books.proofs.change.Views.lost.Given as goal

abbrev pub invariant-loop-slot : goal.invariant-loop-slot
invariant-loop-slot l = AreLost l.self.slots.now l.before.held l.self.after.now (part_of l.self.part.now) l.before.answers.items (l.lost.items ++ drop l.slot-index l.slot-items)
