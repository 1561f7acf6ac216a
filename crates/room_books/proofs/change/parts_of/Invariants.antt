use Rattle.std.proofs.Common.{take}
use Rattle.itip_order.specs.Registers.{RepresentsHistory}
use Rattle.room_books.specs.Taking.{parts_said}
use Rattle.room_books.proofs.change.parts_of.Given as goal

abbrev pub invariant-loop-claim : goal.invariant-loop-claim
invariant-loop-claim l = RepresentsHistory l.parts (parts_said (take l.claim-index l.claims))
