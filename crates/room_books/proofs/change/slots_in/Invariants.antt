use Rattle.std.proofs.Common.{◌≡◌, take, map}
use Rattle.room_books.specs.declared.meeting.PartAnswer.{PartAnswer}
use Rattle.room_books.proofs.change.slots_in.Given as goal

abbrev pub invariant-loop-given : goal.invariant-loop-given
invariant-loop-given l = l.slots.items ≡ map (λ (given : PartAnswer). given.slot) (take l.given-index l.answers)
