-- Those of the answers so far.
use Rattle.std.proofs.Common.{◌≡◌, take}
use Rattle.room_books.specs.Texts.{accepted_slots}
use Rattle.room_books.proofs.texts.slots_accepted.Given as goal

abbrev pub invariant-loop-given : goal.invariant-loop-given
invariant-loop-given l = l.slots.items ≡ accepted_slots (take l.given-index l.answers)
