use Rattle.room_books.specs.Slots.{givens}
use Rattle.room_books.proofs.slots_lemmas.Walking.{IsWalked}
use Rattle.room_books.proofs.slots.answers_at.Given as goal

abbrev pub invariant-loop-slot : goal.invariant-loop-slot
invariant-loop-slot l = IsWalked l.slots l.slot-index l.answers l.rest (givens l.are.items)
