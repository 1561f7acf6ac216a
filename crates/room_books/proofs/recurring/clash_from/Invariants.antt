-- Each before the place is clear of those before it, and by itself.
use Rattle.room_books.proofs.shared_lemmas.Recurrings.{AreClearTo}
use Rattle.room_books.proofs.recurring.clash_from.Given as goal

abbrev pub invariant-loop-place : goal.invariant-loop-place
invariant-loop-place l = AreClearTo l.all l.from l.place
