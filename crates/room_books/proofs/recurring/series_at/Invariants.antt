-- If no instance of those that are left shares an instant with the single, none of all does.
use Rattle.room_books.proofs.shared_lemmas.Recurrings.{HoldsIfLeft, IsFreeOf}
use Rattle.room_books.proofs.recurring.series_at.Given as goal

abbrev pub invariant-loop-recurring : goal.invariant-loop-recurring
invariant-loop-recurring l = HoldsIfLeft (IsFreeOf l.single) l.all l.recurring-index
