-- If no instance of those that are left shares an instant with one of the series, none of all does.
use Rattle.std.proofs.Common.{◌≡◌}
use Rattle.cal_events.specs.Series.{series_said}
use Rattle.cal_period.specs.Compared.{compared}
use Rattle.room_books.specs.Meeting.{Recurs}
use Rattle.room_books.proofs.shared_lemmas.Recurrings.{HoldsIfLeft, AreFreeOf}
use Rattle.room_books.proofs.recurring.clash_with.Given as goal

abbrev pub invariant-loop-recurring : goal.invariant-loop-recurring
invariant-loop-recurring l = (compared l.new ≡ series_said l.series) × HoldsIfLeft (AreFreeOf (Recurs l.series)) l.all l.recurring-index
