-- If none of those that are left shares an instant with the series, none of all does.
use Rattle.room_books.specs.Timeline.{is_leaving}
use Rattle.room_books.specs.Meeting.{Recurs}
use Rattle.room_books.proofs.shared_lemmas.Recurrings.{HoldsIfLeft}
use Rattle.room_books.proofs.timeline_lemmas.Timelines.{IsNoneTaken}
use Rattle.room_books.proofs.timeline.Timeline.first_of_series.Given as goal

abbrev pub invariant-loop-busy : goal.invariant-loop-busy
invariant-loop-busy l = HoldsIfLeft (IsNoneTaken (is_leaving l.own l.gone) (Recurs l.series)) l.self.busy.items l.busy-index
