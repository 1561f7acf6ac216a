-- If no instance of those that are left shares an instant with what stays, none of all does.
use Rattle.std.proofs.Common.{None, Bor}
use Rattle.cal_events.specs.declared.series.Series.{Series}
use Rattle.room_books.proofs.shared_lemmas.Recurrings.{HoldsIfLeft}
use Rattle.room_books.specs.Timeline.{AreTaken, is_leaving}
use Rattle.room_books.specs.Meeting.{Recurs}
use Rattle.room_books.proofs.decide.Deciding.busy_beside_series.Given as goal

abbrev pub invariant-loop-series : goal.invariant-loop-series
invariant-loop-series l = HoldsIfLeft (λ (one : Bor Series). AreTaken (is_leaving l.own l.gone) l.self.room.now.timeline.busy.items (Recurs one.now) None) l.all l.series-index
