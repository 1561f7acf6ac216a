-- If none of those that are left shares an instant with an instance, none of all does.
use Rattle.std.proofs.Common.{None}
use Rattle.room_books.specs.Recurring.{IsBesideOne}
use Rattle.room_books.proofs.shared_lemmas.Recurrings.{HoldsIfLeft}
use Rattle.room_books.proofs.recurring.single_beside.Given as goal

abbrev pub invariant-loop-single : goal.invariant-loop-single
invariant-loop-single l = HoldsIfLeft (λ single. IsBesideOne single l.all None) l.singles l.single-index
