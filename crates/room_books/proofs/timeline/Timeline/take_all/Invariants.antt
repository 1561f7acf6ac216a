-- Those that are left are still there.
use Rattle.room_books.proofs.timeline_lemmas.Changing.{IsTakingSome}
use Rattle.room_books.proofs.timeline.Timeline.take_all.Given as goal

abbrev pub invariant-loop-single : goal.invariant-loop-single
invariant-loop-single l = IsTakingSome l.place l.gone l.single-index l.fn.self l.self
