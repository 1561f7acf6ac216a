-- Those that are left are still to be put in.
use Rattle.std.proofs.Common.{drop}
use Rattle.room_books.proofs.timeline_lemmas.Changing.{ArePut}
use Rattle.room_books.proofs.timeline.Timeline.put_all.Given as goal

abbrev pub invariant-loop-single : goal.invariant-loop-single
invariant-loop-single l = ArePut l.place (drop l.single-index l.added) l.added l.single-index l.fn.self l.self
