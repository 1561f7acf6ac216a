-- The spans so far and those to come are those of all.
use Rattle.std.proofs.Common.{◌≡◌, ◌++◌, drop}
use Rattle.room_books.specs.Meeting.{spans_of}
use Rattle.room_books.proofs.decide.spans_in.Given as goal

abbrev pub invariant-loop-single : goal.invariant-loop-single
invariant-loop-single l = l.spans.items ++ spans_of (drop l.single-index l.singles) ≡ spans_of l.singles
