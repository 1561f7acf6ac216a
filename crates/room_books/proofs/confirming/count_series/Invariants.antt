use Rattle.std.proofs.Common.{◌≡◌, length, take}
use Rattle.room_books.specs.Meeting.{all_series}
use Rattle.room_books.proofs.confirming.count_series.Given as goal

abbrev pub invariant-loop-given : goal.invariant-loop-given
invariant-loop-given l = l.count ≡ length (all_series (take l.given-index l.given-items))
