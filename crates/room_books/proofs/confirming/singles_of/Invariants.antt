use Rattle.std.proofs.Common.{◌≡◌, take}
use Rattle.room_books.specs.Meeting.{all_singles}
use Rattle.room_books.proofs.confirming.singles_of.Given as goal

abbrev pub invariant-loop-given : goal.invariant-loop-given
invariant-loop-given l = l.singles.items ≡ all_singles (take l.given-index l.answers)
