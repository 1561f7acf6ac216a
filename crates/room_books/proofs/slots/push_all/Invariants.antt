use Rattle.std.proofs.Common.{◌≡◌, ◌++◌, take}
use Rattle.room_books.specs.Slots.{givens}
use Rattle.room_books.proofs.slots.push_all.Given as goal

abbrev pub invariant-loop-given : goal.invariant-loop-given
invariant-loop-given l = givens l.are.items ≡ givens l.fn.are.items ++ take l.given-index l.more
