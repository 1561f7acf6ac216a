use Rattle.std.proofs.Common.{◌≡◌, ◌++◌, map, take}
use Rattle.room_books.specs.Recurring.{keyed_of}
use Rattle.room_books.proofs.recurring.push_all.Given as goal

abbrev pub invariant-loop-one : goal.invariant-loop-one
invariant-loop-one l = map keyed_of l.all.items ≡ map keyed_of l.fn.all.items ++ map (λ one. (l.key, one.now)) (take l.one-index l.series)
