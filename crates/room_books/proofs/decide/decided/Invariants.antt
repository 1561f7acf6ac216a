use Rattle.std.specs.List.{AllZip}
use Rattle.room_books.specs.Taking.{IsDecided}
use Rattle.room_books.proofs.decide.decided.Given as goal

abbrev pub invariant-loop-candidate : goal.invariant-loop-candidate
invariant-loop-candidate l = AllZip (λ candidate given. IsDecided candidate l.outcome given) l.yielded l.given.items
