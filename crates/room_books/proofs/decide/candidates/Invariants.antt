use Rattle.std.proofs.Common.{take}
use Rattle.std.specs.List.{AllZip}
use Rattle.room_books.specs.Taking.{IsAccepted}
use Rattle.room_books.proofs.decide.candidates.Given as goal

abbrev pub invariant-loop-claim : goal.invariant-loop-claim
invariant-loop-claim l = AllZip (λ claim given. IsAccepted l.held claim.now l.moment given) (take l.claim-index l.asked) l.given.items
