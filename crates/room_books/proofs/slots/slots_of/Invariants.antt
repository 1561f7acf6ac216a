use Rattle.std.proofs.Common.{◌≡◌, take, map}
use Rattle.room_books.specs.declared.claim.Claim.{Claim}
use Rattle.room_books.proofs.slots.slots_of.Given as goal

-- the slots so far
abbrev pub invariant-loop-claim : goal.invariant-loop-claim
invariant-loop-claim l = l.slots.items ≡ map (λ (claim : Claim). claim.part.slot) (take l.claim-index l.claims)
