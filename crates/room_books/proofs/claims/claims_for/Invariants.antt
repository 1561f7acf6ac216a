use Rattle.std.proofs.Common.{◌≡◌, ◌++◌}
use Rattle.std.specs.List.{AllZip}
use Rattle.room_books.specs.Claims.{IsClaimOf}
use Rattle.room_books.proofs.claims.claims_for.Given as goal

-- those so far have their claims
abbrev pub invariant-loop-part : goal.invariant-loop-part
invariant-loop-part l = (l.fn.kept.items ≡ l.yielded ++ l.part-iterator.rest.items) × AllZip IsClaimOf l.yielded l.claims.items
