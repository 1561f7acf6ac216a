use Rattle.std.proofs.Common.{◌≡◌, false}
use Rattle.std.specs.List.{AllAdjacentBelow}
use Rattle.cal_events.proofs.neighbours.has_equal_neighbours.Given as goal

-- no two of those before are the same
abbrev pub invariant-loop-next : goal.invariant-loop-next
invariant-loop-next g l = AllAdjacentBelow (λ one next. g.T.PartialEq.eq one next ≡ false) l.values l.next
