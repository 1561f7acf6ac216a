use Rattle.std.specs.List.{AllAdjacentBelow}
use Rattle.cal_events.specs.Sweep.{IsOverBefore}
use Rattle.cal_events.proofs.sweep.overlap_of_neighbours.Given as goal

-- up to here no neighbours overlap
abbrev pub invariant-loop-next : goal.invariant-loop-next
invariant-loop-next l = AllAdjacentBelow IsOverBefore l.sorted l.next
