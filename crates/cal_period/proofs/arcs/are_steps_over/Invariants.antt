use Rattle.std.specs.Prelude.{ℕ, ◌+◌, ◌<◌}
use Rattle.std.specs.List.{slice_index}
use Rattle.cal_period.specs.Around.{IsOver}
use Rattle.cal_period.proofs.arcs.are_steps_over.Given as goal

-- the arcs of those before are
abbrev pub invariant-loop-next : goal.invariant-loop-next
invariant-loop-next l = (k : ℕ) → k + 1 < l.next → IsOver l.m (slice_index l.all k) l.width (slice_index l.all (k + 1))
