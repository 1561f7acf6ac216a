use Rattle.std.specs.Prelude.{ℕ, ◌<◌}
use Rattle.std.specs.List.{slice_index}
use Rattle.cal_period.specs.Around.{MeetsNoArc}
use Rattle.cal_period.proofs.arcs.are_apart.Given as goal

-- the arcs of those before meet none of the second
abbrev pub invariant-loop-residue : goal.invariant-loop-residue
invariant-loop-residue l = (k : ℕ) → k < l.residue-index → MeetsNoArc l.m (slice_index l.first k) l.width l.second l.other
