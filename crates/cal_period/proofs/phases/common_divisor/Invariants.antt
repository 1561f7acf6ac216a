use Rattle.std.proofs.Common.{ℕ, ◌<◌}
use Rattle.std.specs.Int.{IsGcd}
use Rattle.cal_period.proofs.phases.common_divisor.Given as goal

-- what divides both is what divides the two numbers that are left
abbrev pub invariant-loop-lesser : goal.invariant-loop-lesser
invariant-loop-lesser l = record {
  some : 0 < l.greater;
  same : (g : ℕ) → IsGcd l.greater l.lesser g → IsGcd l.a l.b g;
}

abbrev pub decreases-loop-lesser : goal.decreases-loop-lesser
decreases-loop-lesser l = l.lesser
