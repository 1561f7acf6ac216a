use Rattle.std.proofs.Common.{◌*◌, subst, arith}
use Rattle.std.proofs.lemmas.Nat.Gcd.{IsGcd-swap}
use Rattle.profile.specs.series.Periods.{IsMultiple}
use Rattle.cal_period.proofs.ByResidues.{low_divisor, one_turn}
use Rattle.cal_period.proofs.Turning.{some_divisor}
use Rattle.cal_period.proofs.by_residues.modulus.Goals as goal

pub overflow_mul-result : goal.overflow_mul-result
overflow_mul-result c =
    let low = low_divisor c.cycle.result c.cycle-2.result c.common_divisor.result c.common_divisor.ensures c.cycle.ensures.range.0 in
    let few = c.cycle.ensures.range.1 in
    omega (arith, low, few)

pub returns-clause-range : goal.returns-clause-range
returns-clause-range c =
    let low = low_divisor c.cycle.result c.cycle-2.result c.common_divisor.result c.common_divisor.ensures c.cycle.ensures.range.0 in
    let few = c.cycle.ensures.range.1 in
    let some = some_divisor c.cycle.result c.cycle-2.result c.common_divisor.result c.common_divisor.ensures c.cycle.ensures.range.0 in
    (omega (arith, some), omega (arith, low, few))

pub returns-clause-first : goal.returns-clause-first
returns-clause-first c = (
  omega arith,
  subst (λ n. IsMultiple (86_400 * (n * 1)) (86_400 * c.common_divisor.result)) c.cycle.ensures.cycle (one_turn c.cycle.result c.cycle-2.result c.common_divisor.result c.common_divisor.ensures),
)

pub returns-clause-second : goal.returns-clause-second
returns-clause-second c = (
  omega arith,
  subst (λ n. IsMultiple (86_400 * (n * 1)) (86_400 * c.common_divisor.result)) c.cycle-2.ensures.cycle
      (one_turn c.cycle-2.result c.cycle.result c.common_divisor.result (IsGcd-swap c.cycle.result c.cycle-2.result c.common_divisor.result c.common_divisor.ensures)),
)
