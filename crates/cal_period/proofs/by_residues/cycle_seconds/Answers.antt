use Rattle.std.proofs.Common.{◌*◌, subst, arith}
use Rattle.profile.specs.series.Periods.{IsMultiple}
use Rattle.cal_period.proofs.by_residues.cycle_seconds.Goals as goal

pub returns-clause-turn : goal.returns-clause-turn
returns-clause-turn c = (omega arith, subst (λ n. IsMultiple (86_400 * (n * 1)) (86_400 * c.cycle.result)) c.cycle.ensures.cycle (1, omega arith))
