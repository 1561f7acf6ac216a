use Rattle.std.proofs.Common.{ℕ, false}
use Rattle.cal_period.specs.Phases.{MeetsOther}
use Rattle.cal_period.specs.PhaseViews.{HoldsOfFirst, IsPhaseOf}
use Rattle.cal_period.proofs.phases.Phases.are_apart.Given as goal

-- those that were looked at meet none of these
abbrev pub invariant-loop-number : goal.invariant-loop-number
invariant-loop-number l = HoldsOfFirst l.others l.m l.number (λ s. (r : ℕ) → IsPhaseOf l.self l.m r → MeetsOther false l.m r l.width s l.other → ⊥)
