use Rattle.cal_period.specs.Phases.{MeetsOther}
use Rattle.cal_period.specs.PhaseViews.{HoldsOfFirst}
use Rattle.cal_period.proofs.phases.Phases.meet.Given as goal

-- those that were looked at don't meet it
abbrev pub invariant-loop-number : goal.invariant-loop-number
invariant-loop-number l = HoldsOfFirst l.self l.m l.number (λ r. MeetsOther l.own l.m r l.width l.residue l.other → ⊥)
