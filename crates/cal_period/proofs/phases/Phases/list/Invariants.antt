use Rattle.cal_period.specs.PhaseViews.{AreFirstPhases}
use Rattle.cal_period.proofs.phases.Phases.list.Given as goal

-- the phases of the numbers so far
abbrev pub invariant-loop-number : goal.invariant-loop-number
invariant-loop-number l = AreFirstPhases l.self l.m l.number l.all.items
