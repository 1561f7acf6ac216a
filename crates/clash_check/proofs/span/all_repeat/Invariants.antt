use Rattle.clash_check.proofs.PeriodLemmas.{DoAgainTo}
use Rattle.clash_check.proofs.span.all_repeat.Given as goal

abbrev pub invariant-loop-number : goal.invariant-loop-number
invariant-loop-number g l = DoAgainTo (g.D.Drawn.calendar l.drawn) l.numbers l.from l.days l.number-index
