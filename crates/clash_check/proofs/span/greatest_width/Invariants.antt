use Rattle.clash_check.proofs.PeriodLemmas.{IsWidestOf}
use Rattle.clash_check.proofs.span.greatest_width.Given as goal

abbrev pub invariant-loop-number : goal.invariant-loop-number
invariant-loop-number g l = IsWidestOf (g.D.Drawn.calendar l.drawn) l.numbers l.number-index l.greatest
