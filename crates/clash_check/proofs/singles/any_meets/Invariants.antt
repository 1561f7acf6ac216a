use Rattle.clash_check.proofs.SingleLemmas.{IsAnyAt}
use Rattle.clash_check.proofs.singles.any_meets.Given as goal

abbrev pub invariant-loop-before : goal.invariant-loop-before
invariant-loop-before g l = IsAnyAt (g.D.Drawn.calendar l.fn.drawn) l.spans l.before (g.D.Drawn.calendar l.drawn) (g.D.Drawn.count l.fn.drawn) (g.D.Drawn.count l.drawn)
