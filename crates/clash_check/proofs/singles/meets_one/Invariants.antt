use Rattle.clash_check.proofs.SingleLemmas.{IsMetAt}
use Rattle.clash_check.proofs.singles.meets_one.Given as goal

abbrev pub invariant-loop-span : goal.invariant-loop-span
invariant-loop-span g l = IsMetAt (g.D.Drawn.calendar l.fn.drawn) l.i l.spans l.span-index (g.D.Drawn.calendar l.drawn) (g.D.Drawn.count l.fn.drawn) (g.D.Drawn.count l.drawn)
