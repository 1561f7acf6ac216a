use Rattle.clash_check.proofs.SingleLemmas.{AreDrawnAt}
use Rattle.clash_check.proofs.singles.draw_singles.Given as goal

abbrev pub invariant-loop-before : goal.invariant-loop-before
invariant-loop-before g l = AreDrawnAt (g.D.Drawn.calendar l.fn.drawn) l.before (g.D.Drawn.calendar l.drawn) l.spans.items (g.D.Drawn.count l.fn.drawn) (g.D.Drawn.count l.drawn)
