use Rattle.std.proofs.Common.{◌≡◌, ◌+◌, ℤ}
use Rattle.clash_check.proofs.SweepLemmas.{IsPairAt, steps_left}
use Rattle.clash_check.proofs.sweep.sweep_pair.Given as goal

abbrev pub invariant-loop-next : goal.invariant-loop-next
invariant-loop-next g l =
    (bound : ℤ) → bound ≡ l.bound
    → IsPairAt (g.D.Drawn.calendar l.fn.drawn) l.i l.j bound (g.D.Drawn.calendar l.drawn) (g.D.Drawn.coming l.drawn) (g.D.Drawn.count l.fn.drawn) (g.D.Drawn.count l.drawn) l.first l.second

abbrev pub decreases-loop-next : goal.decreases-loop-next
decreases-loop-next g l = steps_left l.bound l.first + steps_left l.bound l.second
