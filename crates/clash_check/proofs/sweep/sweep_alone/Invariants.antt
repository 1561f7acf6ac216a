use Rattle.std.proofs.Common.{◌≡◌, ℤ}
use Rattle.clash_check.proofs.SweepLemmas.{IsAloneAt, steps_left}
use Rattle.clash_check.proofs.sweep.sweep_alone.Given as goal

abbrev pub invariant-loop-walk : goal.invariant-loop-walk
invariant-loop-walk g l =
    (bound : ℤ) → bound ≡ l.bound
    → IsAloneAt (g.D.Drawn.calendar l.fn.drawn) l.i bound (g.D.Drawn.calendar l.drawn) (g.D.Drawn.coming l.drawn l.walk.series) (g.D.Drawn.count l.fn.drawn) (g.D.Drawn.count l.drawn) l.walk

abbrev pub decreases-loop-walk : goal.decreases-loop-walk
decreases-loop-walk g l = steps_left l.bound l.walk
