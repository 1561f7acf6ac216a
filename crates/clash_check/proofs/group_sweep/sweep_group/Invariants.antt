use Rattle.std.proofs.Common.{◌≡◌, ℤ, take}
use Rattle.std.specs.BinaryHeap.{heap_items}
use Rattle.clash_check.proofs.ComingLemmas.{far_in}
use Rattle.clash_check.proofs.GroupSweepLemmas.{AreBegun, IsGroupAt}
use Rattle.clash_check.proofs.group_sweep.sweep_group.Given as goal

abbrev pub invariant-loop-number : goal.invariant-loop-number
invariant-loop-number g l =
    (bound : ℤ) → bound ≡ l.bound
    → AreBegun (g.D.Drawn.calendar l.fn.drawn) (take l.number-index l.members) bound (g.D.Drawn.calendar l.drawn) (g.D.Drawn.coming l.drawn) (g.D.Drawn.count l.fn.drawn) (g.D.Drawn.count l.drawn)
    (heap_items l.coming)

abbrev pub invariant-loop-next : goal.invariant-loop-next
invariant-loop-next g l =
    (bound : ℤ) → bound ≡ l.bound
    → IsGroupAt (g.D.Drawn.calendar l.fn.drawn) l.members bound (g.D.Drawn.calendar l.drawn) (g.D.Drawn.coming l.drawn) (g.D.Drawn.count l.fn.drawn) (g.D.Drawn.count l.drawn)
    (heap_items l.coming) l.last

abbrev pub decreases-loop-next : goal.decreases-loop-next
decreases-loop-next g l = far_in l.bound (heap_items l.coming)
