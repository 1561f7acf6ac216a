use Rattle.std.proofs.Common.{ℤ, pos, ◌-ℤ◌, ◌<ℤ◌, unsigned_abs}
use Rattle.profile.specs.checker.Certificates.{IsSeriesAt}
use Rattle.profile.specs.events.Events.{Event}
use Rattle.profile.specs.events.Spans.{IsWidthOf}
use Rattle.clash_check.specs.Singles.{IsEntryInstant}
use Rattle.clash_check.specs.Walks.{place_of_walk}
use Rattle.clash_check.proofs.SingleLemmas.{IsNearAt}
use Rattle.clash_check.proofs.singles.meets_near.Given as goal

abbrev pub invariant-loop-next : goal.invariant-loop-next
invariant-loop-next g l =
    (width : ℤ) × (entry : ℤ) × (pos 0 <ℤ width) × ((a : Event) → IsSeriesAt (g.D.Drawn.calendar l.fn.drawn) l.i a → IsWidthOf a width) × IsEntryInstant l.span.start width entry
    × IsNearAt (g.D.Drawn.calendar l.fn.drawn) l.i l.span width entry (g.D.Drawn.calendar l.drawn) (g.D.Drawn.coming l.drawn l.i) (g.D.Drawn.count l.fn.drawn) (g.D.Drawn.count l.drawn) l.next

abbrev pub decreases-loop-next : goal.decreases-loop-next
decreases-loop-next g l = unsigned_abs (l.span.end -ℤ place_of_walk l.span.end l.next)
