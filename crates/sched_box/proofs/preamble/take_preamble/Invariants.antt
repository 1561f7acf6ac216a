use Rattle.std.proofs.Common.{◌≡◌, ◌+◌, ◌-◌, ◌≤◌, length}
use Rattle.sched_box.specs.Preamble.{Leads}
use Rattle.sched_box.specs.declared.preamble.LineState.TheVariants.{Start}
use Rattle.sched_box.proofs.preamble.take_preamble.Given as goal

abbrev pub invariant-loop-place : goal.invariant-loop-place
invariant-loop-place g l =
    g.R.Input.takes l.fn.reader l.octets.items l.reader × Leads Start l.octets.items l.place
    × (g.R.Input.has_failed l.reader ≡ g.R.Input.has_failed l.fn.reader)
    × (g.R.Input.fills l.reader + (1 - length (g.R.Input.lent l.reader)) ≤ g.R.Input.fills l.fn.reader + (1 - length (g.R.Input.lent l.fn.reader)) + length l.octets.items)

abbrev pub decreases-loop-place : goal.decreases-loop-place
decreases-loop-place g l = 65_537 - length l.octets.items
