use Rattle.std.proofs.Common.{◌≡◌, ℕ, List, ◌+◌, ◌-◌, ◌<◌, ◌≤◌, length}
use Rattle.ical_lines.specs.Cut.{fresh}
use Rattle.sched_box.specs.Objects.{Cuts, kept_of}
use Rattle.sched_box.proofs.objects.Objects.next_object.Given as goal

-- the octets that were taken lead on; where octets were lent at first, some were taken or are lent still; each fill is paid by an octet
abbrev pub invariant-loop-self : goal.invariant-loop-self
invariant-loop-self g l =
    (taken : List ℕ) × g.R.Input.takes l.fn.reader taken l.reader
    × (l.self.octets.items ≡ kept_of taken) × Cuts fresh taken l.cutter × (l.self.left + length taken ≡ l.fn.self.left)
    × (g.R.Input.has_failed l.reader ≡ g.R.Input.has_failed l.fn.reader)
    × (0 < length (g.R.Input.lent l.fn.reader) → l.self.left < l.fn.self.left + length (g.R.Input.lent l.reader))
    × (g.R.Input.fills l.reader + l.self.left + (1 - length (g.R.Input.lent l.reader))
    ≤ g.R.Input.fills l.fn.reader + l.fn.self.left + (1 - length (g.R.Input.lent l.fn.reader)))

abbrev pub decreases-loop-self : goal.decreases-loop-self
decreases-loop-self g l = l.self.left
