use Rattle.cal_events.specs.Event.{said_meeting}
use Rattle.cal_events.proofs.shared_lemmas.Overlaps.{IsAhead, steps_left}
use Rattle.cal_events.proofs.overlapping.first_overlapping.Given as goal

abbrev pub invariant-loop-next : goal.invariant-loop-next
invariant-loop-next l = IsAhead (said_meeting l.event) l.span.start l.span.end l.next l.instances

abbrev pub decreases-loop-next : goal.decreases-loop-next
decreases-loop-next l = steps_left l.next l.instances
