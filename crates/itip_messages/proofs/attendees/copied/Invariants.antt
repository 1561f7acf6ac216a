use Rattle.std.proofs.Common.{◌≡◌, map, take}
use Rattle.cal_events.specs.Component.{attendee_of}
use Rattle.itip_messages.proofs.attendees.copied.Given as goal

-- those so far are copied
abbrev pub invariant-loop-line : goal.invariant-loop-line
invariant-loop-line l = map attendee_of l.copies.items ≡ map attendee_of (take l.line-index l.lines)
