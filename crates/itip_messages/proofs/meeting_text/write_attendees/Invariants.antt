use Rattle.std.proofs.Common.{map}
use Rattle.std.specs.List.{AllZip}
use Rattle.itip_order.specs.Parts.{slot_of}
use Rattle.itip_messages.specs.Attendees.{line_said}
use Rattle.itip_messages.specs.Reply.{WritesLines}
use Rattle.itip_messages.proofs.meeting_text.write_attendees.Given as goal

abbrev pub invariant-loop-attendee : goal.invariant-loop-attendee
invariant-loop-attendee g l = WritesLines l.fn.object l.object (AllZip (g.A.AttendeeLines.line l.lines (slot_of l.component.slot)) (map line_said l.yielded))
