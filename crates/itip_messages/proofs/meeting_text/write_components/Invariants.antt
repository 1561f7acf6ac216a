use Rattle.std.proofs.Common.{take}
use Rattle.itip_messages.specs.MeetingText.{WritesComponents}
use Rattle.itip_messages.proofs.meeting_text.write_components.Given as goal

abbrev pub invariant-loop-component : goal.invariant-loop-component
invariant-loop-component g l = WritesComponents (g.A.AttendeeLines.line l.lines) l.meeting (take l.component-index l.meeting.components.now) l.fn.zones l.zones l.fn.object l.object
