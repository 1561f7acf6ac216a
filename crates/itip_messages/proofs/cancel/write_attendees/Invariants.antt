use Rattle.std.proofs.Common.{◌≡◌, ◌++◌, map, take}
use Rattle.ical_values.specs.Octets.{address_octets}
use Rattle.profile.specs.text.Lines.{written}
use Rattle.itip_messages.specs.MeetingText.{attendee_lines}
use Rattle.itip_messages.proofs.cancel.write_attendees.Given as goal

abbrev pub invariant-loop-address : goal.invariant-loop-address
invariant-loop-address l = l.object ≡ l.initial.object ++ written (attendee_lines (map address_octets (take l.address-index l.addresses)))
