use Rattle.std.proofs.Common.{◌≡◌, map, take}
use Rattle.ical_values.specs.Octets.{address_octets}
use Rattle.itip_messages.specs.Attendees.{octets_of}
use Rattle.itip_messages.proofs.attendees.addresses_of.Given as goal

-- the addresses so far
abbrev pub invariant-loop-attendee : goal.invariant-loop-attendee
invariant-loop-attendee l = map address_octets l.addresses.items ≡ map octets_of (take l.attendee-index l.lines)
