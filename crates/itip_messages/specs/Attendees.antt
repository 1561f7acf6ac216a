-- What an attendee is found by.
use Rattle.std.specs.Prelude.{ℕ, List}
use Rattle.ical_values.specs.Octets.{address_octets}
use denote.Ref.{Bor}
use Rattle.profile.specs.events.EventComponents as events
use Rattle.cal_events.specs.declared.component.Attendee.{Attendee}
use Rattle.cal_events.specs.Component.{attendee_of}

-- the octets of its address
abbrev pub octets_of : Attendee → List ℕ
octets_of attendee = address_octets attendee.address

-- what a borrowed line says
abbrev pub line_said : Bor Attendee → events.Attendee
line_said line = attendee_of line.now
