-- The numbers of refusals, by what they are about. A number's meaning is given at its constant in
-- `ical_lines/src/fault.rt` and in docs/REFERENCE.md.
use Rattle.std.specs.Prelude.{ℕ, Bool, nat_le, ◌&&◌, ◌||◌, ◌==◌}

-- n is one of low..high
abbrev pub is_between : ℕ → ℕ → ℕ → Bool
is_between low high n = nat_le low n && nat_le n high

-- a fault of a content line (RFC 5545 3.1)
abbrev pub is_line_fault : ℕ → Bool
is_line_fault = is_between 1 6

-- a fault of an object's tree: the lines' faults and those of BEGIN, END and VERSION (RFC 5545 3.4, 3.6)
abbrev pub is_object_fault : ℕ → Bool
is_object_fault n = is_line_fault n || is_between 20 25 n

-- a fault of a UID's octets (RFC 5545 3.8.4.7)
abbrev pub is_uid_fault : ℕ → Bool
is_uid_fault n = n == 14

-- a fault of an address (RFC 5545 3.3.3)
abbrev pub is_address_fault : ℕ → Bool
is_address_fault n = n == 15

-- a fault of a value (RFC 5545 3.3)
abbrev pub is_value_fault : ℕ → Bool
is_value_fault = is_between 10 16

-- a fault of one VEVENT: its values, its times, and properties that are missing, repeated or exclude another (RFC 5545 3.6.1)
abbrev pub is_event_fault : ℕ → Bool
is_event_fault n = is_value_fault n || is_between 50 52 n || is_between 56 57 n || n == 61 || n == 63

-- a fault of the VTIMEZONE that a TZID names, or a missing one (RFC 5545 3.6.5); what is wrong with its values has a value's number
abbrev pub is_zone_fault : ℕ → Bool
is_zone_fault = is_between 40 43

-- a fault of one VEVENT whose times may name a VTIMEZONE of its object
abbrev pub is_zoned_event_fault : ℕ → Bool
is_zoned_event_fault n = is_event_fault n || is_zone_fault n

-- a fault of the text of an RRULE, or of a start that isn't one of its days (RFC 5545 3.3.10, 3.8.5.3)
abbrev pub is_rule_fault : ℕ → Bool
is_rule_fault = is_between 30 34

-- a fault of one VEVENT that may name a VTIMEZONE and may recur
abbrev pub is_series_event_fault : ℕ → Bool
is_series_event_fault n = is_zoned_event_fault n || is_rule_fault n

-- a fault of one VEVENT, which may name a VTIMEZONE, recur, and be for one instance of its meeting
abbrev pub is_meeting_event_fault : ℕ → Bool
is_meeting_event_fault n = is_series_event_fault n || n == 65 || n == 67

-- a fault of a calendar: an object, the zone of its room, its VEVENTs, or two masters or two overrides of one start
abbrev pub is_calendar_fault : ℕ → Bool
is_calendar_fault n = is_object_fault n || n == 44 || is_meeting_event_fault n || is_between 53 54 n

-- a fault of a message: an object, its VEVENTs, its method, its meeting, its attendees or a missing VEVENT (RFC 5546 3.2)
abbrev pub is_message_fault : ℕ → Bool
is_message_fault n = is_object_fault n || is_meeting_event_fault n || is_between 53 54 n || n == 60 || n == 62 || n == 64 || n == 66

-- a fault of an object for an organiser, beside what the organiser keeps
abbrev pub is_organiser_fault : ℕ → Bool
is_organiser_fault = is_between 70 73

-- a fault of a preamble or a configuration
abbrev pub is_preamble_fault : ℕ → Bool
is_preamble_fault n = n == 90
