-- What the types of the table of METHOD represent.
use Rattle.std.specs.Prelude.{◌≡◌, true, Contains}
use Rattle.ical_lines.specs.Text.{line_text, numbered}
use Rattle.ical_lines.specs.declared.line.Line.{Line}
use Rattle.profile.specs.faults.Blame.{Numbered}
use Rattle.profile.specs.events.EventComponents as profile
use Rattle.profile.specs.events.EventComponents.{is_named_by}
use Rattle.cal_events.specs.declared.property.Property.{Property}
use Rattle.cal_events.specs.declared.property.Property.TheVariants.{Uid, Organizer, Dtstamp, Sequence, Status, RecurrenceId, Dtstart, Dtend, Duration, Rrule, Rdate, Exdate, Attendee, Summary}
use Rattle.cal_events.specs.declared.property.Presence.{Presence}
use Rattle.cal_events.specs.declared.property.Presence.TheVariants.{Once, AtMostOnce, AnyNumber, Never, OfOne}

abbrev pub property_said : Property → profile.Property
property_said Uid = profile.UID
property_said Organizer = profile.ORGANIZER
property_said Dtstamp = profile.DTSTAMP
property_said Sequence = profile.SEQUENCE
property_said Status = profile.STATUS
property_said RecurrenceId = profile.RECURRENCE-ID
property_said Dtstart = profile.DTSTART
property_said Dtend = profile.DTEND
property_said Duration = profile.DURATION
property_said Rrule = profile.RRULE
property_said Rdate = profile.RDATE
property_said Exdate = profile.EXDATE
property_said Attendee = profile.ATTENDEE
property_said Summary = profile.SUMMARY

abbrev pub presence_said : Presence → profile.Presence
presence_said Once = profile.Once
presence_said AtMostOnce = profile.AtMostOnce
presence_said AnyNumber = profile.AnyNumber
presence_said Never = profile.Never
presence_said OfOne = profile.OfOne

-- the line is one of these, of this property
abbrev pub IsLineOf : Property → Numbered → Line → Type 0
IsLineOf property event line = Contains event.lines (numbered line) × (is_named_by (line_text line) (property_said property) ≡ true)
