-- Times: what a start or an end says, in UTC, where TZID names a VTIMEZONE of its object (RFC 5545 3.2.19, 3.3.5, 3.6.5), without zone,
-- or as a date (3.3.4), and what DTSTART, DTEND and DURATION of a VEVENT say together. A line is its octets here; its object, the VCALENDAR that it is in, is a tree.
use Rattle.std.specs.Prelude.{◌≡◌, ◌≢◌, ℕ, ◌<◌, ◌≤◌, ◌⊎◌, Bool, true, false, if◌then◌else◌, List, filter, codes, Option, Some, None, is_some, option_map, unwrap_or, ℤ, pos, ◌+ℤ◌, ◌*ℤ◌, ◌≤ℤ◌, ◌<ℤ◌}
use Rattle.std.specs.List.{find}
use Rattle.std.specs.Str.{bytes_eq}
use Rattle.profile.specs.text.Lines.{line_value, line_param, is_same_name}
use Rattle.profile.specs.text.Trees.{Tree, tree_name, tree_own, tree_inside}
use Rattle.profile.specs.text.Values.{SpellsDate, SpellsStamp, SpellsLocal, unescaped}
use Rattle.profile.specs.checker.Instances.{horizon}
use Rattle.profile.specs.series.Zones.{Zone, Constant, Means}
use Rattle.profile.specs.series.ZoneTexts.{SaysZone, ZoneFault}
use Rattle.profile.specs.events.Properties.{is_of, TimeKind, Unsaid, DateTime, Date, Period, Other, time_kind, Form, Fixed, Floating, WholeDay, allows_form, OccursAtMostOnce, IsMissing, SomeLine, IsLocalText, KindFault, Length, length_seconds, LastsFor, IsNoDuration, IsNegativeOrLong, longest, first_second}

-- ---- VTIMEZONEs by their names

-- those directly inside, in order
abbrev pub vtimezones : Tree → List Tree
vtimezones object = filter (λ part. is_same_name (tree_name part) (codes "VTIMEZONE")) (tree_inside object)

-- the name that a VTIMEZONE's own lines give it: its TZID as text (RFC 5545 3.8.3.1), of two the first: this profile's choice
abbrev pub zone_name : List (List ℕ) → Option (List ℕ)
zone_name lines = option_map (λ line. unescaped (line_value line)) (find (is_of (codes "TZID")) lines)

-- that is its name, octet by octet
abbrev pub has_zone_name : List ℕ → List (List ℕ) → Bool
has_zone_name name lines = unwrap_or (option_map (λ given. bytes_eq given name) (zone_name lines)) false

-- the VTIMEZONE that a name means: the first that has it
abbrev pub zone_named : List ℕ → Tree → Option Tree
zone_named name object = find (λ part. has_zone_name name (tree_own part)) (vtimezones object)

-- ---- what a line says

-- TZID is on the line
abbrev pub is_in_zone : List ℕ → Bool
is_in_zone line = is_some (line_param (codes "TZID") line)

-- the VTIMEZONE is there and says this zone
abbrev pub SaysZoneOf : Option Tree → Zone → Type 0
SaysZoneOf None zone = ⊥
SaysZoneOf (Some part) zone = SaysZone part zone

-- without TZID the text is a UTC time, of no zone (form 2): UTC is not a zone of offset 0. With TZID it is a local time, in the zone
-- that the VTIMEZONE of that name says (form 3)
abbrev pub SpellsZoned : Tree → Option (List ℕ) → List ℕ → Option Zone → ℤ → Type 0
SpellsZoned object None text None local = SpellsStamp text local
SpellsZoned object (Some name) text (Some zone) local = SpellsLocal text local × SaysZoneOf (zone_named name object) zone
SpellsZoned object None text (Some zone) local = ⊥
SpellsZoned object (Some name) text None local = ⊥

-- the date whose day begins at this local time
abbrev pub SpellsMidnight : List ℕ → ℤ → Type 0
SpellsMidnight text local = (day : ℤ) × SpellsDate text day × (local ≡ day *ℤ pos 86_400)

-- the text is a time of this form: where it isn't fixed, of no zone and without TZID
abbrev pub SpellsForm : Tree → Option (List ℕ) → List ℕ → Form → Option Zone → ℤ → Type 0
SpellsForm object name text Fixed zone local = SpellsZoned object name text zone local
SpellsForm object name text Floating zone local = (name ≡ None) × (zone ≡ None) × SpellsLocal text local
SpellsForm object name text WholeDay zone local = (name ≡ None) × (zone ≡ None) × SpellsMidnight text local

-- a text of a line says this local time, of this form, in this zone or in none: VALUE and TZID of the line are those of each of its texts
abbrev pub SaysZonedText : Tree → List ℕ → List ℕ → Form → Option Zone → ℤ → Type 0
SaysZonedText object line text form zone local =
    (allows_form (time_kind line) form ≡ true) × SpellsForm object (line_param (codes "TZID") line) text form zone local

-- the line says it: its value is the one text
abbrev pub SaysZonedTime : Tree → List ℕ → Form → Option Zone → ℤ → Type 0
SaysZonedTime object line form zone local = SaysZonedText object line (line_value line) form zone local

-- the line says a time of this form
abbrev pub SaysForm : Tree → List ℕ → Form → Type 0
SaysForm object line form = (zone : Option Zone) × (local : ℤ) × SaysZonedTime object line form zone local

-- the clocks that show it: those of its zone, else those of UTC, which show the instant itself. A time that isn't fixed is read so in a room that
-- goes by UTC; Placed.antt says it for the clocks of any room
abbrev pub clock_of : Option Zone → Zone
clock_of zone = unwrap_or zone (Constant (pos 0))

-- the line says this instant, by a time of this form
abbrev pub SaysInstant : Tree → List ℕ → Form → ℤ → Type 0
SaysInstant object line form instant =
    (zone : Option Zone) × (local : ℤ) × SaysZonedTime object line form zone local × Means (clock_of zone) local instant

-- ---- the dates that an event may name: the local years 1970 to 9999, before 10000-01-01T00:00:00Z
-- A time that isn't fixed is judged by its local time alone, and a start of that kind lies before 9999-12-31: so it is before year 10000 in
-- whatever zone

-- the first local time of a start or an end. No local time is past the year 9999. For a UTC time 1969-12-31 counts as part of 1970, so that a
-- local time of 1970 can be written in UTC; this profile's choice
abbrev pub first_local : Bool → ℤ
first_local in_zone = if in_zone then pos 0 else first_second

-- a fixed time, with TZID or without, and the instant that it means. No local time from 1970 on means an earlier instant than the second part
-- asks for
abbrev pub IsInFixedDates : Bool → ℤ → ℤ → Type 0
IsInFixedDates in_zone local instant = (first_local in_zone ≤ℤ local) × (first_second ≤ℤ instant) × (instant <ℤ horizon)

-- the first local time past those of a start, 9999-12-31T00:00:00, or of an end
abbrev pub past_locals : Bool → ℤ
past_locals is_end = if is_end then horizon else pos 253_402_214_400

abbrev pub IsInLocalDates : Bool → ℤ → Type 0
IsInLocalDates is_end local = (pos 0 ≤ℤ local) × (local <ℤ past_locals is_end)

-- a time of this form, an end or not
abbrev pub IsInDates : Bool → Form → Bool → ℤ → ℤ → Type 0
IsInDates is_end Fixed in_zone local instant = IsInFixedDates in_zone local instant
IsInDates is_end Floating in_zone local instant = IsInLocalDates is_end local
IsInDates is_end WholeDay in_zone local instant = IsInLocalDates is_end local

-- the line says this instant, by a time of this form, in those dates
abbrev pub SaysInDates : Bool → Tree → List ℕ → Form → ℤ → Type 0
SaysInDates is_end object line form instant =
    (zone : Option Zone) × (local : ℤ) × SaysZonedTime object line form zone local × Means (clock_of zone) local instant
    × IsInDates is_end form (is_in_zone line) local instant

-- the line says an instant outside of them
abbrev pub SaysOutOfDates : Bool → Tree → List ℕ → Type 0
SaysOutOfDates is_end object line =
    (form : Form) × (zone : Option Zone) × (local : ℤ) × (instant : ℤ) × SaysZonedTime object line form zone local
    × Means (clock_of zone) local instant × (IsInDates is_end form (is_in_zone line) local instant → ⊥)

-- ---- what can be wrong with a line, by the number of its refusal

-- with the text of a line with TZID: it isn't a local time, also where it is a date or ends in `Z`
abbrev pub LocalFault : TimeKind → List ℕ → ℕ → Type 0
LocalFault Unsaid text number = (IsLocalText text → ⊥) × (number ≡ 11)
LocalFault DateTime text number = (IsLocalText text → ⊥) × (number ≡ 11)
LocalFault Date text number = number ≡ 11
LocalFault Period text number = number ≡ 56
LocalFault Other text number = number ≡ 11

-- with the zone that it names: 43 where no VTIMEZONE has that name, else what is wrong with the one that has
abbrev pub NamedFault : Option Tree → ℕ → Type 0
NamedFault None number = number ≡ 43
NamedFault (Some part) number = ZoneFault part number

-- the zone is looked at where the text is a local time
abbrev pub InZoneFault : Tree → List ℕ → TimeKind → List ℕ → ℕ → Type 0
InZoneFault object name kind text number =
    LocalFault kind text number ⊎ ((allows_form kind Fixed ≡ true) × IsLocalText text × NamedFault (zone_named name object) number)

-- with TZID of this name, or without TZID
abbrev pub FaultIn : Tree → Option (List ℕ) → TimeKind → List ℕ → ℕ → Type 0
FaultIn object None kind text number = KindFault kind text number
FaultIn object (Some name) kind text number = InZoneFault object name kind text number

-- in a text of a line
abbrev pub ZonedTextFault : Tree → List ℕ → List ℕ → ℕ → Type 0
ZonedTextFault object line text number = FaultIn object (line_param (codes "TZID") line) (time_kind line) text number

-- in the one text of a line
abbrev pub ZonedTimeFault : Tree → List ℕ → ℕ → Type 0
ZonedTimeFault object line number = ZonedTextFault object line (line_value line) number

-- ---- the times of a VEVENT

-- DTSTART by its form, as a local time in a zone or in none, and as the instant that it means; and how long the event lasts, as it is written
pub record EventTimes : Type 0 where
  pub form : Form
  pub zone : Option Zone
  pub local : ℤ
  pub start : ℤ
  pub length : Length

-- the length that a DTEND of this form gives: dates are whole days apart, other times exact seconds
abbrev pub IsCountedBy : Form → Length → Type 0
IsCountedBy Fixed length = length.days ≡ 0
IsCountedBy Floating length = length.days ≡ 0
IsCountedBy WholeDay length = length.seconds ≡ 0

-- DTEND has the form of DTSTART, and is this much later by the clocks that show it: so no zone decides how long an event lasts that isn't fixed.
-- RFC 5545 3.8.2.2 requires a later DTEND; that it may equal DTSTART is this profile's choice
abbrev pub LastsUntil : Tree → Form → ℤ → List ℕ → Length → Type 0
LastsUntil object form start line length =
    IsCountedBy form length × SaysInDates true object line form (start +ℤ pos (length_seconds length))

-- a whole day lasts whole days
abbrev pub SuitsForm : Form → Length → Type 0
SuitsForm Fixed length = Unit {0}
SuitsForm Floating length = Unit {0}
SuitsForm WholeDay length = length.seconds ≡ 0

-- without an end: a whole day lasts that day, else the event ends where it starts, and holds nothing (RFC 5545 3.6.1)
abbrev pub length_alone : Form → Length
length_alone Fixed = record { days = 0; seconds = 0 }
length_alone Floating = record { days = 0; seconds = 0 }
length_alone WholeDay = record { days = 1; seconds = 0 }

-- DTEND, or DURATION as it is written, or neither
abbrev pub LastsSo : Tree → Form → ℤ → Option (List ℕ) → Option (List ℕ) → Length → Type 0
LastsSo object form start None None length = length ≡ length_alone form
LastsSo object form start (Some line) None length = LastsUntil object form start line length
LastsSo object form start None (Some line) length = LastsFor line length × SuitsForm form length
LastsSo object form start (Some line) (Some other) length = ⊥

-- the lines of a VEVENT say these times
pub record SaysEventTimes (object : Tree) (lines : List (List ℕ)) (times : EventTimes) : Type 0 where
  pub line : List ℕ
  pub once : OccursAtMostOnce (codes "DTSTART") lines (Some line)
  pub says : SaysZonedTime object line times.form times.zone times.local
  pub means : Means (clock_of times.zone) times.local times.start
  pub end_line : Option (List ℕ)
  pub duration_line : Option (List ℕ)
  pub end_once : OccursAtMostOnce (codes "DTEND") lines end_line
  pub duration_once : OccursAtMostOnce (codes "DURATION") lines duration_line
  pub lasts : LastsSo object times.form times.start end_line duration_line times.length
  pub most : length_seconds times.length ≤ longest
  pub in_dates : IsInDates false times.form (is_in_zone line) times.local times.start

-- ---- the times of a VEVENT that says no start

-- DTEND, which is read by itself and gives no length, or DURATION, or neither
abbrev pub LastsAlone : Tree → Option (List ℕ) → Option (List ℕ) → Length → Type 0
LastsAlone object None None length = length ≡ record { days = 0; seconds = 0 }
LastsAlone object (Some line) None length = (length ≡ record { days = 0; seconds = 0 }) × ((form : Form) × (end : ℤ) × SaysInDates true object line form end)
LastsAlone object None (Some line) length = LastsFor line length
LastsAlone object (Some line) (Some other) length = ⊥

-- its start is 1970-01-01T00:00:00Z, which is ignored
pub record SaysNoStart (object : Tree) (lines : List (List ℕ)) (times : EventTimes) : Type 0 where
  pub missing : IsMissing (codes "DTSTART") lines
  pub end_line : Option (List ℕ)
  pub duration_line : Option (List ℕ)
  pub end_once : OccursAtMostOnce (codes "DTEND") lines end_line
  pub duration_once : OccursAtMostOnce (codes "DURATION") lines duration_line
  pub lasts : LastsAlone object end_line duration_line times.length
  pub most : length_seconds times.length ≤ longest
  pub form : times.form ≡ Fixed
  pub zone : times.zone ≡ None
  pub local : times.local ≡ pos 0
  pub start : times.start ≡ pos 0

-- the lines say these times, where DTSTART may be missing or not
abbrev pub SaysTimes : Bool → Tree → List (List ℕ) → EventTimes → Type 0
SaysTimes may_lack object lines times = SaysEventTimes object lines times ⊎ ((may_lack ≡ true) × SaysNoStart object lines times)

-- ---- what can be wrong with the times of a VEVENT

-- the lines have a start and an end of one form, whose instants are in this relation
abbrev pub StartAndEndLie : Tree → (ℤ → ℤ → Type 0) → List (List ℕ) → Type 0
StartAndEndLie object R lines =
    (form : Form) × (start : ℤ) × (end : ℤ) × SomeLine (codes "DTSTART") (λ line. SaysInstant object line form start) lines
    × SomeLine (codes "DTEND") (λ line. SaysInstant object line form end) lines × R start end

-- they have a start and an end of two forms
abbrev pub FormsDiffer : Tree → List (List ℕ) → Type 0
FormsDiffer object lines =
    (start : Form) × (end : Form) × SomeLine (codes "DTSTART") (λ line. SaysForm object line start) lines
    × SomeLine (codes "DTEND") (λ line. SaysForm object line end) lines × (start ≢ end)

-- they have a whole day and a DURATION that isn't of whole days
abbrev pub LastsPartOfDay : Tree → List (List ℕ) → Type 0
LastsPartOfDay object lines =
    (length : Length) × SomeLine (codes "DTSTART") (λ line. SaysForm object line WholeDay) lines
    × SomeLine (codes "DURATION") (λ line. LastsFor line length) lines × (0 < length.seconds)

-- the times of a VEVENT have the fault of this number
pub data EventTimesFault (object : Tree) (lines : List (List ℕ)) : ℕ → Type 0 where
  bad_start : {n : ℕ} → SomeLine (codes "DTSTART") (λ line. ZonedTimeFault object line n) lines → EventTimesFault object lines n
  bad_end : {n : ℕ} → SomeLine (codes "DTEND") (λ line. ZonedTimeFault object line n) lines → EventTimesFault object lines n
  bad_duration : SomeLine (codes "DURATION") IsNoDuration lines → EventTimesFault object lines 12
  -- it ends before it starts
  ends_early : StartAndEndLie object (λ start end. end <ℤ start) lines → EventTimesFault object lines 50
  -- it lasts longer than 366 days
  ends_late : StartAndEndLie object (λ start end. (start +ℤ pos longest) <ℤ end) lines → EventTimesFault object lines 51
  lasts_long : SomeLine (codes "DURATION") IsNegativeOrLong lines → EventTimesFault object lines 51
  -- it starts or ends outside of the dates that an event may name
  starts_out : SomeLine (codes "DTSTART") (SaysOutOfDates false object) lines → EventTimesFault object lines 52
  ends_out : SomeLine (codes "DTEND") (SaysOutOfDates true object) lines → EventTimesFault object lines 52
  -- DTEND or DURATION doesn't go with the form of DTSTART
  other_form : FormsDiffer object lines → EventTimesFault object lines 57
  part_of_day : LastsPartOfDay object lines → EventTimesFault object lines 57
  end_and_duration : SomeLine (codes "DTEND") (λ _. Unit {0}) lines → SomeLine (codes "DURATION") (λ _. Unit {0}) lines
      → EventTimesFault object lines 61
