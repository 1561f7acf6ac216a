-- At which content line a VEVENT is refused (RFC 5545 3.6.1). Its lines are those of EventComponents.antt, each with its number.
use Rattle.std.specs.Prelude.{◌≡◌, ◌⊎◌, ◌==◌, ◌||◌, ℕ, ℤ, ◌<◌, ◌≤◌, Bool, true, false, IsTrue, Contains, List, [], ◌∷◌, ◌++◌, length, codes, Option, Some, is_some}
use Rattle.std.specs.List.{slice_split}
use Rattle.profile.specs.text.Lines.{line_param, line_value}
use Rattle.profile.specs.text.Trees.{Tree}
use Rattle.profile.specs.text.Values.{IsAddress, IsUid, SpellsDuration, SpellsLong, SpellsNegative, SpellsSequence, SpellsStamp, unescaped}
use Rattle.profile.specs.faults.Blame.{IsAt, IsSecond, Numbered, texts_of_numbered}
use Rattle.profile.specs.faults.Faults.{is_address_fault, is_uid_fault}
use Rattle.profile.specs.series.RuleTexts.{IsLeastRuleFault}
use Rattle.profile.specs.series.ZoneBlame.{NumberedZone, ZoneBlame}
use Rattle.profile.specs.events.Properties.{IsMissing}
use Rattle.profile.specs.events.Occurrences.{is_period}
use Rattle.profile.specs.events.ZonedTimes.{ZonedTextFault, has_zone_name}
use Rattle.profile.specs.events.EventComponents.{Method, Property, UID, ORGANIZER, DTSTAMP, SEQUENCE, RECURRENCE-ID, DTSTART, DTEND, DURATION, RRULE, RDATE, EXDATE, ATTENDEE, is_named_by, property_name, occurs_once, is_once, presence, missing_number}

-- ---- what a line can have by itself

-- the texts of a line of RDATE or EXDATE, with commas between
abbrev pub texts_of : List ℕ → List (List ℕ)
texts_of line = slice_split (λ c. c == 44) (line_value line)

-- a text of a line has the fault of a time, whatever zones there are
abbrev pub IsWrongTime : List ℕ → List ℕ → ℕ → Type 0
IsWrongTime line text n = (object : Tree) → ZonedTextFault object line text n

-- a text of a line of RDATE or EXDATE has it: it is a period, which isn't supported, or it has the fault of a time
abbrev pub IsWrongText : List ℕ → List ℕ → List ℕ → ℕ → Type 0
IsWrongText name line text n = ((is_period name text ≡ true) × (n ≡ 56)) ⊎ ((is_period name text ≡ false) × IsWrongTime line text n)

-- one of its texts does
abbrev pub IsSomeWrong : List ℕ → List ℕ → ℕ → Type 0
IsSomeWrong name line n = (text : List ℕ) × Contains (texts_of line) text × IsWrongText name line text n

-- the value of a line of this property has the fault of this number by itself
abbrev pub IsWrong : Property → List ℕ → ℕ → Type 0
IsWrong UID line n = IsTrue (is_uid_fault n) × (IsUid (unescaped (line_value line)) → ⊥)
IsWrong ORGANIZER line n = IsTrue (is_address_fault n) × (IsAddress (line_value line) → ⊥)
IsWrong ATTENDEE line n = IsTrue (is_address_fault n) × (IsAddress (line_value line) → ⊥)
IsWrong DTSTAMP line n = (n ≡ 10) × ((instant : ℤ) → SpellsStamp (line_value line) instant → ⊥)
IsWrong SEQUENCE line n = (n ≡ 16) × ((count : ℕ) → SpellsSequence (line_value line) count → ⊥)
IsWrong DURATION line n =
    ((n ≡ 12) × ((days seconds : ℕ) → SpellsDuration (line_value line) days seconds → ⊥))
    ⊎ ((n ≡ 51) × (SpellsNegative (line_value line) ⊎ SpellsLong (line_value line)))
IsWrong RRULE line n = IsLeastRuleFault (line_value line) n
IsWrong RECURRENCE-ID line n =
    ((n ≡ 65) × (is_some (line_param (codes "RANGE") line) ≡ true)) ⊎ IsWrongTime line (line_value line) n
IsWrong DTSTART line n = IsWrongTime line (line_value line) n
IsWrong DTEND line n = IsWrongTime line (line_value line) n
IsWrong RDATE line n = IsSomeWrong (codes "RDATE") line n
IsWrong EXDATE line n = IsSomeWrong (codes "EXDATE") line n
IsWrong _ line n = ⊥

-- ---- what it can have with others

-- a fault of a line of this property beside other lines: its rule leaves the start out, or none recurs here; its list is too long; it isn't in the
-- dates of an event, which its zone decides too; it lies before the start, too long after it, or has another form
abbrev pub may_have : Property → ℕ → Bool
may_have RRULE n = n == 34 || n == 67
may_have RDATE n = n == 56 || n == 52 || n == 67
may_have EXDATE n = n == 56
may_have DTSTART n = n == 52
may_have RECURRENCE-ID n = n == 52 || n == 57
may_have DURATION n = n == 51 || n == 57
may_have DTEND n = n == 50 || n == 51 || n == 52 || n == 57
may_have _ n = false

-- TZID of the line is this name
abbrev pub names_zone : List ℕ → List ℕ → Type 0
names_zone name line = line_param (codes "TZID") line ≡ Some name

-- ---- the line of a refusal

-- the VTIMEZONE has this name, octet by octet
abbrev pub zone_has_name : List ℕ → NumberedZone → Bool
zone_has_name name zone = has_zone_name name (texts_of_numbered zone.whole.lines)

-- a line of this number names a VTIMEZONE, and is refused with this number at this line: its own where none has the name, else where that is
abbrev pub NamedBlame : List NumberedZone → ℕ → List ℕ → ℕ → ℕ → Type 0
NamedBlame zones named name n at =
    ((n ≡ 43) × (at ≡ named) × ((zone : NumberedZone) → Contains zones zone → zone_has_name name zone ≡ true → ⊥))
    ⊎ ((zone : NumberedZone) × Contains zones zone × (zone_has_name name zone ≡ true) × ZoneBlame zone n at)

-- a VEVENT of an object of this METHOD, or of one whose METHOD is ignored, with these VTIMEZONEs is refused with this number at this line
pub data EventBlame (method : Option Method) (zones : List NumberedZone) (event : Numbered) : ℕ → ℕ → Type 0 where
  -- the line has it by itself
  alone : {n at : ℕ} (property : Property) → IsAt event.lines at (λ line. (is_named_by line property ≡ true) × IsWrong property line n)
      → EventBlame method zones event n at
  -- a line of a property that can have it beside other lines of the VEVENT
  together : {n at : ℕ} (property : Property) → may_have property n ≡ true → IsAt event.lines at (λ line. is_named_by line property ≡ true)
      → EventBlame method zones event n at
  -- it is the second of a property that may occur once
  twice : {at : ℕ} (property : Property) → occurs_once property ≡ true → IsSecond (λ line. is_named_by line property) event.lines at
      → EventBlame method zones event 61 at
  -- DTEND and DURATION: the later of both
  beside : {at : ℕ} (earlier : ℕ) (property other : Property) → earlier ≤ at
      → ((property ≡ DTEND) × (other ≡ DURATION)) ⊎ ((property ≡ DURATION) × (other ≡ DTEND))
      → IsAt event.lines at (λ line. is_named_by line property ≡ true) → IsAt event.lines earlier (λ line. is_named_by line other ≡ true)
      → EventBlame method zones event 61 at
  -- a property is missing: the BEGIN of the VEVENT
  missing : (property : Property) → is_once (presence property method) ≡ true → IsMissing (property_name property) (texts_of_numbered event.lines)
      → EventBlame method zones event (missing_number property) event.begun
  -- no VTIMEZONE has the name that a line gives, or the one that has it is refused
  in_zone : {n at : ℕ} (named : ℕ) (name : List ℕ) → IsAt event.lines named (names_zone name) → NamedBlame zones named name n at
      → EventBlame method zones event n at

-- the VEVENTs of an object are, in the order of the text: one of them; or, where two contradict each other, one that isn't the first; or there is none
pub data EventsBlame (method : Option Method) (zones : List NumberedZone) (events : List Numbered) : ℕ → ℕ → Type 0 where
  in_event : {n at : ℕ} (event : Numbered) → Contains events event → EventBlame method zones event n at → EventsBlame method zones events n at
  second : {n : ℕ} (before after : List Numbered) (event : Numbered) → events ≡ before ++ event ∷ after → 0 < length before
      → (n == 53 || n == 54 || n == 62) ≡ true → EventsBlame method zones events n event.begun
  none : events ≡ [] → EventsBlame method zones events 66 0
