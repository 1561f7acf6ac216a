-- Which instances a meeting has on whatever clocks: those of zones that a room reads, or of zones in general (RFC 5545 3.8.5, 3.8.4.4, 3.3.6). A meeting
-- is its VEVENTs, of one UID and one ORGANIZER, and a VEVENT is its lines. `Named` says which clocks a name of a zone means. Times in UTC, and those that
-- aren't fixed, which are the room's, need none.
use Rattle.std.specs.Prelude.{◌≡◌, ◌⊎◌, ℕ, ◌==◌, Bool, true, false, List, [], codes, Contains, Option, Some, None, is_some, unwrap_or, ℤ, pos, ◌+ℤ◌, ◌≤ℤ◌}
use Rattle.std.specs.Int.Signed.{◌<ℤ◌}
use Rattle.std.specs.List.{slice_split, list_any}
use Rattle.std.specs.Str.{bytes_eq}
use Rattle.profile.specs.text.Lines.{line_value, line_param}
use Rattle.profile.specs.text.Trees.{Tree}
use Rattle.profile.specs.text.Values.{SpellsStamp, SpellsLocal}
use Rattle.profile.specs.checker.Instances.{Key, Instance, horizon}
use Rattle.profile.specs.series.Rules.{Rule, RuleText}
use Rattle.profile.specs.series.RuleTexts.{SpellsRule}
use Rattle.profile.specs.series.Zones.{Zone, Constant, Means, Shows, ShowsBy}
use Rattle.profile.specs.series.GeneralZones.{Run, IsGeneralOffsetAt, MeansGenerally}
use Rattle.profile.specs.series.GeneralZoneTexts.{SaysGeneralZone}
use Rattle.profile.specs.events.Properties.{Form, Fixed, Floating, WholeDay, allows_form, time_kind, first_second, Length, length_seconds, LastsFor, lines_named, IsMissing, SomeLine, Says, IsAddressLine, IsUidLine}
use Rattle.profile.specs.events.ZonedTimes.{SpellsMidnight, clock_of, zone_named, SaysZoneOf, IsInDates, IsCountedBy, SuitsForm, length_alone}
use Rattle.profile.specs.events.Starts.{IsDaysLater}
use Rattle.profile.specs.doors.Adapting.{IsMeant, IsZoneUnread, IsTableEnd, IsGoneOn}
use Rattle.profile.specs.doors.OnClocks.{GivesRuleOn, IsRuleStartOn, IsDaysLaterOn}

-- ---- clocks

-- those of a zone that a room reads, and those of a zone in general
pub data Clock : Type 0 where
  Read : Zone → Clock
  General : List Run → Clock

-- the instant that a local time means on them
abbrev pub MeansOn : Clock → ℤ → ℤ → Type 0
MeansOn (Read zone) = Means zone
MeansOn (General zone) = MeansGenerally zone

-- the local time that they show at an instant
abbrev pub ShowsOn : Clock → ℤ → ℤ → Type 0
ShowsOn (Read zone) = Shows zone
ShowsOn (General zone) = ShowsBy (IsGeneralOffsetAt zone)

-- those of UTC
abbrev pub utc : Clock
utc = Read (Constant (pos 0))

-- a room reads the name in the object so
abbrev pub IsClockInRoom : Tree → List ℕ → Clock → Type 0
IsClockInRoom object name (Read zone) = SaysZoneOf (zone_named name object) zone
IsClockInRoom object name (General zone) = ⊥

-- a zone in general goes on by its last rules where its table ends, or it is as it is
abbrev pub GoesOnAs : Bool → List Run → List Run → Type 0
GoesOnAs false zone longer = longer ≡ zone
GoesOnAs true zone longer = (to : ℤ) × IsTableEnd zone to × IsGoneOn zone to longer

-- at the door the name means so: as a room reads it in the object, and what no room reads as a zone in general, which goes on where the name is among these
abbrev pub IsClockAtDoor : Option Tree → Tree → List (List ℕ) → List ℕ → Clock → Type 0
IsClockAtDoor listed object going_on name (Read zone) = SaysZoneOf (zone_named name object) zone
IsClockAtDoor listed object going_on name (General zone) =
    IsZoneUnread object name × ((meant : Tree) × (said : List Run) × IsMeant listed object name meant × SaysGeneralZone meant said
    × GoesOnAs (list_any (bytes_eq name) going_on) said zone)

-- ---- a time

-- a time as it is written: its form, the zone that TZID names, and what its clocks show (RFC 5545 3.3.4, 3.3.5)
pub record ClockTime : Type 0 where
  pub form : Form
  pub name : Option (List ℕ)
  pub local : ℤ

-- the text is this time. The clocks of UTC show the instant itself
abbrev pub SpellsClockTime : Form → Option (List ℕ) → List ℕ → ℤ → Type 0
SpellsClockTime Fixed None text local = SpellsStamp text local
SpellsClockTime Fixed (Some name) text local = SpellsLocal text local
SpellsClockTime Floating name text local = (name ≡ None) × SpellsLocal text local
SpellsClockTime WholeDay name text local = (name ≡ None) × SpellsMidnight text local

-- a text of a line says it: VALUE and TZID of the line are those of each of its texts
pub record SaysClockTime (line text : List ℕ) (time : ClockTime) : Type 0 where
  pub allowed : allows_form (time_kind line) time.form ≡ true
  pub named : line_param (codes "TZID") line ≡ time.name
  pub spelled : SpellsClockTime time.form time.name text time.local

-- the clocks that show a time of this form in a room of this zone
abbrev pub IsClockOf : (List ℕ → Clock → Type 0) → Option Zone → Form → Option (List ℕ) → Clock → Type 0
IsClockOf Named room Fixed None clock = clock ≡ utc
IsClockOf Named room Fixed (Some name) clock = Named name clock
IsClockOf Named room Floating name clock = clock ≡ Read (clock_of room)
IsClockOf Named room WholeDay name clock = clock ≡ Read (clock_of room)

-- a text of a line says this instant
pub record SaysInstantOn (Named : List ℕ → Clock → Type 0) (room : Option Zone) (line text : List ℕ) (instant : ℤ) : Type 0 where
  pub time : ClockTime
  pub says : SaysClockTime line text time
  pub clock : Clock
  pub shown : IsClockOf Named room time.form time.name clock
  pub means : MeansOn clock time.local instant

-- a text of a line of that property does, with commas between
abbrev pub ListsOn : (List ℕ → Clock → Type 0) → Option Zone → List ℕ → List (List ℕ) → ℤ → Type 0
ListsOn Named room property lines instant =
    SomeLine property (λ line. (text : List ℕ) × Contains (slice_split (λ c. c == 44) (line_value line)) text × SaysInstantOn Named room line text instant) lines

-- RECURRENCE-ID does: the VEVENT takes the place of what starts then
abbrev pub ReplacesOn : (List ℕ → Clock → Type 0) → Option Zone → List (List ℕ) → ℤ → Type 0
ReplacesOn Named room lines instant = SomeLine (codes "RECURRENCE-ID") (λ line. SaysInstantOn Named room line (line_value line) instant) lines

-- ---- when a VEVENT starts

-- the clocks by which its rule and its length are counted: what isn't fixed is counted by its local times alone
abbrev pub counted_by : Form → Clock → Clock
counted_by Fixed clock = clock
counted_by Floating _ = utc
counted_by WholeDay _ = utc

-- DTSTART says this time, which these clocks show. By those that count it means this instant, in the dates that an event may name
pub record StartOn (Named : List ℕ → Clock → Type 0) (room : Option Zone) (lines : List (List ℕ)) (start : ClockTime) (clock : Clock) (counted : ℤ) : Type 0 where
  pub line : List ℕ
  pub there : Contains (lines_named (codes "DTSTART") lines) line
  pub says : SaysClockTime line (line_value line) start
  pub shown : IsClockOf Named room start.form start.name clock
  pub counts : MeansOn (counted_by start.form clock) start.local counted
  pub in_dates : IsInDates false start.form (is_some start.name) start.local counted

-- what has this DTSTART, by these clocks, starts then: at that, by its RRULE, or at an RDATE
pub data StartsOn (Named : List ℕ → Clock → Type 0) (room : Option Zone) (lines : List (List ℕ)) (start : ClockTime) (clock : Clock) (instant : ℤ) : Type 0 where
  first : MeansOn clock start.local instant → StartsOn Named room lines start clock instant
  by_rule : (line : List ℕ) (text : RuleText) (rule : Rule) → Contains (lines_named (codes "RRULE") lines) line → SpellsRule (line_value line) text
      → GivesRuleOn (MeansOn (counted_by start.form clock)) start.local text rule → IsRuleStartOn (MeansOn clock) start.local rule instant
      → StartsOn Named room lines start clock instant
  added : ListsOn Named room (codes "RDATE") lines instant → StartsOn Named room lines start clock instant

-- ---- when it ends

-- how long it lasts that has this DTSTART: until DTEND, which has the same form; as DURATION says; or without either as its form does
pub data LastsOn (Named : List ℕ → Clock → Type 0) (lines : List (List ℕ)) (form : Form) (counted : ℤ) (length : Length) : Type 0 where
  until : (line : List ℕ) (end : ClockTime) (clock : Clock) → Contains (lines_named (codes "DTEND") lines) line → SaysClockTime line (line_value line) end
      → end.form ≡ form → IsClockOf Named None end.form end.name clock → MeansOn clock end.local (counted +ℤ pos (length_seconds length))
      → IsCountedBy form length → LastsOn Named lines form counted length
  lasting : (line : List ℕ) → Contains (lines_named (codes "DURATION") lines) line → LastsFor line length → SuitsForm form length
      → LastsOn Named lines form counted length
  neither : IsMissing (codes "DTEND") lines → IsMissing (codes "DURATION") lines → length ≡ length_alone form → LastsOn Named lines form counted length

-- so many days later by the clocks of a start of this form; by those of the room, where it isn't fixed
abbrev pub IsLaterOn : Form → Clock → Option Zone → ℕ → ℤ → ℤ → Type 0
IsLaterOn Fixed clock room days instant later = IsDaysLaterOn (MeansOn clock) (ShowsOn clock) days instant later
IsLaterOn Floating clock room days instant later = IsDaysLater Floating (clock_of room) days instant later
IsLaterOn WholeDay clock room days instant later = IsDaysLater WholeDay (clock_of room) days instant later

-- what starts then ends then: the days of its length come first, then its seconds exactly
pub record EndsOn (Named : List ℕ → Clock → Type 0) (room : Option Zone) (lines : List (List ℕ)) (form : Form) (clock : Clock) (counted instant end : ℤ) : Type 0 where
  pub length : Length
  pub lasts : LastsOn Named lines form counted length
  pub later : ℤ
  pub days : IsLaterOn form clock room length.days instant later
  pub seconds : end ≡ later +ℤ pos length.seconds

-- ---- the instances of a meeting

-- of a VEVENT without RECURRENCE-ID: at one of its starts, before year 10000, but at none that EXDATE names, and at none of which another VEVENT takes
-- the place. Its slot is its start
pub record IsOfMasterOn (Named : List ℕ → Clock → Type 0) (room : Option Zone) (events : List (List (List ℕ))) (lines : List (List ℕ)) (instance : Instance) : Type 0 where
  pub whole : IsMissing (codes "RECURRENCE-ID") lines
  pub start : ClockTime
  pub clock : Clock
  pub counted : ℤ
  pub says : StartOn Named room lines start clock counted
  pub starts : StartsOn Named room lines start clock instance.start
  pub in_dates : (first_second ≤ℤ instance.start) × (instance.start <ℤ horizon)
  pub not_excepted : ListsOn Named room (codes "EXDATE") lines instance.start → ⊥
  pub not_replaced : (other : List (List ℕ)) → Contains events other → ReplacesOn Named room other instance.start → ⊥
  pub slot : instance.key.slot ≡ instance.start
  pub ends : EndsOn Named room lines start.form clock counted instance.start instance.end

-- of one with RECURRENCE-ID, which is its slot: at its own DTSTART
pub record IsOfOverrideOn (Named : List ℕ → Clock → Type 0) (room : Option Zone) (lines : List (List ℕ)) (instance : Instance) : Type 0 where
  pub slot : ReplacesOn Named room lines instance.key.slot
  pub start : ClockTime
  pub clock : Clock
  pub counted : ℤ
  pub says : StartOn Named room lines start clock counted
  pub starts : MeansOn clock start.local instance.start
  pub ends : EndsOn Named room lines start.form clock counted instance.start instance.end

-- the ORGANIZER and the UID of the lines
pub record HasKey (lines : List (List ℕ)) (key : Key) : Type 0 where
  pub organiser : Option (List ℕ)
  pub says_organiser : Says (codes "ORGANIZER") false IsAddressLine lines organiser
  pub is : key.organiser ≡ unwrap_or organiser []
  pub uid : Says (codes "UID") true IsUidLine lines (Some key.uid)

-- an instance of a meeting of these VEVENTs in a room of this zone
pub record IsInstanceOn (Named : List ℕ → Clock → Type 0) (room : Option Zone) (events : List (List (List ℕ))) (instance : Instance) : Type 0 where
  pub lines : List (List ℕ)
  pub among : Contains events lines
  pub key : HasKey lines instance.key
  pub is : IsOfMasterOn Named room events lines instance ⊎ IsOfOverrideOn Named room lines instance
