-- What the octets of a body are.
use Rattle.std.specs.Prelude.{◌≡◌, ℕ, ◌≤◌, Contains, List, [], ◌∷◌, ◌++◌, codes, take, drop, get_or, length, option_map, unwrap_or, filter, Option, Some, None, ℤ, pos, ◌*ℤ◌, ◌≤ℤ◌}
use Rattle.std.specs.List.{flat_map, AllZip}
use Rattle.memchr.specs.Find.{matches}
use Rattle.profile.specs.text.Values.{IsClockSeconds, WritesLocal, WritesStamp}
use Rattle.profile.specs.events.Properties.{BothOrNeither, Form, Fixed, Floating, WholeDay}
use Rattle.profile.specs.events.ZonedTimes.{EventTimes, SpellsMidnight}
use Rattle.profile.specs.events.Occurrences.{Time}
use Rattle.profile.specs.series.Rules.{Rule, Until, UntilDay, UntilLocal, UntilInstant, last_rule_day}
use Rattle.profile.specs.series.Zones.{Zone}
use Rattle.profile.specs.events.EventComponents.{EventComponent}
use Rattle.profile.specs.rooms.Messages.{Content, IsContent, IsZoneRest, StartsIn, WritesListed, WritesRule, WritesTimes, canonical, may_take, zone_text}
use Rattle.cal_events.specs.OwnInstances.{IsTimely}

-- these lines, unfolded and each ended by CRLF
abbrev pub crlf_lines : List (List ℕ) → List ℕ
crlf_lines lines = flat_map (λ line. line ++ codes "\r\n") lines

-- the octets of a content's VTIMEZONE; none without a zone
abbrev pub zone_octets : Option (List ℕ) → List ℕ
zone_octets zone = unwrap_or (option_map (zone_text (codes "Z")) zone) []

-- before this place of a content's octets are its lines, and from it on those of its zone
pub record IsCutAtZone (content : Content) (place : ℕ) : Type 0 where
  pub inside : place ≤ length (canonical content)
  pub before : take place (canonical content) ≡ crlf_lines content.lines
  pub after : drop place (canonical content) ≡ zone_octets content.zone

-- the octets are the event's content, in its one form
pub record IsCanonical (octets : List ℕ) (event : EventComponent) : Type 0 where
  pub content : Content
  pub when : IsContent content event
  pub is : octets ≡ canonical content

-- how a time of this form is written, by its instant in UTC
abbrev pub writes_as : Form → List ℕ → ℤ → Type 0
writes_as Fixed = WritesStamp
writes_as Floating = WritesLocal
writes_as WholeDay = SpellsMidnight

-- a property's name, with VALUE where it lists dates
abbrev pub name_as : Form → List ℕ → List ℕ
name_as Fixed name = name
name_as Floating name = name
name_as WholeDay name = name ++ codes ";VALUE=DATE"

-- new is old and a property that lists these instants after it, as times of this form
abbrev pub AppendsTimes : Form → List ℕ → List ℤ → List ℕ → List ℕ → Type 0
AppendsTimes form name instants old new =
    (lines : List (List ℕ)) × WritesTimes (writes_as form) (name_as form name) instants lines × (new ≡ old ++ crlf_lines lines)

-- new is old and a property that lists these times after it
abbrev pub AppendsListed : List ℕ → List Time → List ℕ → List ℕ → Type 0
AppendsListed name times old new = (lines : List (List ℕ)) × WritesListed name times lines × (new ≡ old ++ crlf_lines lines)

-- new is old and these instants after it, as times of this form, each after a comma
abbrev pub AppendsOthers : Form → List ℤ → List ℕ → List ℕ → Type 0
AppendsOthers form instants old new =
    (texts : List (List ℕ)) × AllZip (writes_as form) texts instants × (new ≡ old ++ flat_map (λ other. codes "," ++ other) texts)

-- new is old and DTSTART after it
abbrev pub AppendsStart : EventTimes → List ℕ → List ℕ → Type 0
AppendsStart times old new = (line : List ℕ) × StartsIn times.form times.zone times line × (new ≡ old ++ crlf_lines (line ∷ []))

-- new is old and RRULE after it, where there is a rule
abbrev pub AppendsRule : Form → Zone → Option Rule → List ℕ → List ℕ → Type 0
AppendsRule form clock rule old new = (lines : List (List ℕ)) × WritesRule form clock rule lines × (new ≡ old ++ crlf_lines lines)

-- new is old and the VTIMEZONE after it, where there is a zone
abbrev pub AppendsZone : EventTimes → List ℕ → List ℕ → Type 0
AppendsZone times old new = (zone : Option (List ℕ)) × BothOrNeither IsZoneRest times.zone zone × (new ≡ old ++ zone_octets zone)

-- the line that begins a VTIMEZONE (RFC 5545 3.6.5)
abbrev pub zone_line : List ℕ
zone_line = codes "BEGIN:VTIMEZONE\r\n"

-- where that line first occurs among octets; their number where it doesn't
abbrev pub zone_place : List ℕ → ℕ
zone_place octets = get_or (matches octets zone_line 0) 0 (length octets)

-- an end of a rule that can be written: a date is at most 9999-12-31
abbrev pub IsFixedTold : Until → Type 0
IsFixedTold (UntilDay number) = number ≤ℤ pos 2_932_896
IsFixedTold (UntilLocal local) = Unit {0}
IsFixedTold (UntilInstant instant) = Unit {0}

-- beside a start of this form: where it isn't fixed the last day is written, which is one up to 9999-12-31
abbrev pub IsTold : Form → ℕ → Until → Type 0
IsTold Fixed last until = IsFixedTold until
IsTold Floating last until = last ≤ last_rule_day
IsTold WholeDay last until = last ≤ last_rule_day

-- the end of a rule, where it has one
abbrev pub EndIsTold : Form → Option Rule → Type 0
EndIsTold form rule = (said : Rule) → rule ≡ Some said → (end : Until) → said.until ≡ Some end → IsTold form said.last end

-- a local time of the years 1 to 9999 with which a day begins
abbrev pub IsMidnight : ℤ → Type 0
IsMidnight local = IsClockSeconds local × ((day : ℤ) × (local ≡ day *ℤ pos 86_400))

-- a time of this form that can be written, by its instant in UTC
abbrev pub IsShowable : Form → ℤ → Type 0
IsShowable Fixed instant = IsClockSeconds instant
IsShowable Floating instant = IsClockSeconds instant
IsShowable WholeDay instant = IsMidnight instant

abbrev pub AreShowable : List Time → Type 0
AreShowable times = (time : Time) → Contains times time → IsShowable time.form time.instant

-- what isn't fixed is of no zone, and a whole day begins with its midnight
abbrev pub IsWholeIn : Form → Option Zone → ℤ → Type 0
IsWholeIn Fixed _ local = Unit {0}
IsWholeIn Floating zone local = zone ≡ None
IsWholeIn WholeDay zone local = (zone ≡ None) × IsMidnight local

abbrev pub StartIsWhole : EventTimes → Type 0
StartIsWhole times = IsWholeIn times.form times.zone times.local

-- what a message's VEVENT says of when its event is: its start, the end of its rule, and all that is added and taken away can be written
pub record IsReady (event : EventComponent) : Type 0 where
  pub ends : EndIsTold event.times.form event.rule
  pub timely : IsTimely event
  pub start : StartIsWhole event.times
  pub added : AreShowable event.written.additions
  pub taken : AreShowable (filter may_take event.written.exceptions)
