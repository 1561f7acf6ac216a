-- Messages and rooms: the parts that a message has for a room, and replies (RFC 5546 1.4, 3.2). Only a REQUEST, an ADD or a CANCEL is for rooms.
use Rattle.std.specs.Prelude.{◌≡◌, ◌↔◌, ℕ, ◌/◌, ◌%◌, ◌+◌, Bool, true, false, ◌&&◌, ◌||◌, ◌==◌, if◌then◌else◌, nat_lt, List, [], ◌∷◌, ◌++◌, length, filter, codes, decimal, Contains, AllPairs, Option, Some, None, option_map, unwrap_or, ℤ, pos, ◌<ℤ◌, not}
use Rattle.std.specs.List.{flat_map, list_any, AllZip}
use Rattle.std.specs.Int.Signed.{lt_z}
use Rattle.std.specs.Str.{bytes_eq}
use Rattle.std.specs.Char.{is_ascii_alphabetic, is_ascii_digit}
use Rattle.profile.specs.text.Lines.{written}
use Rattle.profile.specs.text.Values.{SpellsDate, WritesStamp, WritesLocal, duration_text, escaped}
use Rattle.profile.specs.events.Occurrences.{Time}
use Rattle.profile.specs.events.EventComponents.{Method, Store, Request, Add, Cancel, Reply, Refresh, EventComponent, instants_of}
use Rattle.profile.specs.events.Placed.{IsAt}
use Rattle.profile.specs.events.Properties.{Form, Fixed, Floating, WholeDay, is_fixed, is_floating, is_whole_day, first_second, BothOrNeither}
use Rattle.profile.specs.events.ZonedTimes.{EventTimes, SpellsMidnight, clock_of}
use Rattle.profile.specs.series.Days.{day_index}
use Rattle.profile.specs.series.Rules.{Rule, Until, UntilDay, UntilLocal, UntilInstant, text_in}
use Rattle.profile.specs.series.RuleTexts.{rule_text}
use Rattle.profile.specs.events.EventRules.{as_end}
use Rattle.profile.specs.series.Zones.{Zone, Means}
use Rattle.profile.specs.written.WrittenZones.{WritesParts}
use Rattle.profile.specs.checker.Instances.{Key, horizon}
use Rattle.std.specs.declared.cmp.Ordering.TheVariants.{Less}
use Rattle.std.specs.Ordering.{is_le, is_lt}
use Rattle.profile.specs.events.Messages.{Message, is_to_rooms, master_in}
use Rattle.profile.specs.rooms.Revisions.{Part, Slot, Whole, At, Revision, Body, Set, Absent, Cancelled, part_cmp, revision_cmp, slot_cmp}

-- ---- the parts of a message

-- DTSTART by its form and its zone, whose name here is `Z` whatever it was: in UTC, in the zone, without zone, or as a date
abbrev pub StartsIn : Form → Option Zone → EventTimes → List ℕ → Type 0
StartsIn Fixed None times line = (text : List ℕ) × WritesStamp text times.start × (line ≡ codes "DTSTART:" ++ text)
StartsIn Fixed (Some zone) times line = (text : List ℕ) × WritesLocal text times.local × (line ≡ codes "DTSTART;TZID=Z:" ++ text)
StartsIn Floating _ times line = (text : List ℕ) × WritesLocal text times.local × (line ≡ codes "DTSTART:" ++ text)
StartsIn WholeDay _ times line = (text : List ℕ) × SpellsMidnight text times.local × (line ≡ codes "DTSTART;VALUE=DATE:" ++ text)

-- these instants ascending, each once
pub record AreAscending (instants ascending : List ℤ) : Type 0 where
  pub exact : (instant : ℤ) → Contains ascending instant ↔ Contains instants instant
  pub order : AllPairs ◌<ℤ◌ ascending

-- a property that lists these texts, with commas between; none where there are none
abbrev pub list_lines : List ℕ → List (List ℕ) → List (List ℕ)
list_lines name [] = []
list_lines name (text ∷ texts) = (name ++ codes ":" ++ text ++ flat_map (λ other. codes "," ++ other) texts) ∷ []

-- a property that lists these instants, each as it is written so
pub record WritesTimes (Writes : List ℕ → ℤ → Type 0) (name : List ℕ) (instants : List ℤ) (lines : List (List ℕ)) : Type 0 where
  pub ascending : List ℤ
  pub are : AreAscending instants ascending
  pub texts : List (List ℕ)
  pub each : AllZip Writes texts ascending
  pub is : lines ≡ list_lines name texts

-- the time has this form
abbrev pub is_of_form : Form → Time → Bool
is_of_form Fixed time = is_fixed time.form
is_of_form Floating time = is_floating time.form
is_of_form WholeDay time = is_whole_day time.form

-- the instants of the times of one form
abbrev pub instants_in : Form → List Time → List ℤ
instants_in form times = instants_of (filter (is_of_form form) times)

-- a property that lists these times, in up to three lines: in UTC, without zone, and as dates
pub record WritesListed (name : List ℕ) (times : List Time) (lines : List (List ℕ)) : Type 0 where
  pub fixed : List (List ℕ)
  pub floating : List (List ℕ)
  pub days : List (List ℕ)
  pub in_utc : WritesTimes WritesStamp name (instants_in Fixed times) fixed
  pub local : WritesTimes WritesLocal name (instants_in Floating times) floating
  pub dates : WritesTimes SpellsMidnight (name ++ codes ";VALUE=DATE") (instants_in WholeDay times) days
  pub are : lines ≡ fixed ++ floating ++ days

-- the instant is where a start may be
abbrev pub is_in_dates : ℤ → Bool
is_in_dates instant = lt_z instant horizon && not (lt_z instant first_second)

-- the time may take a start away: a fixed one where a start may be; of the others each is kept, as it depends on a zone where they are
abbrev pub may_take : Time → Bool
may_take time = not (is_fixed time.form) || is_in_dates time.instant

-- the text of UNTIL beside a fixed start: a date, or a UTC time, also of a local time, by what that means on these clocks (RFC 5545 3.3.10).
-- That a date may occur beside a DTSTART that is a DATE-TIME is this profile's choice
abbrev pub WritesFixedEnd : Zone → Until → List ℕ → Type 0
WritesFixedEnd clock (UntilDay number) text = SpellsDate text number
WritesFixedEnd clock (UntilLocal local) text = (instant : ℤ) × Means clock local instant × WritesStamp text (as_end instant)
WritesFixedEnd clock (UntilInstant instant) text = WritesStamp text (as_end instant)

-- the date of a day
abbrev pub WritesDay : ℕ → List ℕ → Type 0
WritesDay day text = (number : ℤ) × SpellsDate text number × (day ≡ day_index number)

-- beside one that isn't fixed: the date of the last day that it allows
abbrev pub WritesEnd : Form → Zone → ℕ → Until → List ℕ → Type 0
WritesEnd Fixed clock last until text = WritesFixedEnd clock until text
WritesEnd Floating clock last until text = WritesDay last text
WritesEnd WholeDay clock last until text = WritesDay last text

-- the RRULE of an event whose start has this form, on these clocks, where it has a rule
abbrev pub WritesRule : Form → Zone → Option Rule → List (List ℕ) → Type 0
WritesRule form clock None lines = lines ≡ []
WritesRule form clock (Some rule) lines =
    (end : Option (List ℕ)) × BothOrNeither (WritesEnd form clock rule.last) rule.until end
    × (lines ≡ (codes "RRULE:" ++ rule_text (text_in rule) end) ∷ [])

-- what says when an event is, in its one form: the lines of its VEVENT, unfolded and without line ends, where a zone is named `Z`; and the octets
-- of the VTIMEZONE after its TZID, where there is a zone
pub record Content : Type 0 where
  pub lines : List (List ℕ)
  pub zone : Option (List ℕ)

-- that of what isn't to take place
abbrev pub no_content : Content
no_content = record { lines = []; zone = None }

-- the octets of a zone's VTIMEZONE after its TZID
abbrev pub IsZoneRest : Zone → List ℕ → Type 0
IsZoneRest zone rest = (parts : List (List ℕ)) × WritesParts parts zone × (rest ≡ written (parts ++ codes "END:VTIMEZONE" ∷ []))

-- the VTIMEZONE with these after its TZID, under a name that needs no escapes
abbrev pub zone_text : List ℕ → List ℕ → List ℕ
zone_text name rest = written (codes "BEGIN:VTIMEZONE" ∷ (codes "TZID:" ++ name) ∷ []) ++ rest

-- the content of an event: DTSTART, DURATION, RRULE, RDATE and EXDATE, and its zone
pub record IsContent (content : Content) (event : EventComponent) : Type 0 where
  pub start : List ℕ
  pub starts : StartsIn event.times.form event.times.zone event.times start
  pub rule : List (List ℕ)
  pub recurs : WritesRule event.times.form (clock_of event.times.zone) event.rule rule
  pub additions : List (List ℕ)
  pub adds : WritesListed (codes "RDATE") event.written.additions additions
  pub exceptions : List (List ℕ)
  pub takes : WritesListed (codes "EXDATE") (filter may_take event.written.exceptions) exceptions
  pub are : content.lines ≡ start ∷ (codes "DURATION:" ++ duration_text event.times.length.days event.times.length.seconds)
      ∷ (rule ++ (additions ++ exceptions))
  pub in_zone : BothOrNeither IsZoneRest event.times.zone content.zone

-- the octets of a content: its lines, each ended by CRLF, and then its zone as it is written, no line of which is long enough to be folded.
-- Two bodies are one where these octets are equal, so a day and 24 hours are two; this profile's choice
abbrev pub canonical : Content → List ℕ
canonical content = flat_map (λ line. line ++ codes "\r\n") content.lines ++ unwrap_or (option_map (zone_text (codes "Z")) content.zone) []

-- an ATTENDEE line of the event has the room's address
abbrev pub names_room : List ℕ → EventComponent → Bool
names_room room event = list_any (λ a. bytes_eq a.address room) event.attendees

abbrev pub is_cancel : Method → Bool
is_cancel Store = false
is_cancel Request = false
is_cancel Add = false
is_cancel Cancel = true
is_cancel Reply = false
is_cancel Refresh = false

abbrev pub is_add : Method → Bool
is_add Store = false
is_add Request = false
is_add Add = true
is_add Cancel = false
is_add Reply = false
is_add Refresh = false

-- the event of such a message isn't to take place: METHOD is CANCEL, or STATUS is CANCELLED (RFC 5546 3.2.5, RFC 5545 3.8.1.11)
abbrev pub cancels : Method → EventComponent → Bool
cancels method event = is_cancel method || event.cancelled

-- the event names the room as ATTENDEE. That a CANCEL without ATTENDEE is for each room is this profile's choice
abbrev pub is_for : List ℕ → Method → EventComponent → Bool
is_for room method event = names_room room event || (is_cancel method && (length event.attendees == 0))

-- the message is addressed to the room: it is one to rooms, and one of its events is for this one
abbrev pub is_addressed : List ℕ → Message → Bool
is_addressed room message = is_to_rooms message.method && list_any (is_for room message.method) message.events

-- the events that are parts for a room that the message is addressed to: of a CANCEL those that are for it, of another message each
abbrev pub is_part_for : List ℕ → Method → EventComponent → Bool
is_part_for room Store event = true
is_part_for room Request event = true
is_part_for room Add event = true
is_part_for room Cancel event = is_for room Cancel event
is_part_for room Reply event = true
is_part_for room Refresh event = true

abbrev pub parts_for : List ℕ → Message → List EventComponent
parts_for room message = if is_addressed room message then filter (is_part_for room message.method) message.events else []

-- the instance that an event is for, else the whole meeting (RFC 5545 3.8.4.4)
abbrev pub slot_named : Option ℤ → Slot
slot_named None = Whole
slot_named (Some instant) = At instant

abbrev pub slot_of : EventComponent → Slot
slot_of event = slot_named event.recurrence

-- SEQUENCE and DTSTAMP, which is in each VEVENT of a message
abbrev pub own_revision : EventComponent → Revision
own_revision event = record { sequence = event.sequence; stamp = unwrap_or event.stamp (pos 0) }

-- the later of two revisions
abbrev pub later_of : Revision → Revision → Revision
later_of a b = if is_lt (revision_cmp a b) then b else a

-- the revision of an event's part: its own, or that of the whole meeting in its message, if that is later; this profile's choice
abbrev pub raised_to : Option Revision → Revision → Revision
raised_to None own = own
raised_to (Some whole) own = later_of own whole

abbrev pub revision_beside : Option EventComponent → EventComponent → Revision
revision_beside whole event = raised_to (option_map own_revision whole) (own_revision event)

-- what an event of such a message makes of its slot for a room: it cancels it, or sets it to this content, which says when it is, or is not
-- for this room
abbrev pub IsBody : List ℕ → Method → EventComponent → Content → Body → Type 0
IsBody room method event content (Set octets) =
    (cancels method event ≡ false) × (names_room room event ≡ true) × IsContent content event × (octets ≡ canonical content)
IsBody room method event content Absent = (cancels method event ≡ false) × (names_room room event ≡ false) × (content ≡ no_content)
IsBody room method event content Cancelled = (cancels method event ≡ true) × (content ≡ no_content)

-- the slot of an event in a room of this zone
abbrev pub IsSlotIn : Option Zone → EventComponent → Slot → Type 0
IsSlotIn zone event slot = (instant : Option ℤ) × BothOrNeither (IsAt zone) event.written.recurrence instant × (slot ≡ slot_named instant)

-- the part that an event of a message is for a room of this zone, with this content
pub record IsPart (room : List ℕ) (zone : Option Zone) (message : Message) (event : EventComponent) (content : Content) (part : Part) : Type 0 where
  pub organiser : event.organiser ≡ Some part.organiser
  pub uid : part.uid ≡ event.uid
  pub slot : IsSlotIn zone event part.slot
  pub revision : part.revision ≡ revision_beside (master_in message.events) event
  pub body : IsBody room message.method event content part.body

-- these are of all what has the greatest part of each slot, by their slots: the whole first, and then by instant. Two events of a message may have
-- one slot in a room, where one names it in UTC and the other on the room's clocks; this profile's choice
pub record AreGreatest {Of : Type 0} (part : Of → Part) (all kept : List Of) : Type 0 where
  pub among : (one : Of) → Contains kept one → Contains all one
  pub greatest : (one : Of) → Contains all one
      → (other : Of) × Contains kept other × ((part other).slot ≡ (part one).slot) × (is_le (part_cmp (part one) (part other)) ≡ true)
  pub order : AllPairs (λ a b. slot_cmp (part a).slot (part b).slot ≡ Less) kept

-- the parts that a message has for a room of this zone, by their slots; none where it isn't addressed to it
pub record AreParts (room : List ℕ) (zone : Option Zone) (message : Message) (parts : List Part) : Type 0 where
  pub all : List Part
  pub each : AllZip (λ event part. (content : Content) × IsPart room zone message event content part) (parts_for room message) all
  pub are : AreGreatest (λ part. part) all parts

-- ---- replies and refreshes

-- what a room decided
pub data Outcome : Type 0 where
  Accept : Outcome
  -- two instances, the lesser first, and an instant in both
  Busy : Key → Key → ℤ → Outcome
  SeriesLimit : Outcome
  SinglesLimit : Outcome

-- letters, digits and `-._~@:` are written as themselves in a word of a status
abbrev pub is_word_octet : ℕ → Bool
is_word_octet c =
    is_ascii_alphabetic c || is_ascii_digit c || (c == 45) || (c == 46) || (c == 95) || (c == 126) || (c == 64) || (c == 58)

-- the upper case hexadecimal digit of a number below 16
abbrev pub hexadecimal : ℕ → ℕ
hexadecimal n = if nat_lt n 10 then 48 + n else 55 + n

-- each other octet is `%` and two hexadecimal digits
abbrev pub word_octet : ℕ → List ℕ
word_octet c = if is_word_octet c then c ∷ [] else 37 ∷ hexadecimal (c / 16) ∷ hexadecimal (c % 16) ∷ []

-- a word of a status: this profile's own form
abbrev pub word : List ℕ → List ℕ
word = flat_map word_octet

-- a key in three words: slot, organiser, UID
pub record IsKeyText (text : List ℕ) (key : Key) : Type 0 where
  pub slot : List ℕ
  pub written : WritesStamp slot key.slot
  pub is : text ≡ slot ++ codes " " ++ word key.organiser ++ codes " " ++ word key.uid

-- the lines that report an outcome (RFC 5545 3.8.8.3, RFC 5546 3.6): a status, or for a limit a line of this profile's own. The seven
-- words after the status 4.1 are this profile's own too
abbrev pub TellsOutcome : Outcome → List (List ℕ) → Type 0
TellsOutcome Accept lines = lines ≡ codes "REQUEST-STATUS:2.0;Success" ∷ []
TellsOutcome (Busy a b t) lines =
    (instant : List ℕ) × (first : List ℕ) × (second : List ℕ) × WritesStamp instant t × IsKeyText first a × IsKeyText second b
    × (lines ≡ (codes "REQUEST-STATUS:4.1;Event conflict.  Date-time is busy.;" ++ instant ++ codes " " ++ first ++ codes " " ++ second) ∷ [])
TellsOutcome SeriesLimit lines = lines ≡ codes "X-ROOM-LIMIT:SERIES" ∷ []
TellsOutcome SinglesLimit lines = lines ≡ codes "X-ROOM-LIMIT:SINGLES" ∷ []

abbrev pub partstat : Outcome → List ℕ
partstat Accept = codes "ACCEPTED"
partstat (Busy a b t) = codes "DECLINED"
partstat SeriesLimit = codes "DECLINED"
partstat SinglesLimit = codes "DECLINED"

-- RECURRENCE-ID, only for one instance, in UTC
abbrev pub TellsSlot : Slot → List (List ℕ) → Type 0
TellsSlot Whole lines = lines ≡ []
TellsSlot (At t) lines = (text : List ℕ) × WritesStamp text t × (lines ≡ (codes "RECURRENCE-ID:" ++ text) ∷ [])

-- the VEVENT of a reply: the room's answer to a part, decided at a moment (RFC 5546 3.2.3)
pub record IsReplyEvent (room : List ℕ) (part : Part) (moment : ℤ) (outcome : Outcome) (lines : List (List ℕ)) : Type 0 where
  pub slot : List (List ℕ)
  pub stamp : List ℕ
  pub status : List (List ℕ)
  pub tells_slot : TellsSlot part.slot slot
  pub tells_moment : WritesStamp stamp moment
  pub tells_outcome : TellsOutcome outcome status
  pub is : lines ≡ (codes "BEGIN:VEVENT" ∷ (codes "UID:" ++ escaped part.uid) ∷ slot)
      ++ ((codes "SEQUENCE:" ++ decimal part.revision.sequence) ∷ (codes "DTSTAMP:" ++ stamp) ∷ (codes "ORGANIZER:" ++ part.organiser)
      ∷ (codes "ATTENDEE;PARTSTAT=" ++ partstat outcome ++ codes ":" ++ room) ∷ status)
      ++ (codes "END:VEVENT" ∷ [])

-- the VEVENT of a REFRESH, by which a room asks for a meeting, at a moment (RFC 5546 3.2.6)
pub record IsRefreshEvent (room organiser uid : List ℕ) (moment : ℤ) (lines : List (List ℕ)) : Type 0 where
  pub stamp : List ℕ
  pub tells_moment : WritesStamp stamp moment
  pub is : lines ≡ codes "BEGIN:VEVENT" ∷ (codes "UID:" ++ escaped uid) ∷ (codes "DTSTAMP:" ++ stamp) ∷ (codes "ORGANIZER:" ++ organiser)
      ∷ (codes "ATTENDEE:" ++ room) ∷ codes "END:VEVENT" ∷ []

-- the METHOD line, where there is one
abbrev pub method_lines : Option (List ℕ) → List (List ℕ)
method_lines None = []
method_lines (Some method) = (codes "METHOD:" ++ method) ∷ []

-- the lines that open an object with this METHOD, or with none
abbrev pub opening_lines : Option (List ℕ) → List (List ℕ)
opening_lines method = codes "BEGIN:VCALENDAR" ∷ codes "VERSION:2.0" ∷ codes "PRODID:-//iTIP room box//EN" ∷ method_lines method

-- the lines of the object, around some components
abbrev pub object_lines : Option (List ℕ) → List (List ℕ) → List (List ℕ)
object_lines method components = opening_lines method ++ components ++ (codes "END:VCALENDAR" ∷ [])
