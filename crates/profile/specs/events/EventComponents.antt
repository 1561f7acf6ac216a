-- VEVENTs: what their lines say (RFC 5545 3.6.1). A VEVENT is its content lines here, beside the object that it is in: its times may
-- name a VTIMEZONE of that. What is required depends on the METHOD of the object, where it is a message.
use Rattle.std.specs.Prelude.{◌≡◌, ◌||◌, ℕ, Bool, true, false, not, if◌then◌else◌, List, [], ◌∷◌, map, codes, Option, None, Some, option_map, unwrap_or, ℤ}
use Rattle.std.specs.List.{find, AllZip}
use Rattle.std.specs.Str.{bytes_eq}
use Rattle.profile.specs.text.Lines.{line_value, line_param, is_same_name}
use Rattle.profile.specs.text.Trees.{Tree}
use Rattle.profile.specs.text.Values.{IsUid, unescaped}
use Rattle.profile.specs.events.Properties.{is_of, lines_named, IsStampLine, IsSequenceLine, IsAddressLine, Says, IsUidLine, OccursMoreThanOnce, IsMissing, SomeLine, IsNoStamp, IsNoAddress, IsNoSequence}
use Rattle.profile.specs.series.Rules.{Rule}
use Rattle.profile.specs.events.ZonedTimes.{EventTimes, SaysTimes, EventTimesFault}
use Rattle.profile.specs.events.EventRules.{SaysEventRule, EventRuleFault}
use Rattle.profile.specs.events.Occurrences.{Time, WrittenTimes, SaysStatus, SaysOccurrences, OccurrenceFault}

-- ---- methods

-- what an object asks for: without METHOD that its organiser store a meeting (RFC 4791 4.1); by METHOD that an event take place, that instances be
-- added to one, that it be cancelled; that an attendee's answer be noted, or that a meeting be sent once more (RFC 5546 1.4)
pub data Method : Type 0 where
  Store : Method
  Request : Method
  Add : Method
  Cancel : Method
  Reply : Method
  Refresh : Method

-- ---- what METHOD requires of the properties

-- the properties of a VEVENT that are read, as RFC 5545 3.8 names them
pub data Property : Type 0 where
  UID : Property
  ORGANIZER : Property
  DTSTAMP : Property
  SEQUENCE : Property
  STATUS : Property
  RECURRENCE-ID : Property
  DTSTART : Property
  DTEND : Property
  DURATION : Property
  RRULE : Property
  RDATE : Property
  EXDATE : Property
  ATTENDEE : Property
  SUMMARY : Property

abbrev pub property_name : Property → List ℕ
property_name UID = codes "UID"
property_name ORGANIZER = codes "ORGANIZER"
property_name DTSTAMP = codes "DTSTAMP"
property_name SEQUENCE = codes "SEQUENCE"
property_name STATUS = codes "STATUS"
property_name RECURRENCE-ID = codes "RECURRENCE-ID"
property_name DTSTART = codes "DTSTART"
property_name DTEND = codes "DTEND"
property_name DURATION = codes "DURATION"
property_name RRULE = codes "RRULE"
property_name RDATE = codes "RDATE"
property_name EXDATE = codes "EXDATE"
property_name ATTENDEE = codes "ATTENDEE"
property_name SUMMARY = codes "SUMMARY"

-- all of them
abbrev pub properties : List Property
properties =
    UID ∷ ORGANIZER ∷ DTSTAMP ∷ SEQUENCE ∷ STATUS ∷ RECURRENCE-ID ∷ DTSTART ∷ DTEND ∷ DURATION ∷ RRULE ∷ RDATE ∷ EXDATE ∷ ATTENDEE ∷ SUMMARY ∷ []

-- the line is of this property
abbrev pub is_named_by : List ℕ → Property → Bool
is_named_by line property = is_of (property_name property) line

-- how often a property occurs in a VEVENT: exactly once; at most once; in any number; never; or once or more, each time with the same address
pub data Presence : Type 0 where
  Once : Presence
  AtMostOnce : Presence
  AnyNumber : Presence
  Never : Presence
  OfOne : Presence

-- a VEVENT of an object of this METHOD (RFC 5546 3.2.2 to 3.2.6), of a store (RFC 4791 4.1), or, by None, of one whose METHOD is ignored, as of a
-- calendar (RFC 5545 3.6.1). Who cancels, answers or asks for a meeting need not say when it is; what is added is an instance, which doesn't recur;
-- an attendee speaks of itself alone. This profile's choice: that a calendar may lack DTSTAMP, a REQUEST ATTENDEE, an ADD and a CANCEL SEQUENCE, and
-- a REQUEST and an ADD SUMMARY; that SUMMARY may occur again, and ATTENDEE with one address in a REPLY; and that what a method has no use for, as
-- DTSTART in a REFRESH, may be there. That a store names its ORGANIZER is RFC 6638 3.1
abbrev pub presence : Property → Option Method → Presence
presence UID method = Once
presence ORGANIZER None = AtMostOnce
presence ORGANIZER (Some method) = Once
presence DTSTAMP None = AtMostOnce
presence DTSTAMP (Some method) = Once
presence SEQUENCE method = AtMostOnce
presence STATUS method = AtMostOnce
presence RECURRENCE-ID method = AtMostOnce
presence DTSTART (Some Cancel) = AtMostOnce
presence DTSTART (Some Reply) = AtMostOnce
presence DTSTART (Some Refresh) = AtMostOnce
presence DTSTART _ = Once
presence DTEND method = AtMostOnce
presence DURATION method = AtMostOnce
presence RRULE (Some Add) = Never
presence RRULE _ = AtMostOnce
presence RDATE (Some Add) = Never
presence RDATE _ = AnyNumber
presence EXDATE method = AnyNumber
presence ATTENDEE (Some Reply) = OfOne
presence ATTENDEE (Some Refresh) = OfOne
presence ATTENDEE _ = AnyNumber
presence SUMMARY method = AnyNumber

abbrev pub is_once : Presence → Bool
is_once Once = true
is_once _ = false

abbrev pub is_single : Presence → Bool
is_single Once = true
is_single AtMostOnce = true
is_single _ = false

abbrev pub is_never : Presence → Bool
is_never Never = true
is_never _ = false

abbrev pub is_of_one : Presence → Bool
is_of_one OfOne = true
is_of_one _ = false

-- the property occurs at most once, whatever METHOD is (RFC 5545 3.6.1)
abbrev pub occurs_once : Property → Bool
occurs_once property = is_single (presence property None)

-- DTSTART may be missing
abbrev pub may_lack_start : Option Method → Bool
may_lack_start method = not (is_once (presence DTSTART method))

-- RRULE and RDATE may not occur: each VEVENT is a single instance
abbrev pub bars_recurrence : Option Method → Bool
bars_recurrence method = is_never (presence RRULE method) || is_never (presence RDATE method)

-- RECURRENCE-ID names an instance by a fixed time: in what is stored, and in what is answered
abbrev pub names_by_fixed : Option Method → Bool
names_by_fixed None = false
names_by_fixed (Some Store) = true
names_by_fixed (Some Request) = false
names_by_fixed (Some Add) = false
names_by_fixed (Some Cancel) = false
names_by_fixed (Some Reply) = true
names_by_fixed (Some Refresh) = false

-- ---- METHOD among the lines of a VCALENDAR

-- METHOD occurs exactly once among the lines of a VCALENDAR, and names this word, caseless (RFC 5545 3.7.2)
pub record NamesWord (own : List (List ℕ)) (word : List ℕ) : Type 0 where
  pub line : List ℕ
  pub once : lines_named (codes "METHOD") own ≡ line ∷ []
  pub named : is_same_name (line_value line) word ≡ true

-- ---- attendees

-- what an attendee answered (RFC 5545 3.2.12)
pub data Participation : Type 0 where
  NeedsAction : Participation
  Tentative : Participation
  Accepted : Participation
  Delegated : Participation
  Declined : Participation

-- the answer that a word names, caseless; another word and none mean that there is no answer yet
abbrev pub participation_named : List ℕ → Participation
participation_named word =
    if is_same_name word (codes "ACCEPTED") then Accepted
    else (if is_same_name word (codes "DECLINED") then Declined
    else (if is_same_name word (codes "TENTATIVE") then Tentative
    else (if is_same_name word (codes "DELEGATED") then Delegated else NeedsAction)))

abbrev pub answer_named : Option (List ℕ) → Participation
answer_named word = unwrap_or (option_map participation_named word) NeedsAction

-- SCHEDULE-AGENT leaves it to the server to send messages to the attendee: it is SERVER, caseless, or missing (RFC 6638 7.1)
abbrev pub is_by_server : List ℕ → Bool
is_by_server line = unwrap_or (option_map (λ agent. is_same_name agent (codes "SERVER")) (line_param (codes "SCHEDULE-AGENT") line)) true

-- an attendee: what it answered, and whether the server of its organiser sends it messages
pub record Attendee : Type 0 where
  pub address : List ℕ
  pub participation : Participation
  pub scheduled : Bool

-- an ATTENDEE line (RFC 5545 3.8.4.1)
pub record IsAttendee (line : List ℕ) (attendee : Attendee) : Type 0 where
  pub address : IsAddressLine line attendee.address
  pub participation : attendee.participation ≡ answer_named (line_param (codes "PARTSTAT") line)
  pub scheduled : attendee.scheduled ≡ is_by_server line

-- ---- one event

-- what a VEVENT says; organiser and stamp may be missing in a calendar. Without a rule and additions it happens once. With a recurrence it
-- is that instance of its meeting. Instants are in the order of the text; beside them is how their times are written
pub record EventComponent : Type 0 where
  pub uid : List ℕ
  pub organiser : Option (List ℕ)
  pub stamp : Option ℤ
  pub sequence : ℕ
  pub cancelled : Bool
  pub recurrence : Option ℤ
  pub times : EventTimes
  pub rule : Option Rule
  pub additions : List ℤ
  pub exceptions : List ℤ
  pub written : WrittenTimes
  pub summary : List ℕ
  pub attendees : List Attendee

-- SEQUENCE, 0 where it is missing (RFC 5545 3.8.7.4)
abbrev pub SaysSequence : List (List ℕ) → ℕ → Type 0
SaysSequence lines n = (given : Option ℕ) × Says (codes "SEQUENCE") false IsSequenceLine lines given × (n ≡ unwrap_or given 0)

-- SUMMARY without its escapes, that of the first line where there are several, empty where there is none (RFC 5545 3.8.1.12)
abbrev pub first_text : List (List ℕ) → List ℕ
first_text [] = []
first_text (line ∷ lines) = unescaped (line_value line)

abbrev pub summary_of : List (List ℕ) → List ℕ
summary_of lines = first_text (lines_named (codes "SUMMARY") lines)

-- the instants of times
abbrev pub instants_of : List Time → List ℤ
instants_of = map (λ time. time.instant)

-- the instants of what is written
pub record AreOfWritten (written : WrittenTimes) (recurrence : Option ℤ) (additions exceptions : List ℤ) : Type 0 where
  pub slot : recurrence ≡ option_map (λ time. time.instant) written.recurrence
  pub added : additions ≡ instants_of written.additions
  pub taken : exceptions ≡ instants_of written.exceptions

-- the property is there as METHOD asks, with this value
abbrev pub SaysAs : {V : Type 0} → Option Method → Property → (List ℕ → V → Type 0) → List (List ℕ) → Option V → Type 0
SaysAs method property IsValue lines value = Says (property_name property) (is_once (presence property method)) IsValue lines value

-- the lines of a VEVENT of an object of this METHOD, or of one whose METHOD is ignored, say this event
pub record SaysEventComponent (object : Tree) (method : Option Method) (lines : List (List ℕ)) (event : EventComponent) : Type 0 where
  pub uid : SaysAs method UID IsUidLine lines (Some event.uid)
  pub organiser : SaysAs method ORGANIZER IsAddressLine lines event.organiser
  pub stamp : SaysAs method DTSTAMP IsStampLine lines event.stamp
  pub sequence : SaysSequence lines event.sequence
  pub status : SaysStatus lines event.cancelled
  pub times : SaysTimes (may_lack_start method) object lines event.times
  pub rule : SaysEventRule lines event.times event.rule
  pub occurrences : SaysOccurrences (bars_recurrence method) (names_by_fixed method) object lines event.written
  pub instants : AreOfWritten event.written event.recurrence event.additions event.exceptions
  pub summary : event.summary ≡ summary_of lines
  pub attendees : AllZip IsAttendee (lines_named (property_name ATTENDEE) lines) event.attendees

-- ---- what an event says of its meeting and of a room

-- the attendee of this address answered so; of several lines of one address the first counts
abbrev pub answer_of : List ℕ → EventComponent → Option Participation
answer_of address event = option_map (λ a. a.participation) (find (λ a. bytes_eq a.address address) event.attendees)

abbrev pub is_accepted : Participation → Bool
is_accepted Accepted = true
is_accepted NeedsAction = false
is_accepted Tentative = false
is_accepted Delegated = false
is_accepted Declined = false

-- the room has accepted the event
abbrev pub has_accepted : List ℕ → EventComponent → Bool
has_accepted room event = unwrap_or (option_map is_accepted (answer_of room event)) false

-- the meeting of an event: its organiser, the empty address where it is missing, and its UID
abbrev pub meeting_said : EventComponent → List ℕ × List ℕ
meeting_said event = (unwrap_or event.organiser [], event.uid)

-- ---- what can be wrong with a VEVENT, by the number of its refusal

-- the number of a property that is missing
abbrev pub missing_number : Property → ℕ
missing_number ORGANIZER = 63
missing_number _ = 61

-- a property occurs more often than it may, or is missing where METHOD asks for it
pub data PresenceFault (method : Option Method) (lines : List (List ℕ)) : ℕ → Type 0 where
  twice : (property : Property) → occurs_once property ≡ true → OccursMoreThanOnce (property_name property) lines → PresenceFault method lines 61
  missing : (property : Property) → is_once (presence property method) ≡ true → IsMissing (property_name property) lines
      → PresenceFault method lines (missing_number property)

-- the lines of a VEVENT of an object of this METHOD, or of one whose METHOD is ignored, have the fault of this number
pub data EventComponentFault (object : Tree) (method : Option Method) (lines : List (List ℕ)) : ℕ → Type 0 where
  in_presence : {n : ℕ} → PresenceFault method lines n → EventComponentFault object method lines n
  in_times : {n : ℕ} → EventTimesFault object lines n → EventComponentFault object method lines n
  in_rule : {n : ℕ} → EventRuleFault object lines n → EventComponentFault object method lines n
  in_occurrences : {n : ℕ} → OccurrenceFault (bars_recurrence method) (names_by_fixed method) object lines n → EventComponentFault object method lines n
  bad_stamp : SomeLine (codes "DTSTAMP") (λ line. IsNoStamp (line_value line)) lines → EventComponentFault object method lines 10
  bad_uid : SomeLine (codes "UID") (λ line. IsUid (unescaped (line_value line)) → ⊥) lines → EventComponentFault object method lines 14
  bad_organiser : SomeLine (codes "ORGANIZER") IsNoAddress lines → EventComponentFault object method lines 15
  bad_attendee : SomeLine (codes "ATTENDEE") IsNoAddress lines → EventComponentFault object method lines 15
  bad_sequence : SomeLine (codes "SEQUENCE") IsNoSequence lines → EventComponentFault object method lines 16
