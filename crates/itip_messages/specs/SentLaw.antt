-- What octets that an organiser wrote read back as: the message that they spell, and its parts.
use Rattle.std.specs.Prelude.{◌≡◌, ◌↔◌, Contains, ◌∷◌, ◌++◌, filter, ℕ, ℤ, ◌<◌, ◌^◌, Bool, true, false, List, [], map, Option, Some, None}
use Rattle.std.specs.List.{AllZip}
use Rattle.std.specs.Str.{IsUtf8}
use Rattle.profile.specs.checker.Calendars.{IsCalendarText}
use Rattle.profile.specs.series.Rules.{Rule, is_rule_day}
use Rattle.profile.specs.text.Lines.{reads_as_lines}
use Rattle.profile.specs.series.Zones.{Zone}
use Rattle.profile.specs.text.Trees.{Tree, vevents}
use Rattle.profile.specs.text.Values.{IsUid}
use Rattle.profile.specs.events.EventComponents.{AreOfWritten, Attendee, EventComponent, Participation, Request, Cancel, NeedsAction, SaysEventComponent}
use Rattle.profile.specs.events.Occurrences.{Time}
use Rattle.profile.specs.events.Properties.{Form, Fixed, Floating, WholeDay}
use Rattle.profile.specs.events.Events.{Event, SpellsEvent, is_master, is_override}
use Rattle.profile.specs.events.Messages.{counted, Message, SpellsMessage}
use Rattle.profile.specs.organisers.Organisers.{IsSeenOf, OrganiserBook, Stored}
use Rattle.profile.specs.rooms.Messages.{AreAscending, AreParts, Content, IsContent, instants_in, is_in_dates, may_take, slot_of}
use Rattle.profile.specs.rooms.Revisions.{Part, Slot, Whole, Cancelled, Revision}
use Rattle.itip_messages.specs.Law.{IsReadAddress, IsTextValue, no_times, none_written}

-- ---- texts

-- an address as it is read, in UTF-8
pub record IsSentAddress (text : List ℕ) : Type 0 where
  pub read : IsReadAddress text
  pub utf8 : IsUtf8 text

-- the organiser, the UID and SEQUENCE are such as a message's are read
pub record IsSentName (organiser uid : List ℕ) (revision : Revision) : Type 0 where
  pub address : IsSentAddress organiser
  pub is_uid : IsUid uid
  pub text : IsTextValue uid
  pub small : revision.sequence < 2 ^ 31

-- ---- a CANCEL

-- an attendee of whom a line says no more than the address
abbrev pub attendee_at : List ℕ → Attendee
attendee_at address = record { address = address; participation = NeedsAction; scheduled = true }

-- the event of a CANCEL: whose it is, which revision, whether it is called off, and whom it is for
abbrev pub cancel_event : (organiser uid : List ℕ) → Revision → Bool → List (List ℕ) → EventComponent
cancel_event organiser uid revision called_off to = record {
  uid = uid;
  organiser = Some organiser;
  stamp = Some revision.stamp;
  sequence = revision.sequence;
  cancelled = called_off;
  recurrence = None;
  times = no_times;
  rule = None;
  additions = [];
  exceptions = [];
  written = none_written None;
  summary = [];
  attendees = map attendee_at to;
}

-- the CANCEL of a whole meeting
abbrev pub cancel_message : (organiser uid : List ℕ) → Revision → Bool → List (List ℕ) → Message
cancel_message organiser uid revision called_off to =
    record { method = Cancel; organiser = organiser; uid = uid; events = cancel_event organiser uid revision called_off to ∷ [] }

-- what it says to a room: the whole meeting is cancelled
abbrev pub cancel_part : (organiser uid : List ℕ) → Revision → Part
cancel_part organiser uid revision = record { organiser = organiser; uid = uid; slot = Whole; revision = revision; body = Cancelled }

-- ---- a meeting again

-- both are missing, or both have the same days
abbrev pub IsSameRule : Option Rule → Option Rule → Type 0
IsSameRule None None = Unit {0}
IsSameRule (Some rule) (Some back) = (day : ℕ) → is_rule_day back day ≡ is_rule_day rule day
IsSameRule None (Some back) = ⊥
IsSameRule (Some rule) None = ⊥

-- a time of this form
abbrev pub time_as : Form → ℤ → Time
time_as form instant = record { form = form; instant = instant }

-- those of each form together
abbrev pub times_again : (fixed floating days : List ℤ) → List Time
times_again fixed floating days = map (time_as Fixed) fixed ++ map (time_as Floating) floating ++ map (time_as WholeDay) days

-- the same times by their forms, of each form ascending and each once
pub record AreListedAgain (times again : List Time) : Type 0 where
  pub fixed : List ℤ
  pub floating : List ℤ
  pub days : List ℤ
  pub in_utc : AreAscending (instants_in Fixed times) fixed
  pub local : AreAscending (instants_in Floating times) floating
  pub dates : AreAscending (instants_in WholeDay times) days
  pub are : again ≡ times_again fixed floating days

-- the event that is said of an event of a store, in this revision: what is added and taken away is ascending, and of what is taken away that
-- counts which may be a start; each attendee occurs once, as such a one
pub record IsSaidAgain (IsSuch : Slot → Attendee → Attendee → Type 0) (revision : Revision) (event said : EventComponent) : Type 0 where
  pub uid : said.uid ≡ event.uid
  pub organiser : said.organiser ≡ event.organiser
  pub stamp : said.stamp ≡ Some revision.stamp
  pub sequence : said.sequence ≡ revision.sequence
  pub cancelled : said.cancelled ≡ event.cancelled
  pub recurrence : said.recurrence ≡ event.recurrence
  pub times : said.times ≡ event.times
  pub rule : IsSameRule event.rule said.rule
  pub slot : said.written.recurrence ≡ event.written.recurrence
  pub additions : AreListedAgain event.written.additions said.written.additions
  pub exceptions : AreListedAgain (filter may_take event.written.exceptions) said.written.exceptions
  pub instants : AreOfWritten said.written said.recurrence said.additions said.exceptions
  -- so it adds the same instants, and takes the same away where a start may be
  pub added : (instant : ℤ) → Contains said.additions instant ↔ Contains event.additions instant
  pub taken : (instant : ℤ) → Contains (filter is_in_dates said.exceptions) instant ↔ Contains (filter is_in_dates event.exceptions) instant
  pub summary : said.summary ≡ event.summary
  pub attendees : AllZip (IsSuch (slot_of event)) (counted event.attendees) said.attendees
  -- and the same lines say when both are
  pub content : (content : Content) → IsContent content event ↔ IsContent content said

-- it hasn't answered yet
abbrev pub HasNoAnswer : Slot → Attendee → Attendee → Type 0
HasNoAnswer slot attendee said = said ≡ attendee_at attendee.address

-- as it is sent
abbrev pub IsSentAs : Revision → EventComponent → EventComponent → Type 0
IsSentAs = IsSaidAgain HasNoAnswer

-- the first of these, if there is one
abbrev pub first_of : List EventComponent → Option EventComponent
first_of [] = None
first_of (event ∷ events) = Some event

-- the meeting of these events
abbrev pub meeting_of : List EventComponent → Event
meeting_of events = record { master = first_of (filter is_master events); overrides = filter is_override events }

-- ---- a REQUEST

-- that of a meeting with these events
abbrev pub request_of : (organiser uid : List ℕ) → List EventComponent → Message
request_of organiser uid events = record { method = Request; organiser = organiser; uid = uid; events = events }

-- the event in this revision
abbrev pub revised : Revision → EventComponent → EventComponent
revised revision event = record event { sequence = revision.sequence; stamp = Some revision.stamp }

-- the octets spell the REQUEST of such events, which says to each room what these events say in this revision
pub record SpellsRequest (organiser uid : List ℕ) (revision : Revision) (events : List EventComponent) (octets : List ℕ) : Type 0 where
  pub sent : List EventComponent
  pub each : AllZip (IsSentAs revision) events sent
  pub spells : SpellsMessage octets (request_of organiser uid sent)
  pub parts : (room : List ℕ) (zone : Option Zone) (parts : List Part)
      → AreParts room zone (request_of organiser uid sent) parts ↔ AreParts room zone (request_of organiser uid (map (revised revision) events)) parts

-- ---- what is shown

-- it has answered so, by what is seen of it
abbrev pub HasAnswered : OrganiserBook → Stored → Slot → Attendee → Attendee → Type 0
HasAnswered book stored slot attendee said =
    (answer : Participation) × IsSeenOf book stored slot attendee.address answer
    × (said ≡ record { address = attendee.address; participation = answer; scheduled = true })

-- the octets spell an event with its instances: that of the store, with the answers that are seen
pub record SpellsShown (book : OrganiserBook) (stored : Stored) (octets : List ℕ) : Type 0 where
  pub shown : List EventComponent
  pub each : AllZip (IsSaidAgain (HasAnswered book stored) stored.revision) stored.events shown
  pub spells : SpellsEvent None octets (meeting_of shown)

-- the octets are a calendar whose VEVENTs say, as they are written, the events of the store with the answers that are seen
pub record SpellsShownCalendar (book : OrganiserBook) (stored : Stored) (octets : List ℕ) : Type 0 where
  pub shown : List EventComponent
  pub each : AllZip (IsSaidAgain (HasAnswered book stored) stored.revision) stored.events shown
  pub lines : reads_as_lines false octets ≡ true
  pub tree : Tree
  pub object : IsCalendarText tree octets
  pub says : AllZip (SaysEventComponent tree None) (vevents tree) shown
