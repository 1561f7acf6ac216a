-- The organiser machine: what an organiser keeps, and one step of it, as the server of RFC 6638 does it (3.2.1, 3.2.5, 3.2.8, 4.2).
use Rattle.std.specs.Prelude.{◌≡◌, ℕ, ◌+◌, ◌<◌, Bool, true, false, not, ◌&&◌, ◌==◌, if◌then◌else◌, max, nat_lt, Contains, AllPairs, List, [], ◌∷◌, ◌++◌, map, filter, codes, Option, Some, None, ℤ}
use Rattle.std.specs.List.{flat_map, list_any, list_all, find, AllZip, concat}
use Rattle.std.specs.Str.{bytes_eq}
use Rattle.std.specs.Ordering.{is_eq, is_le, nat_cmp, int_cmp, ordering_then}
use Rattle.std.specs.declared.cmp.Ordering.{Ordering}
use Rattle.std.specs.declared.cmp.Ordering.TheVariants.{Less}
use Rattle.std.specs.Cmp.Lexicographic.{slice_cmp}
use Rattle.profile.specs.events.EventComponents.{Store, Reply, Participation, NeedsAction, Tentative, Accepted, Delegated, Declined, Attendee, EventComponent}
use Rattle.profile.specs.events.Events.{is_master}
use Rattle.profile.specs.rooms.Revisions.{Slot, Revision, slot_cmp}
use Rattle.profile.specs.rooms.Messages.{slot_of, own_revision, names_room}
use Rattle.profile.specs.rooms.Kept.{each_once}
use Rattle.profile.specs.events.Messages.{Message, counted, is_of_attendee}
use Rattle.profile.specs.organisers.Sent.{IsRequest, IsCancel, IsMeetingText}

-- ---- what an organiser keeps

-- a meeting as it was stored: its events in the order of the text, SEQUENCE and DTSTAMP of what was sent, the octets that were made of it: its
-- REQUEST, or its CANCEL where it was called off; and those of its attendees whom this store sent a message
pub record Stored : Type 0 where
  pub uid : List ℕ
  pub events : List EventComponent
  pub revision : Revision
  pub object : List ℕ
  pub told : List (List ℕ)

-- what one VEVENT of a REPLY says: who answers, for which slot of the meeting, to which SEQUENCE and when, and what
pub record Heard : Type 0 where
  pub uid : List ℕ
  pub attendee : List ℕ
  pub slot : Slot
  pub revision : Revision
  pub answer : Participation

-- all stores and all replies that ever came, the latest first
pub record OrganiserBook : Type 0 where
  pub stores : List Stored
  pub replies : List Heard

-- nothing was stored
abbrev pub empty_organiser : OrganiserBook
empty_organiser = record { stores = []; replies = [] }

-- the last store of this UID
abbrev pub last_store : List ℕ → OrganiserBook → Option Stored
last_store uid book = find (λ stored. bytes_eq stored.uid uid) book.stores

abbrev pub last_events : Option Stored → List EventComponent
last_events None = []
last_events (Some stored) = stored.events

-- ---- its attendees

-- the attendees of these events, each once, in order of first appearance
abbrev pub attendees_of : List EventComponent → List (List ℕ)
attendees_of events = each_once (flat_map (λ event. map (λ attendee. attendee.address) event.attendees) events)

-- the event leaves it to the server to send messages to this address
abbrev pub schedules : List ℕ → EventComponent → Bool
schedules address event = list_any (λ attendee. bytes_eq attendee.address address && attendee.scheduled) (counted event.attendees)

-- those of them for whom one of the events leaves it to the server
abbrev pub left_to_server : List EventComponent → List (List ℕ)
left_to_server events = filter (λ address. list_any (schedules address) events) (attendees_of events)

-- those that the server of this organiser sends messages to: never the organiser itself, which may be an attendee too (RFC 6638 3.2.1)
abbrev pub scheduled_in : List ℕ → List EventComponent → List (List ℕ)
scheduled_in organiser events = filter (λ address. not (bytes_eq address organiser)) (left_to_server events)

-- those of the first that aren't among the second
abbrev pub without : List (List ℕ) → List (List ℕ) → List (List ℕ)
without these others = filter (λ address. not (list_any (bytes_eq address) others)) these

-- the address is an attendee of one of these events
abbrev pub is_attendee : List ℕ → List EventComponent → Bool
is_attendee address events = list_any (names_room address) events

-- ---- a store

-- the whole meeting is cancelled
abbrev pub is_called_off : List EventComponent → Bool
is_called_off events = list_any (λ event. is_master event && event.cancelled) events

-- the greatest SEQUENCE of these events
abbrev pub own_sequence : List EventComponent → ℕ
own_sequence [] = 0
own_sequence (event ∷ events) = max event.sequence (own_sequence events)

-- the SEQUENCE of what is sent: the events' own at first, later greater than that of the last store (RFC 5546 2.1.4, RFC 6638 3.2.5)
abbrev pub sequence_after : Option Stored → List EventComponent → ℕ
sequence_after None events = own_sequence events
sequence_after (Some last) events = max (own_sequence events) (last.revision.sequence + 1)

-- what is sent: the octets of an object, and to whom
pub record Sent : Type 0 where
  pub to : List (List ℕ)
  pub octets : List ℕ

-- such an object is sent to these, and nothing where there is nobody
abbrev pub Sends : (List ℕ → Type 0) → List (List ℕ) → List Sent → Type 0
Sends IsSuch [] sent = sent ≡ []
Sends IsSuch (first ∷ others) sent = (octets : List ℕ) × IsSuch octets × (sent ≡ record { to = first ∷ others; octets = octets } ∷ [])

-- of the attendees whom the server sent messages by the last store, those who get a CANCEL of this one and no REQUEST. Of a meeting that is called
-- off all others get it, also who is left to a client now; else who isn't named any more. One who is still named and left to a client now gets
-- nothing: the client speaks to him, and that CANCEL would take back what the REQUEST, which shows him, brings to a room
abbrev pub gone_from : Bool → List ℕ → List EventComponent → List EventComponent → List (List ℕ)
gone_from true organiser before now = without (scheduled_in organiser before) (scheduled_in organiser now)
gone_from false organiser before now = without (scheduled_in organiser before) (attendees_of now)

-- what is made and sent of what was stored, where these are gone. Of a meeting that is called off each gets the one CANCEL; else those of the
-- meeting get its REQUEST, and those that are gone a CANCEL without STATUS (RFC 6638 3.2.1)
abbrev pub SendsStore : Bool → List ℕ → Stored → List (List ℕ) → List Sent → Type 0
SendsStore true organiser stored gone sent =
    IsCancel organiser stored.uid stored.revision true (scheduled_in organiser stored.events ++ gone) stored.object
    × Sends (λ octets. octets ≡ stored.object) (scheduled_in organiser stored.events ++ gone) sent
SendsStore false organiser stored gone sent =
    (requests : List Sent) × (cancels : List Sent)
    × IsRequest organiser stored.uid stored.revision stored.events stored.object
    × Sends (λ octets. octets ≡ stored.object) (scheduled_in organiser stored.events) requests
    × Sends (IsCancel organiser stored.uid stored.revision false gone) gone cancels × (sent ≡ requests ++ cancels)

-- an object is stored at a moment: the book has it before all others, and this is sent
pub record IsStore (moment : ℤ) (said : Message) (before : OrganiserBook) (sent : List Sent) (after : OrganiserBook) : Type 0 where
  pub stored : Stored
  pub of_meeting : stored.uid ≡ said.uid
  pub events : stored.events ≡ said.events
  pub revision : stored.revision ≡ record { sequence = sequence_after (last_store said.uid before) said.events; stamp = moment }
  pub sends : SendsStore (is_called_off said.events) said.organiser stored
      (gone_from (is_called_off said.events) said.organiser (last_events (last_store said.uid before)) said.events) sent
  pub told : stored.told ≡ filter (λ address. is_attendee address said.events) (flat_map (λ one. one.to) sent)
  pub kept : after ≡ record before { stores = stored ∷ before.stores }

-- ---- a reply

-- what a VEVENT of a REPLY says, by its first ATTENDEE line
abbrev pub heard_of : EventComponent → List Attendee → List Heard
heard_of event [] = []
heard_of event (attendee ∷ others) =
    record { uid = event.uid; attendee = attendee.address; slot = slot_of event; revision = own_revision event; answer = attendee.participation } ∷ []

abbrev pub heard_in : List EventComponent → List Heard
heard_in events = flat_map (λ event. heard_of event event.attendees) events

-- the book after a REPLY
abbrev pub after_reply : Message → OrganiserBook → OrganiserBook
after_reply said book = record book { replies = heard_in said.events ++ book.replies }

-- of two answers at one moment the later one here counts; this profile's choice
abbrev pub rank : Participation → ℕ
rank NeedsAction = 0
rank Tentative = 1
rank Accepted = 2
rank Delegated = 3
rank Declined = 4

-- answers by DTSTAMP, and then by that (RFC 5546 2.1.5)
abbrev pub heard_cmp : Heard → Heard → Ordering
heard_cmp a b = ordering_then (int_cmp a.revision.stamp b.revision.stamp) (nat_cmp (rank a.answer) (rank b.answer))

-- it is this attendee's answer for this slot, to this store and no older one
abbrev pub answers_store : Stored → Slot → List ℕ → Heard → Bool
answers_store stored slot attendee heard =
    bytes_eq heard.uid stored.uid && bytes_eq heard.attendee attendee && is_eq (slot_cmp heard.slot slot)
    && heard.revision.sequence == stored.revision.sequence

-- what was answered by these: as the latest of them says, and NEEDS-ACTION where there is none
abbrev pub IsLatestOf : List Heard → Participation → Type 0
IsLatestOf [] answer = answer ≡ NeedsAction
IsLatestOf (first ∷ others) answer =
    (heard : Heard) × Contains (first ∷ others) heard × (answer ≡ heard.answer)
    × (list_all (λ other. is_le (heard_cmp other heard)) (first ∷ others) ≡ true)

-- what is seen of this attendee's answers to a store
abbrev pub IsSeenOf : OrganiserBook → Stored → Slot → List ℕ → Participation → Type 0
IsSeenOf book stored slot attendee answer = IsLatestOf (filter (answers_store stored slot attendee) book.replies) answer

-- what is seen of this attendee for this slot; None for a meeting that isn't known, and for one who isn't an attendee of it
abbrev pub IsSeen : OrganiserBook → List ℕ → Slot → List ℕ → Option Participation → Type 0
IsSeen book uid slot attendee None =
    (stored : Stored) → last_store uid book ≡ Some stored → is_attendee attendee stored.events ≡ false
IsSeen book uid slot attendee (Some answer) =
    (stored : Stored) × (last_store uid book ≡ Some stored) × (is_attendee attendee stored.events ≡ true)
    × IsSeenOf book stored slot attendee answer

-- ---- what it shows

-- the word of PARTSTAT (RFC 5545 3.2.12)
abbrev pub participation_word : Participation → List ℕ
participation_word NeedsAction = codes "NEEDS-ACTION"
participation_word Tentative = codes "TENTATIVE"
participation_word Accepted = codes "ACCEPTED"
participation_word Delegated = codes "DELEGATED"
participation_word Declined = codes "DECLINED"

-- where it was sent a message (RFC 6638 3.2.9, 7.3)
abbrev pub sent_status : Bool → List ℕ
sent_status sent = if sent then codes ";SCHEDULE-STATUS=1.1" else []

-- the line of an attendee of this slot: what is seen of it, and whether the store sent it a message, be it the REQUEST or a CANCEL
abbrev pub ShowsSeen : OrganiserBook → Stored → Slot → Attendee → List ℕ → Type 0
ShowsSeen book stored slot attendee line =
    (answer : Participation) × IsSeenOf book stored slot attendee.address answer
    × (line ≡ codes "ATTENDEE;PARTSTAT=" ++ participation_word answer
    ++ sent_status (list_any (bytes_eq attendee.address) stored.told) ++ codes ":" ++ attendee.address)

-- the meeting of this UID as it was last sent, with what is seen of its attendees; None for a meeting that isn't known
abbrev pub IsShown : List ℕ → OrganiserBook → List ℕ → Option (List ℕ) → Type 0
IsShown organiser book uid None = last_store uid book ≡ None
IsShown organiser book uid (Some octets) =
    (stored : Stored) × (last_store uid book ≡ Some stored)
    × IsMeetingText None organiser uid stored.revision (ShowsSeen book stored) stored.events octets

-- these are the UIDs of all that was ever stored, each once, by their octets
pub record AreStored (book : OrganiserBook) (uids : List (List ℕ)) : Type 0 where
  pub all : (stored : Stored) → Contains book.stores stored → Contains uids stored.uid
  pub only : (uid : List ℕ) → Contains uids uid → (stored : Stored) × Contains book.stores stored × (stored.uid ≡ uid)
  pub ordered : AllPairs (λ a b. slice_cmp nat_cmp a b ≡ Less) uids

-- these octets are the texts of all its meetings, one after another, by their UIDs
pub record ShowsMeetings (organiser : List ℕ) (book : OrganiserBook) (octets : List ℕ) : Type 0 where
  pub uids : List (List ℕ)
  pub texts : List (List ℕ)
  pub are : AreStored book uids
  pub each : AllZip (λ uid text. IsShown organiser book uid (Some text)) uids texts
  pub is : octets ≡ concat texts

-- ---- what can be wrong with an object beside what the organiser keeps, by the number of its refusal

-- the most that a SEQUENCE may be (RFC 5545 3.8.7.4)
abbrev pub most_sequence : ℕ
most_sequence = 2_147_483_647

pub data StateFault (said : Message) (book : OrganiserBook) : ℕ → Type 0 where
  -- an attendee speaks of a meeting that isn't known, or of a SEQUENCE that wasn't sent yet
  unknown : is_of_attendee said.method ≡ true → last_store said.uid book ≡ None → StateFault said book 71
  ahead : said.method ≡ Reply → (stored : Stored) → last_store said.uid book ≡ Some stored
      → list_any (λ event. nat_lt stored.revision.sequence event.sequence) said.events ≡ true → StateFault said book 71
  -- no greater SEQUENCE is left
  spent : said.method ≡ Store → most_sequence < sequence_after (last_store said.uid book) said.events → StateFault said book 72
  -- one who isn't an attendee of the meeting speaks; in a REPLY the SEQUENCEs are looked at first
  stranger : is_of_attendee said.method ≡ true → (stored : Stored) → last_store said.uid book ≡ Some stored
      → (said.method ≡ Reply → list_any (λ event. nat_lt stored.revision.sequence event.sequence) said.events ≡ false)
      → list_any (λ heard. not (is_attendee heard.attendee stored.events)) (heard_in said.events) ≡ true → StateFault said book 73
