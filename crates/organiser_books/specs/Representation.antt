-- What an organiser represents: the last stores and what was answered to them, of all that was ever stored and answered.
use Rattle.std.specs.Prelude.{◌≡◌, ◌⊎◌, ℕ, ◌≤◌, nat_lt, Bool, true, false, not, is_some, List, [], ◌∷◌, filter, position, Contains, Option, None, Some}
use Rattle.std.specs.List.{AllZip, list_all, list_any}
use Rattle.std.specs.Map.{lookup, keys_of}
use Rattle.std.specs.Str.{bytes_eq}
use Rattle.std.specs.Ordering.{is_le}
use Rattle.indexmap.specs.IndexMap.{get}
use Rattle.ical_values.specs.Octets.{address_octets, text_octets}
use Rattle.ical_values.specs.declared.text.Text.{Text}
use Rattle.profile.specs.rooms.Revisions.{Slot}
use Rattle.profile.specs.events.EventComponents.{Attendee, Participation, NeedsAction}
use Rattle.profile.specs.organisers.Organisers.{OrganiserBook, Stored, Heard, last_store, answers_store, heard_cmp}
use Rattle.cal_events.specs.Component.{participation_of}
use Rattle.itip_order.specs.Parts.{revision_of, slot_of}
use Rattle.itip_messages.specs.Message.{SaysComponent}
use Rattle.itip_messages.specs.declared.message_component.MessageComponent.{MessageComponent}
use Rattle.organiser_books.specs.declared.answers.AttendeeAnswer.{AttendeeAnswer}
use Rattle.organiser_books.specs.declared.answers.AnswerKey.{AnswerKey}
use Rattle.organiser_books.specs.declared.meeting.StoredMeeting.{StoredMeeting}
use Rattle.organiser_books.specs.declared.organiser.Organiser.{Organiser}
use Rattle.organiser_books.specs.Answers.{same_answer_key, answer_key_at}
use Rattle.organiser_books.specs.Attending.{is_address, is_told, lists_said, AreAttending, attendance_of}

abbrev pub address_of : Organiser → List ℕ
address_of organiser = address_octets organiser.address

-- both are one UID
abbrev pub same_text : Text → Text → Bool
same_text a b = bytes_eq (text_octets a) (text_octets b)

-- ---- answers

-- the answer for a slot by the attendee in a place
abbrev pub answer_at : Option ℕ → Slot → List (AnswerKey × AttendeeAnswer) → Option AttendeeAnswer
answer_at None slot answers = None
answer_at (Some place) slot answers = lookup (same_answer_key (answer_key_at place slot)) answers

-- what a meeting has as an attendee's answer for a slot
abbrev pub answer_in : StoredMeeting → Slot → List ℕ → Option AttendeeAnswer
answer_in meeting slot attendee = answer_at (position (is_address attendee) (keys_of meeting.attending.entries)) slot meeting.answers.entries

-- it is what was heard
pub record IsHeardAnswer (heard : Heard) (answer : AttendeeAnswer) : Type 0 where
  pub stamp : answer.stamp ≡ heard.revision.stamp
  pub status : participation_of answer.status ≡ heard.answer

-- it is the latest of these
pub record IsLatestHeard (all : List Heard) (answer : AttendeeAnswer) : Type 0 where
  pub heard : Heard
  pub among : Contains all heard
  pub is : IsHeardAnswer heard answer
  pub latest : list_all (λ other. is_le (heard_cmp other heard)) all ≡ true

abbrev pub LatestOf : List Heard → Option AttendeeAnswer → Type 0
LatestOf all None = all ≡ []
LatestOf all (Some answer) = IsLatestHeard all answer

-- the meeting has the latest of these answers to a store, for each slot and of each attendee
abbrev pub AreSeen : StoredMeeting → Stored → List Heard → Type 0
AreSeen meeting stored replies =
    (slot : Slot) (attendee : List ℕ) → LatestOf (filter (answers_store stored slot attendee) replies) (answer_in meeting slot attendee)

-- what an answer says, NEEDS-ACTION where there is none
abbrev pub answered : Option AttendeeAnswer → Participation
answered None = NeedsAction
answered (Some answer) = participation_of answer.status

-- ---- what a component of a REPLY says

abbrev pub heard_by : List ℕ → MessageComponent → List Attendee → List Heard
heard_by uid component [] = []
heard_by uid component (attendee ∷ others) =
    record { uid = uid; attendee = attendee.address; slot = slot_of component.slot; revision = revision_of component.revision; answer = attendee.participation } ∷ []

abbrev pub heard_said : List ℕ → MessageComponent → List Heard
heard_said uid component = heard_by uid component component.attendees

-- who speaks in it isn't an attendee of the meeting
abbrev pub is_unknown : StoredMeeting → List Attendee → Bool
is_unknown meeting [] = false
is_unknown meeting (attendee ∷ others) = not (is_some (attendance_of attendee.address meeting.attending.entries))

-- one of these components answers a SEQUENCE that wasn't sent yet
abbrev pub is_ahead : StoredMeeting → List MessageComponent → Bool
is_ahead meeting components = list_any (λ component. nat_lt meeting.revision.sequence component.revision.sequence) components

-- one who isn't an attendee speaks in one of them
abbrev pub is_strange : StoredMeeting → List MessageComponent → Bool
is_strange meeting components = list_any (λ component. is_unknown meeting component.attendees) components

-- what can be wrong with the components of a REPLY: the SEQUENCEs are looked at first
abbrev pub IsReplyFault : StoredMeeting → List MessageComponent → ℕ → Type 0
IsReplyFault meeting components n =
    ((n ≡ 71) × (is_ahead meeting components ≡ true)) ⊎ ((n ≡ 73) × (is_ahead meeting components ≡ false) × (is_strange meeting components ≡ true))

-- ---- meetings

-- the meeting is the last store, and has what was answered to it. No answer was taken that is to a later SEQUENCE
pub record RepresentsStored (meeting : StoredMeeting) (book : OrganiserBook) (stored : Stored) : Type 0 where
  pub revision : revision_of meeting.revision ≡ stored.revision
  pub components : AllZip SaysComponent stored.events meeting.components.items
  pub attending : AreAttending (lists_said stored.events) meeting.attending.entries
  pub object : meeting.object.items ≡ stored.object
  pub told : (address : List ℕ) → is_told address meeting.attending.entries ≡ list_any (bytes_eq address) stored.told
  pub seen : AreSeen meeting stored book.replies
  pub sent : (heard : Heard) → Contains book.replies heard → bytes_eq heard.uid stored.uid ≡ true → heard.revision.sequence ≤ stored.revision.sequence

abbrev pub RepresentsAt : OrganiserBook → List ℕ → Option StoredMeeting → Option Stored → Type 0
RepresentsAt book uid None None = (heard : Heard) → Contains book.replies heard → bytes_eq heard.uid uid ≡ false
RepresentsAt book uid None (Some stored) = ⊥
RepresentsAt book uid (Some meeting) None = ⊥
RepresentsAt book uid (Some meeting) (Some stored) = RepresentsStored meeting book stored

-- the UIDs of these stores are texts
abbrev pub AreTexts : List Stored → Type 0
AreTexts stores = (stored : Stored) → Contains stores stored → (uid : Text) × (text_octets uid ≡ stored.uid)

-- the organiser keeps this book: of each UID the last store. What was stored has UIDs that are text
pub record Keeps (organiser : Organiser) (book : OrganiserBook) : Type 0 where
  pub texts : AreTexts book.stores
  pub each : (uid : Text) → RepresentsAt book (text_octets uid) (get same_text organiser.meetings uid) (last_store (text_octets uid) book)
