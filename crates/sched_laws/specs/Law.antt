-- The laws of the crates below that the law of schedules rests on, as one value: each is a clause of the public function that it is named after.
use Rattle.std.specs.Prelude.{◌≡◌, ◌↔◌, length, ℕ, ◌<◌, ◌^◌, Bool, false, List, Contains, Option, Some, None}
use Rattle.profile.specs.checker.Calendars.{CertificateHolds, SpellsCalendar}
use Rattle.profile.specs.checker.Instances.{Instance, IsClear}
use Rattle.profile.specs.events.Confirmed.{Confirmed, IsOneOf}
use Rattle.profile.specs.events.EventComponents.{Attendee, EventComponent, Method, SaysEventComponent, Store}
use Rattle.profile.specs.events.Messages.{Message, SpellsMessage}
use Rattle.profile.specs.organisers.Organisers.{OrganiserBook, ShowsSeen, Stored}
use Rattle.profile.specs.organisers.Sent.{IsCancel, IsMeetingText, IsRequest}
use Rattle.profile.specs.rooms.Kept.{IsKeptCalendar, IsKeptCertificate, Replies}
use Rattle.profile.specs.rooms.Messages.{Content, IsContent}
use Rattle.profile.specs.rooms.Revisions.{Revision}
use Rattle.profile.specs.rooms.Rooms.{Book, Claim, Confirms, Delivery, Runs, confirmed_series, confirmed_singles, empty_book, shown}
use Rattle.profile.specs.streams.Streams.{AreClaims, IsDelivered, IsReached, ObjectFault}
use Rattle.profile.specs.series.RoomZones.{IsRoomZone}
use Rattle.profile.specs.series.Zones.{Zone}
use Rattle.profile.specs.text.Lines.{is_too_long}
use Rattle.profile.specs.text.Objects.{SpellsTree}
use Rattle.profile.specs.text.Trees.{Tree}
use Rattle.itip_messages.specs.Law.{AreTextAnswers, SpellsReply}
use Rattle.itip_messages.specs.SentLaw.{IsSentAddress, IsSentName, SpellsRequest, SpellsShownCalendar, cancel_message}

pub record Laws : Type 0 where
  -- one_message
  pub one_message : (octets : List ℕ) (a b : Message) → SpellsMessage octets a → SpellsMessage octets b → a ≡ b
  pub or_a_fault : (octets : List ℕ) (a : Message) (n : ℕ) → SpellsMessage octets a → ObjectFault n octets → ⊥
  -- stored_texts_can_be_sent
  pub name : (stored : List ℕ) (said : Message) (revision : Revision)
      → SpellsMessage stored said → said.method ≡ Store → revision.sequence < 2 ^ 31 → IsSentName said.organiser said.uid revision
  pub attendees : (stored : List ℕ) (said : Message) (event : EventComponent) (attendee : Attendee)
      → SpellsMessage stored said → said.method ≡ Store → Contains said.events event → Contains event.attendees attendee → IsSentAddress attendee.address
  -- cancels_read_back
  pub cancel : (organiser uid : List ℕ) (revision : Revision) (called_off : Bool) (to : List (List ℕ)) (octets : List ℕ)
      → IsSentName organiser uid revision → ((address : List ℕ) → Contains to address → IsSentAddress address)
      → IsCancel organiser uid revision called_off to octets → is_too_long octets ≡ false → SpellsMessage octets (cancel_message organiser uid revision called_off to)
  -- requests_read_back
  pub request : (stored : List ℕ) (said : Message) (revision : Revision) (octets : List ℕ)
      → SpellsMessage stored said → said.method ≡ Store
      → revision.sequence < 2 ^ 31 → IsRequest said.organiser said.uid revision said.events octets → is_too_long octets ≡ false
      → SpellsRequest said.organiser said.uid revision said.events octets
  -- replies_are_heard
  pub reply : (read : List ℕ) (message : Message) (room words : List ℕ) (zone : Option Zone) (book : Book) (claims : List Claim) (octets : List ℕ)
      → SpellsMessage read message → IsRoomZone words zone → AreClaims room zone message claims → AreTextAnswers book
      → Replies room book claims (Some octets) → is_too_long octets ≡ false → SpellsReply room book (shown book.taken claims) octets
  -- shown_reads_back
  pub shown_text : (read : List ℕ) (said : Message) (book : OrganiserBook) (stored : Stored) (octets : List ℕ)
      → SpellsMessage read said → said.method ≡ Store → stored.events ≡ said.events → stored.revision.sequence < 2 ^ 31
      → IsMeetingText None said.organiser said.uid stored.revision (ShowsSeen book stored) stored.events octets → SpellsShownCalendar book stored octets
  -- one_content
  pub content : (read : List ℕ) (said : Message) (event : EventComponent) (a b : Content)
      → SpellsMessage read said → Contains said.events event → IsContent a event → IsContent b event → a ≡ b
  -- one_event
  pub event : (object : Tree) (method : Option Method) (lines : List (List ℕ)) (a b : EventComponent)
      → SaysEventComponent object method lines a → SaysEventComponent object method lines b → a ≡ b
  -- one_tree
  pub tree : (m n : ℕ) (lines : List (List ℕ)) (s t : Tree) → SpellsTree m s lines → SpellsTree n t lines → s ≡ t
  -- runs_stay_clear
  pub clear : (deliveries : List Delivery) (book : Book) → Runs empty_book deliveries book → IsClear (Confirms book)
  -- answers_name_texts
  pub texts : (room : List ℕ) (zone : Option Zone) (book : Book) → IsReached room zone book → AreTextAnswers book
  -- kept_texts_spell
  pub spell : (room words : List ℕ) (zone : Option Zone) (deliveries : List Delivery) (book : Book) (text : List ℕ) → IsRoomZone words zone
      → ((taken : Delivery) → Contains deliveries taken → IsDelivered room zone taken) → Runs empty_book deliveries book
      → IsKeptCalendar room words book text
      → (all : Confirmed) × SpellsCalendar room text all
      × (length all.singles ≡ length (confirmed_singles book)) × (length all.series ≡ length (confirmed_series book))
      × ((booked : Instance) → IsOneOf all booked ↔ Confirms book booked)
  -- kept_texts_pass
  pub kept : (room words : List ℕ) (zone : Option Zone) (book : Book) (calendar : List ℕ) → IsRoomZone words zone → IsReached room zone book
      → IsKeptCalendar room words book calendar → (certificate : List ℕ) → IsKeptCertificate room calendar certificate → CertificateHolds room calendar certificate
