-- What holds in each world that a schedule leads to from a new one: what organisers see is so, and no two instances that they see accepted clash.
-- Nothing is promised of what arrives: a message may be lost, repeated, late or out of order.
use Rattle.std.specs.Prelude.{◌≡◌, ◌↔◌, ℕ, true, List, Contains, Some}
use Rattle.profile.specs.checker.Calendars.{CertificateHolds, IsConfirmedInZone, SpellsCalendar, SpellsCalendarIn}
use Rattle.profile.specs.checker.Instances.{Instance, IsClear}
use Rattle.profile.specs.events.Confirmed.{Confirmed, IsOneOf}
use Rattle.profile.specs.events.EventComponents.{Accepted, Request}
use Rattle.profile.specs.events.Messages.{Message, SpellsMessage}
use Rattle.profile.specs.organisers.Organisers.{IsSeen, IsShown, Stored, last_store}
use Rattle.profile.specs.rooms.Kept.{IsKeptCalendar, IsKeptCertificate}
use Rattle.profile.specs.rooms.Messages.{AreParts}
use Rattle.profile.specs.rooms.Revisions.{Part, Slot, in_view}
use Rattle.profile.specs.rooms.Rooms.{Book, Confirms, PartAnswer, is_accept, is_set}
use Rattle.profile.specs.streams.Streams.{Hosted, HostedOrganiser}
use Rattle.profile.specs.streams.Worlds.{World}

-- ---- what an organiser sees accepted is booked

-- the part is in the view of all that was taken, is to take place, and was accepted
pub record IsBooked (book : Book) (part : Part) : Type 0 where
  pub viewed : in_view book.taken part ≡ true
  pub set : is_set part ≡ true
  pub answer : PartAnswer
  pub given : Contains book.answers answer
  pub to : answer.claim.part ≡ part
  pub accepted : is_accept answer.outcome ≡ true

-- the octets are a REQUEST of this meeting, and the part that it has for the room in this slot is booked there
pub record HasBooked (organiser uid : List ℕ) (room : Hosted) (slot : Slot) (octets : List ℕ) : Type 0 where
  pub message : Message
  pub spells : SpellsMessage octets message
  pub request : message.method ≡ Request
  pub of_organiser : message.organiser ≡ organiser
  pub of_uid : message.uid ≡ uid
  pub parts : List Part
  pub are : AreParts room.address room.zone message parts
  pub part : Part
  pub among : Contains parts part
  pub of_slot : part.slot ≡ slot
  pub booked : IsBooked room.book part

-- of the last store of this meeting: the part that its REQUEST has for the room in this slot is booked there
pub record SeesBooked (organiser : HostedOrganiser) (room : Hosted) (uid : List ℕ) (slot : Slot) : Type 0 where
  pub stored : Stored
  pub last : last_store uid organiser.book ≡ Some stored
  pub has : HasBooked organiser.address uid room slot stored.object

-- Where an organiser sees that a room has accepted, for a slot of a meeting, the part that the last REQUEST of that meeting has for this room in this
-- slot is booked;
abbrev pub SeenIsBooked : World → Type 0
SeenIsBooked world =
    (organiser : HostedOrganiser) (room : Hosted) → Contains world.organisers organiser → Contains world.rooms room
    → (uid : List ℕ) (slot : Slot) → IsSeen organiser.book uid slot room.address (Some Accepted) → SeesBooked organiser room uid slot

-- ---- and what their meetings show is confirmed

-- the octets are the text of one of the organisers' meetings
pub record IsText (world : World) (octets : List ℕ) : Type 0 where
  pub organiser : HostedOrganiser
  pub hosted : Contains world.organisers organiser
  pub uid : List ℕ
  pub shown : IsShown organiser.address organiser.book uid (Some octets)

-- what the text of a meeting, read as a calendar in the zone of a room, confirms for it, the room has confirmed: by its series and its singles, as whether
-- an addition is on a start of the rule is settled where the calendar is read;
abbrev pub ShownIsConfirmed : World → Type 0
ShownIsConfirmed world =
    (room : Hosted) → Contains world.rooms room → (octets : List ℕ) → IsText world octets
    → (calendar : Confirmed) → SpellsCalendarIn room.zone room.address octets calendar
    → (instance : Instance) → IsOneOf calendar instance → Confirms room.book instance

-- an instance that the text of a meeting confirms for the room, in its zone
abbrev pub IsShownFor : World → Hosted → Instance → Type 0
IsShownFor world room instance = (octets : List ℕ) × IsText world octets × IsConfirmedInZone room.zone room.address octets instance

-- so no two instances that all meetings of all organisers show for one room clash;
abbrev pub ShownIsClear : World → Type 0
ShownIsClear world = (room : Hosted) → Contains world.rooms room → IsClear (IsShownFor world room)

-- ---- and each room's kept texts pass

-- the calendar of each room spells exactly what it has confirmed,
abbrev pub KeptTextsSpell : World → Type 0
KeptTextsSpell world =
    (room : Hosted) → Contains world.rooms room → (calendar : List ℕ) → IsKeptCalendar room.address room.words room.book calendar
    → (all : Confirmed) × SpellsCalendar room.address calendar all × ((instance : Instance) → IsOneOf all instance ↔ Confirms room.book instance)

-- and its certificate holds for it
abbrev pub KeptTextsHold : World → Type 0
KeptTextsHold world =
    (room : Hosted) → Contains world.rooms room → (calendar certificate : List ℕ) → IsKeptCalendar room.address room.words room.book calendar
    → IsKeptCertificate room.address calendar certificate → CertificateHolds room.address calendar certificate
