-- The invariant of a world: what each sent message says, what each room took and answered, and what each organiser heard. It speaks of the
-- world alone, and not of how the world came about.
-- Behind schedules_hold.
use Rattle.std.specs.Prelude.{◌≡◌, ◌⊎◌, ℕ, ◌<◌, ◌≤◌, ◌^◌, Bool, false, true, List, ◌∷◌, map, Contains, AllPairs, Option, Some, option_map}
use Rattle.std.specs.List.{AllZip}
use Rattle.profile.specs.events.EventComponents.{EventComponent, Accepted, Request, Reply, Store}
use Rattle.profile.specs.events.Messages.{Message, SpellsMessage}
use Rattle.profile.specs.events.Occurrences.{Time}
use Rattle.profile.specs.events.Properties.{Fixed}
use Rattle.profile.specs.organisers.Organisers.{Heard, Stored, heard_in, is_attendee, is_called_off, last_store}
use Rattle.profile.specs.rooms.Kept.{each_once}
use Rattle.profile.specs.rooms.Revisions.{Part}
use Rattle.profile.specs.rooms.Rooms.{Claim, PartAnswer, is_accept, is_set}
use Rattle.profile.specs.series.RoomZones.{IsRoomZone}
use Rattle.profile.specs.series.Zones.{Zone}
use Rattle.profile.specs.streams.Streams.{AreClaims, Hosted, HostedOrganiser, IsReached}
use Rattle.profile.specs.streams.Worlds.{World}
use Rattle.itip_messages.specs.Law.{answer_heard}
use Rattle.itip_messages.specs.SentLaw.{IsSentAs, cancel_message, cancel_part, request_of}

-- ---- a store, and what rooms take of it

-- the organiser of this address made the store of an object that was read, with a SEQUENCE that can be written
pub record IsStoreOf (organiser : List ℕ) (stored : Stored) : Type 0 where
  pub read : List ℕ
  pub said : Message
  pub spells : SpellsMessage read said
  pub store : said.method ≡ Store
  pub of_organiser : said.organiser ≡ organiser
  pub of_uid : stored.uid ≡ said.uid
  pub events : stored.events ≡ said.events
  pub small : stored.revision.sequence < 2 ^ 31

-- it names the instance that it is for by a fixed time, so that it is for the same one in each room; or it is for the whole meeting
pub record IsNamedFixed (event : EventComponent) : Type 0 where
  pub is : event.recurrence ≡ option_map (λ time. time.instant) event.written.recurrence
  pub fixed : (time : Time) → event.written.recurrence ≡ Some time → time.form ≡ Fixed

abbrev pub AreNamedFixed : List EventComponent → Type 0
AreNamedFixed events = (event : EventComponent) → Contains events event → IsNamedFixed event

-- what was made of the store is its REQUEST, and the claim is one that this has for the room of this address and zone
pub record IsClaimOf (organiser : List ℕ) (stored : Stored) (room : List ℕ) (zone : Option Zone) (claim : Claim) : Type 0 where
  pub alive : is_called_off stored.events ≡ false
  pub fixed : AreNamedFixed stored.events
  pub sent : List EventComponent
  pub each : AllZip (IsSentAs stored.revision) stored.events sent
  pub spells : SpellsMessage stored.object (request_of organiser stored.uid sent)
  pub claims : List Claim
  pub are : AreClaims room zone (request_of organiser stored.uid sent) claims
  pub among : Contains claims claim

-- the part is that of the store's CANCEL, for a room that no event of it names, unless all is called off
pub record IsCancelOf (organiser : List ℕ) (stored : Stored) (room : List ℕ) (part : Part) : Type 0 where
  pub is : part ≡ cancel_part organiser stored.uid stored.revision
  pub gone : is_called_off stored.events ≡ false → is_attendee room stored.events ≡ false

-- it holds of a store of this UID by the organiser of this address
pub record OfStore (organisers : List HostedOrganiser) (organiser uid : List ℕ) (Holds : Stored → Type 0) : Type 0 where
  pub host : HostedOrganiser
  pub hosted : Contains organisers host
  pub address : host.address ≡ organiser
  pub stored : Stored
  pub among : Contains host.book.stores stored
  pub of_uid : stored.uid ≡ uid
  pub holds : Holds stored

-- a room took the part from a REQUEST or a CANCEL of a store
abbrev pub IsTakenPart : List HostedOrganiser → List ℕ → Option Zone → Part → Type 0
IsTakenPart organisers room zone part =
    OfStore organisers part.organiser part.uid
    (λ stored. ((claim : Claim) × (claim.part ≡ part) × IsClaimOf part.organiser stored room zone claim) ⊎ IsCancelOf part.organiser stored room part)

-- a room's answer is to a part that it took, which is to take place, of a REQUEST
pub record IsGiven (organisers : List HostedOrganiser) (room : Hosted) (answer : PartAnswer) : Type 0 where
  pub set : is_set answer.claim.part ≡ true
  pub taken : Contains room.book.taken answer.claim.part
  pub of_store : OfStore organisers answer.claim.part.organiser answer.claim.part.uid
      (λ stored. IsClaimOf answer.claim.part.organiser stored room.address room.zone answer.claim)

-- ---- what sent messages say

-- the octets are what was made of a store, which isn't called off, and say its events again
pub record IsRequestOf (octets : List ℕ) (message : Message) (stored : Stored) : Type 0 where
  pub alive : is_called_off stored.events ≡ false
  pub fixed : AreNamedFixed stored.events
  pub object : stored.object ≡ octets
  pub each : AllZip (IsSentAs stored.revision) stored.events message.events

-- a CANCEL of the store, for some whom no event of it names, unless all is called off
pub record IsCancelMessage (message : Message) (stored : Stored) : Type 0 where
  pub called_off : Bool
  pub first : List ℕ
  pub more : List (List ℕ)
  pub is : message ≡ cancel_message message.organiser message.uid stored.revision called_off (first ∷ more)
  pub gone : is_called_off stored.events ≡ false → (room : List ℕ) → Contains (first ∷ more) room → is_attendee room stored.events ≡ false

-- a hosted room gave this answer, to a part of this meeting
pub record IsAnswerHeard (world : World) (organiser uid : List ℕ) (heard : Heard) : Type 0 where
  pub room : Hosted
  pub hosted : Contains world.rooms room
  pub answer : PartAnswer
  pub given : Contains room.book.answers answer
  pub of_organiser : answer.claim.part.organiser ≡ organiser
  pub of_uid : answer.claim.part.uid ≡ uid
  pub is : heard ≡ answer_heard room.address answer.claim.part answer.moment answer.outcome

-- what octets that were sent say
pub data SaysSent (world : World) (octets : List ℕ) (message : Message) : Type 0 where
  a_request : message.method ≡ Request → OfStore world.organisers message.organiser message.uid (IsRequestOf octets message) → SaysSent world octets message
  a_cancel : OfStore world.organisers message.organiser message.uid (IsCancelMessage message) → SaysSent world octets message
  a_reply : message.method ≡ Reply → ((heard : Heard) → Contains (heard_in message.events) heard → IsAnswerHeard world message.organiser message.uid heard)
      → SaysSent world octets message

-- they may be too long to be read
abbrev pub IsSentIn : World → List ℕ → Type 0
IsSentIn world octets = (message : Message) → SpellsMessage octets message → SaysSent world octets message

-- ---- what organisers heard

-- a hosted room accepted a part of this store, which isn't called off, in the slot of what was heard
pub record HasAccepted (organiser : List ℕ) (stored : Stored) (room : Hosted) (heard : Heard) : Type 0 where
  pub answer : PartAnswer
  pub given : Contains room.book.answers answer
  pub of_slot : answer.claim.part.slot ≡ heard.slot
  pub accepted : is_accept answer.outcome ≡ true
  pub of_store : IsClaimOf organiser stored room.address room.zone answer.claim

-- a reply that an organiser took is to a meeting that it stored, of no later SEQUENCE; and one to the last store of it, in which a hosted room
-- accepts, is so
pub record IsHeardBy (world : World) (host : HostedOrganiser) (heard : Heard) : Type 0 where
  pub stored : Stored
  pub last : last_store heard.uid host.book ≡ Some stored
  pub sent : heard.revision.sequence ≤ stored.revision.sequence
  pub accepted : heard.revision.sequence ≡ stored.revision.sequence → (room : Hosted) → Contains world.rooms room → room.address ≡ heard.attendee
      → heard.answer ≡ Accepted → HasAccepted host.address stored room heard

-- ---- the invariant

-- of one meeting a later store has a greater SEQUENCE; the latest comes first
abbrev pub Rises : List Stored → Type 0
Rises stores = AllPairs (λ later earlier. later.uid ≡ earlier.uid → earlier.revision.sequence < later.revision.sequence) stores

pub record IsSound (rooms organisers : List (List ℕ)) (world : World) : Type 0 where
  pub rooms_are : map (λ host. host.address) world.rooms ≡ each_once rooms
  pub in_zones : (room : Hosted) → Contains world.rooms room → IsRoomZone room.words room.zone
  pub organisers_are : map (λ host. host.address) world.organisers ≡ each_once organisers
  pub stores : (host : HostedOrganiser) → Contains world.organisers host → (stored : Stored) → Contains host.book.stores stored → IsStoreOf host.address stored
  pub rises : (host : HostedOrganiser) → Contains world.organisers host → Rises host.book.stores
  pub heard : (host : HostedOrganiser) → Contains world.organisers host → (heard : Heard) → Contains host.book.replies heard → IsHeardBy world host heard
  pub taken : (room : Hosted) → Contains world.rooms room → (part : Part) → Contains room.book.taken part → IsTakenPart world.organisers room.address room.zone part
  pub given : (room : Hosted) → Contains world.rooms room → (answer : PartAnswer) → Contains room.book.answers answer → IsGiven world.organisers room answer
  pub reached : (room : Hosted) → Contains world.rooms room → IsReached room.address room.zone room.book
  pub sent : (octets : List ℕ) → Contains world.sent octets → IsSentIn world octets
