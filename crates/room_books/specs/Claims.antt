-- What the components of a message ask of a room.
use Rattle.std.specs.Prelude.{◌≡◌, ℕ, true, false, List, [], Contains, Option, None}
use Rattle.std.specs.List.{AllZip}
use Rattle.itip_messages.specs.declared.message.Message.{Message}
use Rattle.itip_messages.specs.declared.message_component.MessageComponent.{MessageComponent}
use Rattle.itip_messages.specs.Components.{HasInstances, SaysComponent}
use Rattle.itip_messages.specs.Message.{IsPartFor}
use Rattle.itip_order.specs.Parts.{part_of}
use Rattle.itip_order.specs.declared.part.Part.{Part}
use Rattle.cal_events.specs.InRoom.{AreInstancesIn}
use Rattle.profile.specs.events.EventComponents.{EventComponent}
use Rattle.profile.specs.events.Messages as profile
use Rattle.profile.specs.rooms.Revisions.{Part as Said}
use Rattle.profile.specs.rooms.Rooms.{is_set}
use Rattle.profile.specs.series.Zones.{Zone}
use Rattle.profile.specs.streams.Streams.{AreClaims}
use Rattle.room_books.specs.declared.claim.Claim.{Claim}
use Rattle.room_books.specs.declared.claims.Asked.{Asked}
use Rattle.room_books.specs.declared.meeting.MeetingKey.{MeetingKey}
use Rattle.room_books.specs.Claim.{is_of_whole}
use Rattle.room_books.specs.Taking.{claims_said}
use Rattle.room_books.specs.Room.{AreFitting}
use Rattle.room_books.specs.Meeting.{IsKeyOf}

-- a part asks for the instances that the component has in a room of this zone, if it is to take place
pub record IsAsking (zone : Option Zone) (part : Said) (component : MessageComponent) (asked : Asked) : Type 0 where
  pub set : is_set part ≡ true → (event : EventComponent) → SaysComponent event component → HasInstances event component
      → AreInstancesIn zone event asked.singles.items asked.series
  pub unset : is_set part ≡ false → (asked.singles.items ≡ []) × (asked.series ≡ None)

-- the part that the component is for a room of this zone, and what it asks for
pub record IsAskingIn (room : List ℕ) (zone : Option Zone) (message : Message) (component : MessageComponent) (one : Part × Asked) : Type 0 where
  pub part : IsPartFor room zone message component (part_of one.0)
  pub asks : IsAsking zone (part_of one.0) component one.1

-- the claim of a part that asks for these
pub record IsClaimOf (one : Part × Asked) (claim : Claim) : Type 0 where
  pub part : claim.part ≡ one.0
  pub singles : claim.singles ≡ one.1.singles
  pub series : is_of_whole one.1.series one.0.slot ≡ true → claim.series ≡ one.1.series

abbrev pub AreClaimsOf : List (Part × Asked) → List Claim → Type 0
AreClaimsOf kept claims = AllZip IsClaimOf kept claims

-- these are the claims of the message, of the meeting of any of them
pub record AreClaimed (room : List ℕ) (zone : Option Zone) (said : profile.Message) (claims : List Claim) : Type 0 where
  pub are : AreClaims room zone said (claims_said claims)
  pub fit : (key : MeetingKey) (claim : Claim) → Contains claims claim → IsKeyOf (part_of claim.part).organiser (part_of claim.part).uid key → AreFitting key (claims_said claims)
