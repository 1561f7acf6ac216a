-- What the rooms of a box answer to a message.
use Rattle.std.specs.Prelude.{◌≡◌, ◌⊎◌, ℕ, ℤ, List, [], ◌∷◌, ◌++◌, map, Option, Some, None, Vec, false}
use Rattle.std.specs.List.{AllZip, list_any}
use Rattle.std.specs.Option.{option_to_list}
use Rattle.std.specs.Str.{bytes_eq}
use Rattle.cal_zones.specs.RoomZones.{room_of, words_of}
use Rattle.ical_values.specs.Octets.{address_octets}
use Rattle.itip_messages.specs.Message.{RepresentsMessage}
use Rattle.itip_messages.specs.declared.message.Message.{Message}
use Rattle.profile.specs.events.Messages as profile
use Rattle.profile.specs.streams.Reports.{BecomesThere}
use Rattle.profile.specs.streams.Streams.{Hosted, Takes, TakesMessage, ZonedRoom, new_room}
use Rattle.profile.specs.streams.Worlds as worlds
use Rattle.profile.specs.streams.Worlds.{ChangesOne, rooms_once}
use Rattle.room_books.specs.Room.{Represents, TellsFreed}
use Rattle.room_books.specs.Taking.{refresh_octets, reply_octets}
use Rattle.room_books.specs.declared.answer.Answer.{Answer}
use Rattle.room_books.specs.declared.room.Room.{Room}
use Rattle.sched_box.specs.Journal.{InRoom}

-- the addresses of the rooms, in order
abbrev pub room_addresses : List Room → List (List ℕ)
room_addresses rooms = map (λ room. address_octets room.address) rooms

-- the room has the address and the zone, and represents the book
pub record IsHosted (room : Room) (hosted : Hosted) : Type 0 where
  pub at : hosted.address ≡ address_octets room.address
  pub words : hosted.words ≡ words_of room.zone
  pub zone : hosted.zone ≡ room_of room.zone
  pub represents : Represents room.meetings.entries hosted.book

-- the rooms are what the box keeps
abbrev pub AreHosted : List Room → List Hosted → Type 0
AreHosted rooms box = AllZip IsHosted rooms box

-- empty rooms were made of these, of each address the first, and the addresses are listed in their order
pub record IsMade (rooms : List Room) (listed : List (List ℕ)) (done : List ZonedRoom) : Type 0 where
  pub hosted : AreHosted rooms (map new_room (rooms_once done))
  pub in_order : listed ≡ room_addresses rooms

-- objects, each as its octets
abbrev pub octets_each : {Z : Type 0} → List (Vec ℕ Z) → List (List ℕ)
octets_each objects = map (λ object. object.items) objects

-- what a room's answer sends: a reply, and a refresh after it
abbrev pub sent_by : Answer → List (List ℕ)
sent_by answer = option_to_list (reply_octets answer) ++ option_to_list (refresh_octets answer)

-- a room takes the message and sends these objects, from whatever it represents
abbrev pub RoomSends : ℤ → Message → Room → Room → List (List ℕ) → Type 0
RoomSends moment message old new sent =
    (said : profile.Message) → RepresentsMessage message said → (before : Hosted) → IsHosted old before
    → (after : Hosted) × IsHosted new after × (after ≡ record before { book = after.book })
    × TakesMessage before.address before.zone moment said before.book after.book sent

-- of these rooms that of the address takes it and sends these objects, or none is of it
abbrev pub RoomsSend : List ℕ → ℤ → Message → List Room → List Room → List (List ℕ) → Type 0
RoomsSend to moment message olds news sent =
    (said : profile.Message) → RepresentsMessage message said → (before : List Hosted) → AreHosted olds before
    → (after : List Hosted) × AreHosted news after
    × (ChangesOne (worlds.RoomTakes to moment said sent) before after
    ⊎ ((list_any (λ host. bytes_eq host.address to) before ≡ false) × (after ≡ before) × (sent ≡ [])))

-- a room takes the message and answers these octets, from whatever it represents, and this became of it there
abbrev pub RoomTakes : ℤ → Message → Room → Room → List ℕ → InRoom → Type 0
RoomTakes moment message old new octets one =
    (said : profile.Message) → RepresentsMessage message said → (before : Hosted) → IsHosted old before
    → (after : Hosted) × IsHosted new after × Takes moment said before after octets × BecomesThere moment said before after one.kind
    × TellsFreed one.kind one.frees before.book after.book

-- each room takes it in turn; their answers follow one another, and so does what became of it
abbrev pub RoomsTake : ℤ → Message → List Room → List Room → List ℕ → List InRoom → Type 0
RoomsTake moment message [] [] octets all = (octets ≡ []) × (all ≡ [])
RoomsTake moment message (old ∷ olds) (new ∷ news) octets all =
    (first : List ℕ) × (rest : List ℕ) × (one : InRoom) × (others : List InRoom) × (octets ≡ first ++ rest) × (all ≡ one ∷ others)
    × (new.address ≡ old.address) × RoomTakes moment message old new first one × RoomsTake moment message olds news rest others
RoomsTake moment message _ _ octets all = ⊥

-- of each room it is told whether it was freed
abbrev pub AllTell : List InRoom → List Hosted → List Hosted → Type 0
AllTell [] [] [] = Unit {0}
AllTell (one ∷ all) (before ∷ befores) (after ∷ afters) = TellsFreed one.kind one.frees before.book after.book × AllTell all befores afters
AllTell all _ _ = ⊥

-- what is sent of an object, if there is one
abbrev pub sent_octets : Option (List ℕ) → List ℕ
sent_octets None = []
sent_octets (Some octets) = octets
