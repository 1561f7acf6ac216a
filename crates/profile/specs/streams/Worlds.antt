-- The world of a schedule: rooms and organisers with their books, and all messages that were ever sent, over a network that may lose, repeat and
-- reorder them. A schedule is a list of steps: loss is a message that isn't delivered, a repeat one that is delivered twice.
use Rattle.std.specs.Prelude.{◌≡◌, ◌≢◌, ◌⊎◌, ℕ, Bool, true, false, List, [], ◌∷◌, ◌++◌, filter, map, not, None, Some, slice_get, Contains, ℤ}
use Rattle.std.specs.List.{list_any}
use Rattle.std.specs.Str.{bytes_eq}
use Rattle.profile.specs.events.EventComponents.{Store}
use Rattle.profile.specs.events.Messages.{Message, SpellsMessage, is_of_attendee, is_to_rooms}
use Rattle.profile.specs.rooms.Kept.{each_once}
use Rattle.profile.specs.organisers.Organisers.{StateFault, empty_organiser}
use Rattle.profile.specs.streams.Streams.{Hosted, HostedOrganiser, ObjectFault, ServesMessage, TakesMessage, ZonedRoom, new_room}

-- the books of all hosts, and the messages sent so far, in the order in which they were written, numbered from 0
pub record World : Type 0 where
  pub rooms : List Hosted
  pub organisers : List HostedOrganiser
  pub sent : List (List ℕ)

-- these rooms; of several of one address the first
abbrev pub rooms_once : List ZonedRoom → List ZonedRoom
rooms_once [] = []
rooms_once (room ∷ rooms) = room ∷ filter (λ other. not (bytes_eq room.address other.address)) (rooms_once rooms)

-- nothing happened yet. An address that is given twice counts once
abbrev pub new_world : List ZonedRoom → List (List ℕ) → World
new_world rooms organisers = record {
  rooms = map new_room (rooms_once rooms);
  organisers = map (λ organiser. record { address = organiser; book = empty_organiser }) (each_once organisers);
  sent = [];
}

-- what happens: an organiser is given an object to store, or a sent message is delivered to an address, whoever it was for; at a moment of the years
-- 1 to 9999
pub data Step : Type 0 where
  Storing : (organiser object : List ℕ) → (moment : ℤ) → Step
  Delivering : (message : ℕ) → (to : List ℕ) → (moment : ℤ) → Step

-- ---- what a step does

-- one of these hosts changes so, and no other
pub record ChangesOne {Host : Type 0} (Changes : Host → Host → Type 0) (before after : List Host) : Type 0 where
  pub ahead : List Host
  pub behind : List Host
  pub old : Host
  pub new : Host
  pub changes : Changes old new
  pub of_these : before ≡ ahead ++ old ∷ behind
  pub to_these : after ≡ ahead ++ new ∷ behind

-- the room of this address takes a message to rooms (RFC 5546 3.2.2, 3.2.4, 3.2.5), and sends these
pub record RoomTakes (to : List ℕ) (moment : ℤ) (message : Message) (sent : List (List ℕ)) (old new : Hosted) : Type 0 where
  pub address : old.address ≡ to
  pub same : new ≡ record old { book = new.book }
  pub for_rooms : is_to_rooms message.method ≡ true
  pub takes : TakesMessage to old.zone moment message old.book new.book sent

-- the organiser of this address, whom the message names, takes it, and sends these
pub record OrganiserTakes (to : List ℕ) (moment : ℤ) (message : Message) (sent : List (List ℕ)) (old new : HostedOrganiser) : Type 0 where
  pub address : old.address ≡ to
  pub same : new.address ≡ old.address
  pub named : message.organiser ≡ to
  pub serves : ServesMessage moment message old.book new.book sent

-- one of the rooms takes the message, and what it sends comes after all that was sent
pub record RoomSends (to : List ℕ) (moment : ℤ) (message : Message) (before after : World) : Type 0 where
  pub sent : List (List ℕ)
  pub takes : ChangesOne (RoomTakes to moment message sent) before.rooms after.rooms
  pub others : after.organisers ≡ before.organisers
  pub adds : after.sent ≡ before.sent ++ sent

-- one of the organisers takes it, and what it sends comes after all that was sent
pub record OrganiserSends (to : List ℕ) (moment : ℤ) (message : Message) (before after : World) : Type 0 where
  pub sent : List (List ℕ)
  pub takes : ChangesOne (OrganiserTakes to moment message sent) before.organisers after.organisers
  pub others : after.rooms ≡ before.rooms
  pub adds : after.sent ≡ before.sent ++ sent

-- a delivery has an effect: a room takes what is for rooms, an organiser what an attendee says
abbrev pub Delivers : (to : List ℕ) → ℤ → Message → World → World → Type 0
Delivers to moment message before after =
    RoomSends to moment message before after
    ⊎ ((is_of_attendee message.method ≡ true) × OrganiserSends to moment message before after)

-- ---- what has no effect

abbrev pub has_room : List ℕ → World → Bool
has_room to world = list_any (λ host. bytes_eq host.address to) world.rooms

abbrev pub has_organiser : List ℕ → World → Bool
has_organiser to world = list_any (λ host. bytes_eq host.address to) world.organisers

-- an organiser of this address would refuse the message: it names another, or has a fault beside what is kept. In a world that a schedule leads to, no
-- two hosts of one kind have one address
pub data IsRefusedBy (to : List ℕ) (message : Message) (world : World) : Type 0 where
  other_organiser : message.organiser ≢ to → IsRefusedBy to message world
  in_state : {n : ℕ} → (host : HostedOrganiser) → Contains world.organisers host → host.address ≡ to → StateFault message host.book n
      → IsRefusedBy to message world

-- giving an organiser an object to store has no effect: the organiser isn't hosted, the object is refused or is no store, or the organiser refuses it
pub data StoresNothing (organiser object : List ℕ) (world : World) : Type 0 where
  nobody : has_organiser organiser world ≡ false → StoresNothing organiser object world
  no_message : {n : ℕ} → ObjectFault n object → StoresNothing organiser object world
  no_store : (message : Message) → SpellsMessage object message → message.method ≢ Store → StoresNothing organiser object world
  refused_store : (message : Message) → SpellsMessage object message → IsRefusedBy organiser message world → StoresNothing organiser object world

-- delivering a message has no effect: no host of the address takes such a message, it is a store, which nobody sends, or the organiser refuses it
pub data HasNoEffect (to : List ℕ) (message : Message) (world : World) : Type 0 where
  no_room : is_to_rooms message.method ≡ true → has_room to world ≡ false → HasNoEffect to message world
  no_organiser : is_to_rooms message.method ≡ false → has_organiser to world ≡ false → HasNoEffect to message world
  a_store : message.method ≡ Store → HasNoEffect to message world
  refused_answer : is_of_attendee message.method ≡ true → IsRefusedBy to message world → HasNoEffect to message world

-- delivering octets has no effect: they are refused, or spell a message that has none
abbrev pub DeliversNothing : (octets to : List ℕ) → World → Type 0
DeliversNothing octets to world =
    ((n : ℕ) × ObjectFault n octets) ⊎ ((message : Message) × SpellsMessage octets message × HasNoEffect to message world)

-- ---- schedules

-- a step of a world: it has its effect, or changes nothing and there is a reason
abbrev pub IsWorldStep : Step → World → World → Type 0
IsWorldStep (Storing organiser object moment) before after =
    ((message : Message) × SpellsMessage object message × (message.method ≡ Store) × OrganiserSends organiser moment message before after)
    ⊎ (StoresNothing organiser object before × (after ≡ before))
IsWorldStep (Delivering number to moment) before after =
    ((octets : List ℕ) × (slice_get before.sent number ≡ Some octets)
    × (((message : Message) × SpellsMessage octets message × Delivers to moment message before after)
    ⊎ (DeliversNothing octets to before × (after ≡ before))))
    ⊎ ((slice_get before.sent number ≡ None) × (after ≡ before))

-- these steps lead from one world to another, in order
abbrev pub Plays : List Step → World → World → Type 0
Plays [] before after = after ≡ before
Plays (step ∷ steps) before after = (mid : World) × IsWorldStep step before mid × Plays steps mid after
