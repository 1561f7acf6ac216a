-- What the worlds of schedules are, and what a step does to one.
use Rattle.std.specs.Prelude.{◌≡◌, ◌⊎◌, ℕ, ℤ, List, ◌++◌, map, false, Contains}
use Rattle.ical_values.specs.Octets.{address_octets}
use Rattle.ical_values.specs.declared.address.Address.{Address}
use Rattle.itip_messages.specs.Message.{RepresentsMessage}
use Rattle.itip_messages.specs.declared.message.Message.{Message}
use Rattle.profile.specs.events.Messages as profile
use Rattle.profile.specs.streams.Streams.{Hosted, HostedOrganiser, ObjectFault}
use Rattle.profile.specs.streams.Worlds as worlds
use Rattle.profile.specs.streams.Worlds.{IsRefusedBy, IsWorldStep, OrganiserSends, Plays, Storing, Delivering, has_organiser, new_world}
use Rattle.organiser_books.specs.declared.organiser.Organiser.{Organiser}
use Rattle.room_books.specs.declared.room.Room.{Room}
use Rattle.sched_box.specs.Answering.{AreHosted, IsHosted, octets_each}
use Rattle.sched_box.specs.Organising.{AreKeptBy, IsKeptBy}
use Rattle.sched_box.specs.Settings.{zoned_room}
use Rattle.sched_box.specs.declared.settings.ZonedRoom.{ZonedRoom}
use Rattle.sched_box.specs.declared.schedules.Step.{Step}
use Rattle.sched_box.specs.declared.schedules.Step.TheVariants.{Store, Deliver}
use Rattle.sched_box.specs.declared.schedules.World.{World}

-- what a step says
abbrev pub step_said : Step → worlds.Step
step_said (Store organiser object now) = Storing (address_octets organiser) object.items now
step_said (Deliver message to now) = Delivering message (address_octets to) now

-- the world has these hosts, with what they keep, and has sent these messages
pub record IsWorldOf (world : World) (said : worlds.World) : Type 0 where
  pub rooms : AreHosted world.rooms.rooms.items said.rooms
  pub organisers : AreKeptBy world.organisers.organisers.items said.organisers
  pub sent : said.sent ≡ octets_each world.sent.items

-- these steps, in order, lead there from a new world of these addresses
abbrev pub PlaysTo : List ZonedRoom → List Address → List Step → worlds.World → Type 0
PlaysTo rooms organisers steps after = Plays (map step_said steps) (new_world (map zoned_room rooms) (map address_octets organisers)) after

-- the world is one that they lead to
pub record IsPlayed (rooms : List ZonedRoom) (organisers : List Address) (steps : List Step) (world : World) : Type 0 where
  pub after : worlds.World
  pub plays : PlaysTo rooms organisers steps after
  pub is : IsWorldOf world after

-- ---- what is looked up

-- the room is one that the world hosts, of this address
pub record IsRoomOf (address : List ℕ) (room : Room) (said : worlds.World) : Type 0 where
  pub hosted : Hosted
  pub among : Contains said.rooms hosted
  pub at : hosted.address ≡ address
  pub is : IsHosted room hosted

pub record IsOrganiserOf (address : List ℕ) (organiser : Organiser) (said : worlds.World) : Type 0 where
  pub hosted : HostedOrganiser
  pub among : Contains said.organisers hosted
  pub at : hosted.address ≡ address
  pub is : IsKeptBy organiser hosted

-- ---- one step, where what is sent isn't among the messages yet

-- the same of a world that has yet to send these
pub record IsWorldWith (world : World) (more : List (List ℕ)) (said : worlds.World) : Type 0 where
  pub rooms : AreHosted world.rooms.rooms.items said.rooms
  pub organisers : AreKeptBy world.organisers.organisers.items said.organisers
  pub sent : said.sent ≡ octets_each world.sent.items ++ more

-- the step leads there, whatever the world is
abbrev pub TakesStep : worlds.Step → World → World → List (List ℕ) → Type 0
TakesStep step old new more = (before : worlds.World) → IsWorldOf old before → (after : worlds.World) × IsWorldWith new more after × IsWorldStep step before after

-- the world after the step sends what comes of it
abbrev pub LeadsOn : worlds.Step → World → World → Type 0
LeadsOn step old new = (before : worlds.World) → IsWorldOf old before → (after : worlds.World) × IsWorldOf new after × IsWorldStep step before after

-- no organiser of this address takes the object
abbrev pub NobodyTakes : List ℕ → profile.Message → worlds.World → Type 0
NobodyTakes to said before = (has_organiser to before ≡ false) ⊎ IsRefusedBy to said before

-- the octets are no message
abbrev pub IsUnread : List ℕ → Type 0
IsUnread octets = (n : ℕ) × ObjectFault n octets

-- the organiser of this address takes the object and sends these, or nothing happens
abbrev pub TellsOrganiser : List ℕ → ℤ → Message → World → World → List (List ℕ) → Type 0
TellsOrganiser to moment object old new more =
    (said : profile.Message) → RepresentsMessage object said → (before : worlds.World) → IsWorldOf old before
    → (after : worlds.World) × IsWorldWith new more after × (OrganiserSends to moment said before after ⊎ (NobodyTakes to said before × (after ≡ before)))
