-- What the organisers of a box answer to what comes to them.
use Rattle.std.specs.Prelude.{◌≡◌, ℕ, ℤ, List, map}
use Rattle.std.specs.List.{AllZip}
use Rattle.itip_messages.specs.Message.{RepresentsMessage}
use Rattle.itip_messages.specs.declared.message.Message.{Message}
use Rattle.organiser_books.specs.Representation.{Keeps, address_of}
use Rattle.organiser_books.specs.declared.organiser.Organiser.{Organiser}
use Rattle.profile.specs.events.Messages as profile
use Rattle.profile.specs.organisers.Organisers.{OrganiserBook, StateFault, empty_organiser}
use Rattle.profile.specs.streams.Streams.{HostedOrganiser, HostFault, ServesMessage}
use Rattle.profile.specs.streams.Worlds as worlds
use Rattle.profile.specs.streams.Worlds.{ChangesOne}

-- the addresses of the organisers, in order
abbrev pub organiser_addresses : List Organiser → List (List ℕ)
organiser_addresses organisers = map address_of organisers

-- the organiser has the address, and keeps the book
pub record IsKeptBy (organiser : Organiser) (hosted : HostedOrganiser) : Type 0 where
  pub at : hosted.address ≡ address_of organiser
  pub keeps : Keeps organiser hosted.book

-- the organisers are what the box keeps
abbrev pub AreKeptBy : List Organiser → List HostedOrganiser → Type 0
AreKeptBy organisers hosted = AllZip IsKeptBy organisers hosted

-- an organiser of this address that has stored nothing
abbrev pub nothing_kept : List ℕ → HostedOrganiser
nothing_kept address = record { address = address; book = empty_organiser }

-- ---- one organiser, to whom the object is

-- it takes the object and sends these objects, from whatever it keeps
abbrev pub OrganiserTakes : ℤ → Message → Organiser → Organiser → List (List ℕ) → Type 0
OrganiserTakes moment object old new sent =
    (said : profile.Message) → RepresentsMessage object said → said.organiser ≡ address_of old → (book : OrganiserBook) → Keeps old book
    → (after : OrganiserBook) × Keeps new after × ServesMessage moment said book after sent

-- it refuses the object with this number
abbrev pub OrganiserRefuses : Message → Organiser → ℕ → Type 0
OrganiserRefuses object organiser n =
    (said : profile.Message) → RepresentsMessage object said → said.organiser ≡ address_of organiser → (book : OrganiserBook)
    → Keeps organiser book → StateFault said book n

-- what the first keeps, the second does
abbrev pub KeepsBook : Organiser → Organiser → Type 0
KeepsBook old new = (book : OrganiserBook) → Keeps old book → Keeps new book

-- ---- all of them

-- the one that the object names takes it and sends these objects
abbrev pub OrganisersTake : ℤ → Message → List Organiser → List Organiser → List (List ℕ) → Type 0
OrganisersTake moment object olds news sent =
    (said : profile.Message) → RepresentsMessage object said → (before : List HostedOrganiser) → AreKeptBy olds before
    → (after : List HostedOrganiser) × AreKeptBy news after × ChangesOne (worlds.OrganiserTakes said.organiser moment said sent) before after

-- it isn't among them, or refuses the object with this number
abbrev pub OrganisersRefuse : Message → List Organiser → ℕ → Type 0
OrganisersRefuse object organisers n =
    (said : profile.Message) → RepresentsMessage object said → (before : List HostedOrganiser) → AreKeptBy organisers before
    → HostFault said before n

abbrev pub KeepBooks : List Organiser → List Organiser → Type 0
KeepBooks olds news = (before : List HostedOrganiser) → AreKeptBy olds before → AreKeptBy news before
