-- A stream: its preamble, its objects, and what is answered to them by a box, which hosts rooms and organisers. Each object is a message,
-- or what an organiser stores, or is refused.
use Rattle.std.specs.Prelude.{◌≡◌, ◌≢◌, ℕ, ◌+◌, ◌<◌, ◌≤◌, ◌⊎◌, Bool, true, false, IsTrue, List, [], ◌∷◌, ◌++◌, length, map, codes, decimal, None, Option, unwrap_or, ℤ, All, AllPairs, Contains, Some}
use Rattle.std.specs.Option.{option_to_list}
use Rattle.std.specs.List.{find, flat_map, list_any, AllZip}
use Rattle.std.specs.Str.{is_utf8, bytes_eq}
use Rattle.profile.specs.text.Lines.{logical_lines, text_has}
use Rattle.profile.specs.text.Objects.{SpellsTree, most_events, count_inside, has_version, lines_have, is_begun, after_object}
use Rattle.profile.specs.text.Trees.{Tree, tree_own}
use Rattle.profile.specs.events.EventComponents.{Method, Store, Request, Add, Cancel, Reply, Refresh, EventComponent}
use Rattle.profile.specs.events.Confirmed.{AreApart, AreOfRule}
use Rattle.profile.specs.events.Messages.{Message, SpellsMessage, MessageTextFault, is_to_rooms}
use Rattle.profile.specs.events.Placed.{IsPlaced}
use Rattle.profile.specs.rooms.Messages.{IsPart, AreGreatest, parts_for, is_add, Outcome}
use Rattle.profile.specs.rooms.Rooms.{Claim, Book, Delivery, IsStep, Runs, empty_book, is_set}
use Rattle.profile.specs.rooms.Kept.{Replies, Refreshes}
use Rattle.profile.specs.organisers.Organisers.{Stored, OrganiserBook, Sent, IsStore, StateFault, after_reply, empty_organiser, last_store}
use Rattle.profile.specs.series.RoomZones.{IsRoomZone}
use Rattle.profile.specs.series.Zones.{Zone}
use Rattle.profile.specs.text.Values.{SpellsStamp, IsAddress, lower_case}

-- ---- the preamble. The format is roombox's own

-- the address of a room, and its zone, with the words for it
pub record ZonedRoom : Type 0 where
  pub address : List ℕ
  pub words : List ℕ
  pub zone : Option Zone

-- what one line says: the moment of every decision, a room, the zone of a room, or an organiser
pub data Setting : Type 0 where
  Now : ℤ → Setting
  Room : List ℕ → Setting
  InZone : ZonedRoom → Setting
  Organiser : List ℕ → Setting

-- the line is this word, a space and an address
abbrev pub IsHostLine : List ℕ → List ℕ → List ℕ → Type 0
IsHostLine word line address = (text : List ℕ) × (line ≡ word ++ codes " " ++ text) × IsAddress text × (address ≡ lower_case text)

-- the line gives the room of this address this zone, by its words
abbrev pub IsZoneLine : List ℕ → ZonedRoom → Type 0
IsZoneLine line room =
    (text : List ℕ) × (line ≡ codes "zone " ++ text ++ codes " " ++ room.words) × IsAddress text × (room.address ≡ lower_case text)
    × IsRoomZone room.words room.zone

abbrev pub IsSetting : List ℕ → Setting → Type 0
IsSetting line (Now t) = (stamp : List ℕ) × (line ≡ codes "now " ++ stamp) × SpellsStamp stamp t
IsSetting line (Room address) = IsHostLine (codes "room") line address
IsSetting line (InZone room) = IsZoneLine line room
IsSetting line (Organiser address) = IsHostLine (codes "organiser") line address

abbrev pub moments : List Setting → List ℤ
moments [] = []
moments (Now t ∷ rest) = t ∷ moments rest
moments (Room address ∷ rest) = moments rest
moments (InZone room ∷ rest) = moments rest
moments (Organiser address ∷ rest) = moments rest

abbrev pub rooms : List Setting → List (List ℕ)
rooms [] = []
rooms (Now t ∷ rest) = rooms rest
rooms (Room address ∷ rest) = address ∷ rooms rest
rooms (InZone room ∷ rest) = rooms rest
rooms (Organiser address ∷ rest) = rooms rest

abbrev pub zones : List Setting → List ZonedRoom
zones [] = []
zones (Now t ∷ rest) = zones rest
zones (Room address ∷ rest) = zones rest
zones (InZone room ∷ rest) = room ∷ zones rest
zones (Organiser address ∷ rest) = zones rest

abbrev pub organisers : List Setting → List (List ℕ)
organisers [] = []
organisers (Now t ∷ rest) = organisers rest
organisers (Room address ∷ rest) = organisers rest
organisers (InZone room ∷ rest) = organisers rest
organisers (Organiser address ∷ rest) = address ∷ organisers rest

-- what a preamble's lines say: each is ended by LF or CRLF, and after the last comes an empty line (closed), or nothing more
pub data SaysSettings : Bool → List ℕ → List Setting → Type 0 where
  by_end : SaysSettings false [] []
  by_lf : SaysSettings true (10 ∷ []) []
  by_crlf : SaysSettings true (13 ∷ 10 ∷ []) []
  last : (line : List ℕ) (setting : Setting) → IsSetting line setting → SaysSettings false line (setting ∷ [])
  with_lf : {closed : Bool} {rest : List ℕ} {settings : List Setting} (line : List ℕ) (setting : Setting) → IsSetting line setting → SaysSettings closed rest settings → SaysSettings closed (line ++ 10 ∷ rest) (setting ∷ settings)
  with_crlf : {closed : Bool} {rest : List ℕ} {settings : List Setting} (line : List ℕ) (setting : Setting) → IsSetting line setting → SaysSettings closed rest settings → SaysSettings closed (line ++ 13 ∷ 10 ∷ rest) (setting ∷ settings)

-- the most octets of a preamble, and the most rooms and organisers that it hosts; this profile's choice
abbrev pub most_of_preamble : ℕ
most_of_preamble = 65_536

abbrev pub most_rooms : ℕ
most_rooms = 64

abbrev pub most_organisers : ℕ
most_organisers = 256

-- a room that no line gives a zone goes by UTC
abbrev pub in_utc : List ℕ → ZonedRoom
in_utc address = record { address = address; words = codes "+0000"; zone = None }

-- the room of this address, where these lines give zones
abbrev pub room_in : List ZonedRoom → List ℕ → ZonedRoom
room_in zoned address = unwrap_or (find (λ room. bytes_eq room.address address) zoned) (in_utc address)

abbrev pub addresses : List ZonedRoom → List (List ℕ)
addresses = map (λ room. room.address)

-- the rooms, each in its zone, and the organisers that a box hosts
pub record Config : Type 0 where
  pub rooms : List ZonedRoom
  pub organisers : List (List ℕ)

-- the settings name these: one at least, no address twice in one kind, and for each room one zone at most
pub record AreHosts (settings : List Setting) (hosts : Config) : Type 0 where
  pub rooms_are : hosts.rooms ≡ map (room_in (zones settings)) (rooms settings)
  pub organisers_are : organisers settings ≡ hosts.organisers
  pub some : 0 < length hosts.rooms + length hosts.organisers
  pub few_rooms : length hosts.rooms ≤ most_rooms
  pub few_organisers : length hosts.organisers ≤ most_organisers
  pub rooms_differ : AllPairs ◌≢◌ (rooms settings)
  pub zones_differ : AllPairs ◌≢◌ (addresses (zones settings))
  pub zones_of_rooms : (address : List ℕ) → Contains (addresses (zones settings)) address → Contains (rooms settings) address
  pub organisers_differ : AllPairs ◌≢◌ hosts.organisers

-- the words of each room mean its zone
abbrev pub AreInZones : List ZonedRoom → Type 0
AreInZones = All (λ room. IsRoomZone room.words room.zone)

-- the octets of a preamble, which are UTF-8, give this moment, once, and these hosts
pub record IsPreamble (closed : Bool) (octets : List ℕ) (moment : ℤ) (hosts : Config) : Type 0 where
  pub settings : List Setting
  pub says : SaysSettings closed octets settings
  pub text : is_utf8 octets ≡ true
  pub short : length octets ≤ most_of_preamble
  pub moment_is : moments settings ≡ moment ∷ []
  pub are : AreHosts settings hosts

-- the octets of a configuration give these: a preamble's lines, without a moment
pub record IsConfiguration (closed : Bool) (octets : List ℕ) (hosts : Config) : Type 0 where
  pub settings : List Setting
  pub says : SaysSettings closed octets settings
  pub text : is_utf8 octets ≡ true
  pub short : length octets ≤ most_of_preamble
  pub timeless : moments settings ≡ []
  pub are : AreHosts settings hosts

-- ---- the objects of a stream

-- the stream begins with these objects, in order, and this rest follows them: each object is what comes before the rest after it
abbrev pub BeginsWith : List ℕ → List (List ℕ) → List ℕ → Type 0
BeginsWith stream [] rest = rest ≡ stream
BeginsWith stream (object ∷ objects) rest =
    (is_begun stream ≡ true) × (stream ≡ object ++ after_object stream) × BeginsWith (after_object stream) objects rest

-- the objects of a stream, in order; a rest of empty lines isn't one
abbrev pub AreObjects : List ℕ → List (List ℕ) → Type 0
AreObjects stream objects = (rest : List ℕ) × BeginsWith stream objects rest × (is_begun rest ≡ false)

-- the stream is a preamble with this moment and these hosts, and then these objects; a preamble without an empty line is all there is
pub record IsStream (stream : List ℕ) (moment : ℤ) (hosts : Config) (objects : List (List ℕ)) : Type 0 where
  pub preamble : List ℕ
  pub rest : List ℕ
  pub closed : Bool
  pub is : stream ≡ preamble ++ rest
  pub says : IsPreamble closed preamble moment hosts
  pub all : closed ≡ false → rest ≡ []
  pub objects_are : AreObjects rest objects

-- ---- what can be wrong with an object, by the number of its refusal

-- the tree that the lines spell has the fault of this number, 24 or 25
abbrev pub TreeFault : ℕ → List (List ℕ) → Type 0
TreeFault n lines =
    (t : Tree) × SpellsTree 7 t lines
    × (((n ≡ 24) × (has_version (tree_own t) ≡ false))
    ⊎ ((n ≡ 25) × (most_events < count_inside (codes "VEVENT") t)))

-- the octets have the fault of this number: in a line, in how the lines pair up, in the tree, or in the message
abbrev pub ObjectFault : ℕ → List ℕ → Type 0
ObjectFault n octets =
    IsTrue (text_has true n octets)
    ⊎ (IsTrue (lines_have n (logical_lines octets))
    ⊎ (TreeFault n (logical_lines octets)
    ⊎ MessageTextFault octets n))

-- ---- the answers

-- what is asked for where an event is to take place in a room of this zone: all its instances there, whichever of them other events are for: those
-- that its RRULE gives, if it has one, and all others; else nothing
abbrev pub AsksFor : Bool → Option Zone → EventComponent → Claim → Type 0
AsksFor true zone event claim =
    (placed : EventComponent) × IsPlaced zone event placed × AreApart placed claim.singles × AreOfRule placed claim.series
AsksFor false _ event claim = (claim.singles ≡ []) × (claim.series ≡ None)

-- what an event of a message claims of a room: the part that it is, and its instances, if that is to take place
pub record IsClaim (room : List ℕ) (zone : Option Zone) (message : Message) (event : EventComponent) (claim : Claim) : Type 0 where
  pub part : IsPart room zone message event claim.content claim.part
  pub asks : AsksFor (is_set claim.part) zone event claim

-- what it claims of the room: its parts, by their slots
pub record AreClaims (room : List ℕ) (zone : Option Zone) (message : Message) (claims : List Claim) : Type 0 where
  pub all : List Claim
  pub each : AllZip (IsClaim room zone message) (parts_for room message) all
  pub are : AreGreatest (λ claim. claim.part) all claims

-- the delivery hands to a room of this zone what octets that spell a message claim of it
pub record IsDelivered (room : List ℕ) (zone : Option Zone) (delivery : Delivery) : Type 0 where
  pub octets : List ℕ
  pub message : Message
  pub spells : SpellsMessage octets message
  pub are : AreClaims room zone message delivery.claims

-- some messages, of any number and in any order, lead from the empty book to this one
pub record IsReached (room : List ℕ) (zone : Option Zone) (book : Book) : Type 0 where
  pub deliveries : List Delivery
  pub delivered : (delivery : Delivery) → Contains deliveries delivery → IsDelivered room zone delivery
  pub runs : Runs empty_book deliveries book

-- what a box keeps of a room that it hosts
pub record Hosted : Type 0 where
  pub address : List ℕ
  pub words : List ℕ
  pub zone : Option Zone
  pub book : Book

-- a room of this address and zone takes the message, and sends these objects: its reply, and a refresh after it
pub record TakesMessage (room : List ℕ) (zone : Option Zone) (moment : ℤ) (message : Message) (before after : Book) (sent : List (List ℕ)) : Type 0 where
  pub claims : List Claim
  pub are : AreClaims room zone message claims
  pub outcome : Outcome
  pub step : IsStep before claims moment outcome after
  pub reply : Option (List ℕ)
  pub replies : Replies room after claims reply
  pub refresh : Option (List ℕ)
  pub refreshes : Refreshes room (is_add message.method) before.taken after.taken claims moment refresh
  pub is : sent ≡ option_to_list reply ++ option_to_list refresh

-- a room that a box hosts takes it, and answers with these octets, which are the objects that it sends
pub record Takes (moment : ℤ) (message : Message) (before after : Hosted) (octets : List ℕ) : Type 0 where
  pub same : after ≡ record before { book = after.book }
  pub sent : List (List ℕ)
  pub takes : TakesMessage before.address before.zone moment message before.book after.book sent
  pub is : octets ≡ flat_map (λ object. object) sent

-- all rooms take it, one after another; their answers are in the same order
abbrev pub AllTake : ℤ → Message → List Hosted → List Hosted → List ℕ → Type 0
AllTake moment message [] [] octets = octets ≡ []
AllTake moment message (before ∷ befores) (after ∷ afters) octets =
    (first : List ℕ) × (rest : List ℕ) × (octets ≡ first ++ rest) × Takes moment message before after first × AllTake moment message befores afters rest
AllTake moment message _ _ octets = ⊥

-- what a box keeps of an organiser that it hosts
pub record HostedOrganiser : Type 0 where
  pub address : List ℕ
  pub book : OrganiserBook

-- what an organiser keeps then, and the objects that it sends: to a store its messages, to a REPLY none, to a REFRESH what it made of the last
-- store
abbrev pub ServesMethod : Method → ℤ → Message → OrganiserBook → OrganiserBook → List (List ℕ) → Type 0
ServesMethod Store moment said before after objects =
    (sent : List Sent) × IsStore moment said before sent after × (objects ≡ map (λ one. one.octets) sent)
ServesMethod Reply moment said before after objects = (after ≡ after_reply said before) × (objects ≡ [])
ServesMethod Refresh moment said before after objects =
    (stored : Stored) × (last_store said.uid before ≡ Some stored) × (after ≡ before) × (objects ≡ stored.object ∷ [])
ServesMethod Request moment said before after objects = ⊥
ServesMethod Add moment said before after objects = ⊥
ServesMethod Cancel moment said before after objects = ⊥

-- an organiser takes what comes to it, which has no fault beside what it keeps, and sends these objects
pub record ServesMessage (moment : ℤ) (said : Message) (before after : OrganiserBook) (objects : List (List ℕ)) : Type 0 where
  pub allowed : (n : ℕ) → StateFault said before n → ⊥
  pub serves : ServesMethod said.method moment said before after objects

-- it answers with these octets, which are those objects
pub record TakesObject (moment : ℤ) (said : Message) (before after : OrganiserBook) (octets : List ℕ) : Type 0 where
  pub objects : List (List ℕ)
  pub serves : ServesMessage moment said before after objects
  pub is : octets ≡ flat_map (λ object. object) objects

-- of these organisers the one whose address it names takes it
pub record IsTaken (moment : ℤ) (said : Message) (before after : List HostedOrganiser) (octets : List ℕ) : Type 0 where
  pub others_before : List HostedOrganiser
  pub others_behind : List HostedOrganiser
  pub host : HostedOrganiser
  pub book : OrganiserBook
  pub address : host.address ≡ said.organiser
  pub takes : TakesObject moment said host.book book octets
  pub of_these : before ≡ others_before ++ host ∷ others_behind
  pub to_these : after ≡ others_before ++ record host { book = book } ∷ others_behind

-- what a box keeps: the books of its rooms and of its organisers
pub record Box : Type 0 where
  pub rooms : List Hosted
  pub organisers : List HostedOrganiser

-- a room that has taken nothing
abbrev pub new_room : ZonedRoom → Hosted
new_room room = record { address = room.address; words = room.words; zone = room.zone; book = empty_book }

-- nothing was taken
abbrev pub new_box : Config → Box
new_box hosts = record {
  rooms = map new_room hosts.rooms;
  organisers = map (λ organiser. record { address = organiser; book = empty_organiser }) hosts.organisers;
}

-- one step of a box: all its rooms take a message, or an organiser takes what comes to it, and this is answered
abbrev pub StepsFor : Bool → ℤ → Message → Box → Box → List ℕ → Type 0
StepsFor true moment message before after octets =
    AllTake moment message before.rooms after.rooms octets × (after.organisers ≡ before.organisers)
StepsFor false moment message before after octets = IsTaken moment message before.organisers after.organisers octets × (after.rooms ≡ before.rooms)

abbrev pub Steps : ℤ → Message → Box → Box → List ℕ → Type 0
Steps moment message before after octets = StepsFor (is_to_rooms message.method) moment message before after octets

-- what can be wrong with what comes to an organiser, by the number of its refusal: the organiser isn't hosted, or as it keeps its meetings
pub data HostFault (said : Message) (hosted : List HostedOrganiser) : ℕ → Type 0 where
  not_hosted : list_any (λ host. bytes_eq host.address said.organiser) hosted ≡ false → HostFault said hosted 70
  in_state : {n : ℕ} → (host : HostedOrganiser) → Contains hosted host → host.address ≡ said.organiser → StateFault said host.book n
      → HostFault said hosted n

-- a box that keeps this refuses the octets with this number
abbrev pub IsRefusedWith : Box → ℕ → List ℕ → Type 0
IsRefusedWith box n octets =
    ObjectFault n octets
    ⊎ ((said : Message) × SpellsMessage octets said × (is_to_rooms said.method ≡ false) × HostFault said box.organisers n)

-- the line for a refused object, by its place in the stream from 1
abbrev pub refused_line : ℕ → ℕ → List ℕ
refused_line k n = codes "REFUSED;OBJECT=" ++ decimal k ++ codes ":" ++ decimal n ++ codes "\r\n"

-- the octets answer object k: with what a step of the box answers to it, or with the line for a refusal, which changes nothing; and how
-- many refusals that is
abbrev pub Answers : ℤ → ℕ → List ℕ → Box → Box → List ℕ → ℕ → Type 0
Answers moment k object before after octets refused =
    ((said : Message) × SpellsMessage object said × Steps moment said before after octets × (refused ≡ 0))
    ⊎ ((n : ℕ) × IsRefusedWith before n object × (after ≡ before) × (octets ≡ refused_line k n) × (refused ≡ 1))

-- step by step the answers to objects from number k on, one after another, and how many objects are refused
abbrev pub AllAnswers : ℤ → ℕ → List (List ℕ) → Box → Box → List ℕ → ℕ → Type 0
AllAnswers moment k [] before after octets refused = (after ≡ before) × (octets ≡ []) × (refused ≡ 0)
AllAnswers moment k (object ∷ objects) before after octets refused =
    (mid : Box) × (first : List ℕ) × (rest : List ℕ) × (one : ℕ) × (others : ℕ) × (octets ≡ first ++ rest) × (refused ≡ one + others)
    × Answers moment k object before mid first one × AllAnswers moment (k + 1) objects mid after rest others

-- the whole of what is written for a stream that is served to its end, by a box that has taken nothing
pub record AnswersStream (stream octets : List ℕ) : Type 0 where
  pub moment : ℤ
  pub hosts : Config
  pub objects : List (List ℕ)
  pub after : Box
  pub refused : ℕ
  pub is : IsStream stream moment hosts objects
  pub answers : AllAnswers moment 1 objects (new_box hosts) after octets refused
