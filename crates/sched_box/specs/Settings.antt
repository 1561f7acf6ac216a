-- What the lines of a preamble or a configuration have set.
use Rattle.std.specs.Prelude.{◌≡◌, ◌≢◌, ◌⊎◌, ◌≤◌, ◌<◌, ◌+◌, ℕ, Bool, true, List, [], ◌∷◌, ◌++◌, codes, length, map, Contains, None, Some, AllPairs, slice_index}
use Rattle.std.specs.Option.{option_to_list}
use Rattle.std.specs.List.{list_all, list_any}
use Rattle.std.specs.Str.{bytes_eq, is_utf8}
use Rattle.ical_values.specs.Octets.{address_octets}
use Rattle.ical_values.specs.declared.address.Address.{Address}
use Rattle.profile.specs.series.RoomZones.{IsRoomZone}
use Rattle.profile.specs.streams.Streams.{Setting, Now, Room, InZone, Organiser, IsSetting, SaysSettings, Config, ZonedRoom, AreHosts, addresses, moments, rooms, zones, organisers, most_rooms, most_organisers}
use Rattle.profile.specs.text.Values.{IsAddress, lower_case}
use Rattle.cal_zones.specs.RoomZones.{room_of, words_of}
use Rattle.sched_box.specs.declared.settings.Settings.{Settings}
use Rattle.sched_box.specs.declared.settings.ZonedRoom.{ZonedRoom as OwnRoom}

-- the addresses of the rooms so far, and of the organisers
abbrev pub rooms_of : Settings → List (List ℕ)
rooms_of s = map address_octets s.rooms.items

abbrev pub organisers_of : Settings → List (List ℕ)
organisers_of s = map address_octets s.organisers.items

-- a room and its zone
abbrev pub zoned_room : OwnRoom → ZonedRoom
zoned_room room = record { address = address_octets room.address; words = words_of room.zone; zone = room_of room.zone }

-- the rooms whose zones were given
abbrev pub zones_of : Settings → List ZonedRoom
zones_of s = map zoned_room s.zones.items

-- each zone is of a room
abbrev pub are_of_rooms : List Address → List OwnRoom → Bool
are_of_rooms rooms zones = list_all (λ zone. list_any (λ room. bytes_eq (address_octets room) (address_octets zone.address)) rooms) zones

-- the text says a room and its zone
abbrev pub SaysZone : List ℕ → ZonedRoom → Type 0
SaysZone text room =
    (address : List ℕ) × (text ≡ address ++ codes " " ++ room.words) × IsAddress address × (room.address ≡ lower_case address)
    × IsRoomZone room.words room.zone

-- ---- one more host

-- the address can be added after these hosts, of which there may be this many
pub record CanHost (most : ℕ) (hosts : List (List ℕ)) (address : List ℕ) : Type 0 where
  pub fresh : Contains hosts address → ⊥
  pub few : length hosts < most

-- it was added to them
pub record AddsHost (most : ℕ) (old new : List Address) (address : List ℕ) : Type 0 where
  pub can : CanHost most (map address_octets old) address
  pub more : map address_octets new ≡ map address_octets old ++ address ∷ []

-- the zone of a room was added to those of others
pub record AddsZone (old new : List OwnRoom) (room : ZonedRoom) : Type 0 where
  pub can : CanHost most_rooms (addresses (map zoned_room old)) room.address
  pub more : map zoned_room new ≡ map zoned_room old ++ room ∷ []

-- there may be this many hosts, and no two are one
pub record IsFit (most : ℕ) (hosts : List (List ℕ)) : Type 0 where
  pub few : length hosts ≤ most
  pub differ : AllPairs ◌≢◌ hosts

-- ---- one more line

-- the setting isn't there yet
abbrev pub CanAdd : Settings → Setting → Type 0
CanAdd s (Now t) = s.moment ≡ None
CanAdd s (Room address) = CanHost most_rooms (rooms_of s) address
CanAdd s (InZone room) = CanHost most_rooms (addresses (zones_of s)) room.address
CanAdd s (Organiser address) = CanHost most_organisers (organisers_of s) address

-- new is old with the setting, which wasn't there yet
abbrev pub Adds : Settings → Settings → Setting → Type 0
Adds old new (Now t) =
    (old.moment ≡ None) × (new.moment ≡ Some t) × (new.rooms ≡ old.rooms) × (new.zones ≡ old.zones) × (new.organisers ≡ old.organisers)
Adds old new (Room address) =
    AddsHost most_rooms old.rooms.items new.rooms.items address × (new.moment ≡ old.moment) × (new.zones ≡ old.zones) × (new.organisers ≡ old.organisers)
Adds old new (InZone room) =
    AddsZone old.zones.items new.zones.items room × (new.moment ≡ old.moment) × (new.rooms ≡ old.rooms) × (new.organisers ≡ old.organisers)
Adds old new (Organiser address) =
    AddsHost most_organisers old.organisers.items new.organisers.items address × (new.moment ≡ old.moment) × (new.rooms ≡ old.rooms) × (new.zones ≡ old.zones)

-- new is old with what the line says; it says nothing else
pub record AddsLine (old new : Settings) (line : List ℕ) : Type 0 where
  pub setting : Setting
  pub is : IsSetting line setting
  pub only : (other : Setting) → IsSetting line other → other ≡ setting
  pub adds : Adds old new setting

-- the octets have no LF
abbrev pub IsUnbroken : List ℕ → Type 0
IsUnbroken octets = (i : ℕ) → i < length octets → slice_index octets i ≢ 10

-- the octets are this line, which is ended by LF or CRLF, and what follows it
pub record Breaks (octets line after : List ℕ) : Type 0 where
  pub whole : List ℕ
  pub split : octets ≡ whole ++ 10 ∷ after
  pub first : IsUnbroken whole
  pub bare : (whole ≡ line ++ 13 ∷ []) ⊎ ((whole ≡ line) × ((front : List ℕ) → whole ≢ front ++ 13 ∷ []))

-- these are the settings, the moment at most once and no host twice
pub record Holds (s : Settings) (list : List Setting) : Type 0 where
  pub rooms_are : rooms list ≡ rooms_of s
  pub zones_are : zones list ≡ zones_of s
  pub organisers_are : organisers list ≡ organisers_of s
  pub moments_are : moments list ≡ option_to_list s.moment
  pub rooms_fit : IsFit most_rooms (rooms_of s)
  pub zones_fit : IsFit most_rooms (addresses (zones_of s))
  pub organisers_fit : IsFit most_organisers (organisers_of s)

-- the octets say them, and nothing else
pub record Reads (s : Settings) (octets : List ℕ) : Type 0 where
  pub closed : Bool
  pub list : List Setting
  pub says : SaysSettings closed octets list
  pub only : (close : Bool) (other : List Setting) → SaysSettings close octets other → other ≡ list
  pub holds : Holds s list

-- the settings are allowed together: the moment at most once, and hosts that fit
pub record CanAll (list : List Setting) : Type 0 where
  pub rooms_fit : IsFit most_rooms (rooms list)
  pub zones_fit : IsFit most_rooms (addresses (zones list))
  pub organisers_fit : IsFit most_organisers (organisers list)
  pub once : length (moments list) ≤ 1

-- the octets say no such settings
abbrev pub SaysNone : List ℕ → Type 0
SaysNone octets = (closed : Bool) (list : List Setting) → SaysSettings closed octets list → CanAll list → ⊥

-- the octets are short UTF-8 that says them, and there is a host
pub record ReadsSettings (s : Settings) (octets : List ℕ) : Type 0 where
  pub reads : Reads s octets
  pub text : is_utf8 octets ≡ true
  pub short : length octets ≤ 65_536
  pub some : 0 < length (rooms_of s) + length (organisers_of s)
  pub zones_of_rooms : (address : List ℕ) → Contains (addresses (zones_of s)) address → Contains (rooms_of s) address

-- the octets say no such settings
abbrev pub ReadsNone : List ℕ → Type 0
ReadsNone octets =
    (closed : Bool) (list : List Setting) (hosts : Config) → SaysSettings closed octets list → is_utf8 octets ≡ true → length octets ≤ 65_536
    → AreHosts list hosts → length (moments list) ≤ 1 → ⊥
