-- The calendar of a room that a text is (RFC 5545 3.4), what it confirms, and what can be wrong with such a text.
use Rattle.std.specs.Prelude.{◌≡◌, ℕ, true, false, List, [], ◌∷◌, ◌++◌, codes, Contains, Option, None}
use Rattle.std.specs.List.{AllZip}
use Rattle.profile.specs.text.Lines.{logical_lines, text_has, reads_as_lines}
use Rattle.profile.specs.text.Objects.{SpellsTree, IsObject, has_version, lines_have}
use Rattle.profile.specs.text.Trees.{Tree, tree_own, vevents}
use Rattle.profile.specs.checker.Instances.{Instance}
use Rattle.profile.specs.checker.Certificates.{CertificateHoldsFor}
use Rattle.profile.specs.series.Zones.{Zone}
use Rattle.profile.specs.series.RoomZones.{NamesRoomZone, RoomZoneFault}
use Rattle.profile.specs.events.EventComponents.{EventComponent, SaysEventComponent, EventComponentFault}
use Rattle.profile.specs.events.Placed.{SaysPlaced, is_all_fixed}
use Rattle.profile.specs.events.Confirmed.{Confirmed, IsConfirmed, AreConfirmed, MastersDiffer, OverridesDiffer}

-- the octets are this VCALENDAR, of any size
abbrev pub IsCalendarText : Tree → List ℕ → Type 0
IsCalendarText t octets = IsObject false t (logical_lines octets)

-- the VEVENTs of an object say these events, in a room of this zone. METHOD is ignored
abbrev pub SayEventsIn : Option Zone → Tree → List EventComponent → Type 0
SayEventsIn zone object events = AllZip (SaysPlaced zone object None) (vevents object) events

-- they do in a room of the zone that its own lines name
pub record SayEvents (object : Tree) (events : List EventComponent) : Type 0 where
  pub zone : Option Zone
  pub names : NamesRoomZone (tree_own object) zone
  pub each : SayEventsIn zone object events

-- what so says events says these, and of them these are confirmed for the room
pub record SaysCalendarBy (Say : Tree → List EventComponent → Type 0) (room : List ℕ) (object : Tree) (confirmed : Confirmed) : Type 0 where
  pub events : List EventComponent
  pub says : Say object events
  pub masters : MastersDiffer events
  pub overrides : OverridesDiffer events
  pub are : AreConfirmed room events confirmed

abbrev pub SaysCalendar : List ℕ → Tree → Confirmed → Type 0
SaysCalendar = SaysCalendarBy SayEvents

-- the octets are one VCALENDAR, which says so
pub record SpellsCalendarBy (Say : Tree → List EventComponent → Type 0) (room octets : List ℕ) (confirmed : Confirmed) : Type 0 where
  pub lines : reads_as_lines false octets ≡ true
  pub tree : Tree
  pub object : IsCalendarText tree octets
  pub says : SaysCalendarBy Say room tree confirmed

abbrev pub SpellsCalendar : (room octets : List ℕ) → Confirmed → Type 0
SpellsCalendar = SpellsCalendarBy SayEvents

-- the same, read in a room of this zone, whatever zone its own lines name
abbrev pub SpellsCalendarIn : Option Zone → (room octets : List ℕ) → Confirmed → Type 0
SpellsCalendarIn zone = SpellsCalendarBy (SayEventsIn zone)

-- the instance is confirmed for the room by the VCALENDAR that the octets are
pub record IsConfirmedBy (Say : Tree → List EventComponent → Type 0) (room octets : List ℕ) (instance : Instance) : Type 0 where
  pub tree : Tree
  pub object : IsCalendarText tree octets
  pub events : List EventComponent
  pub says : Say tree events
  pub is : IsConfirmed room events instance

abbrev pub IsConfirmedIn : (room octets : List ℕ) → Instance → Type 0
IsConfirmedIn = IsConfirmedBy SayEvents

-- the same, read in a room of this zone
abbrev pub IsConfirmedInZone : Option Zone → (room octets : List ℕ) → Instance → Type 0
IsConfirmedInZone zone = IsConfirmedBy (SayEventsIn zone)

-- the certificate holds for the calendar: this spells what is confirmed, the certificate is one for that, and no two instances clash
pub record CertificateHolds (room calendar text : List ℕ) : Type 0 where
  pub confirmed : Confirmed
  pub spells : SpellsCalendar room calendar confirmed
  pub holds : CertificateHoldsFor confirmed text

-- ---- naming the zone of its room

-- the octets of a VCALENDAR with a line more, after that of its BEGIN, which names the zone of its room; all else is as it was
pub record IsWithZone (words octets with_zone : List ℕ) : Type 0 where
  pub before : List ℕ
  pub after : List ℕ
  pub is : octets ≡ before ++ after
  pub begins : (first : List ℕ) × (rest : List (List ℕ)) × (logical_lines before ≡ first ∷ []) × (logical_lines octets ≡ first ∷ rest)
      × (logical_lines with_zone ≡ first ∷ (codes "X-ROOM-ZONE:" ++ words) ∷ rest)
  pub added : with_zone ≡ before ++ (codes "X-ROOM-ZONE:" ++ words ++ codes "\r\n") ++ after

-- no event of the VCALENDAR that the octets are has a time that isn't fixed
abbrev pub AreAllFixed : List ℕ → Type 0
AreAllFixed octets =
    (tree : Tree) (lines : List (List ℕ)) (event : EventComponent) → IsCalendarText tree octets → Contains (vevents tree) lines
    → SaysEventComponent tree None lines event → is_all_fixed event ≡ true

-- ---- what can be wrong, by the number of its refusal

-- the VEVENTs of an object, or the zone that it names, have the fault of this number, as a calendar
pub data CalendarFault (object : Tree) : ℕ → Type 0 where
  in_zone : RoomZoneFault (tree_own object) → CalendarFault object 44
  -- one of its VEVENTs has this fault
  in_event : {n : ℕ} → (lines : List (List ℕ)) → Contains (vevents object) lines → EventComponentFault object None lines n → CalendarFault object n
  two_masters : (events : List EventComponent) → SayEvents object events → (MastersDiffer events → ⊥) → CalendarFault object 53
  two_overrides : (events : List EventComponent) → SayEvents object events → (OverridesDiffer events → ⊥) → CalendarFault object 54

-- the octets have the fault of this number
pub data CalendarTextFault (octets : List ℕ) : ℕ → Type 0 where
  -- 1 to 5: in a line
  in_lines : {n : ℕ} → text_has false n octets ≡ true → CalendarTextFault octets n
  -- 20 to 23: in how the lines pair up
  in_tree : {n : ℕ} → lines_have n (logical_lines octets) ≡ true → CalendarTextFault octets n
  -- VERSION doesn't occur exactly once, or isn't `2.0`
  no_version : (t : Tree) → SpellsTree 7 t (logical_lines octets) → has_version (tree_own t) ≡ false → CalendarTextFault octets 24
  -- in the VEVENTs of the calendar that the octets are
  in_vevents : {n : ℕ} → (t : Tree) → IsCalendarText t octets → CalendarFault t n → CalendarTextFault octets n
