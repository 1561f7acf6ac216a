-- What the tables of the way back hold, and what is found of an answer that is told in other words.
use Rattle.std.specs.Prelude.{◌≡◌, ℕ, ℤ, Bool, true, List, [], ◌∷◌, All, Contains, map, filter, codes, Some, String, string_bytes}
use Rattle.std.specs.List.{AllZip}
use Rattle.ical_tree.specs.Tree.{component_name, component_lines, tree_of}
use Rattle.ical_tree.specs.declared.component.Component.{Component}
use Rattle.profile.specs.text.Lines.{is_same_name}
use Rattle.profile.specs.text.Trees.{Tree, tree_own, vevents}
use Rattle.profile.specs.events.Properties.{Fixed, is_of}
use Rattle.profile.specs.events.ZonedTimes.{zone_named, SaysZoneOf, SaysInstant}
use Rattle.profile.specs.series.Zones as zones
use Rattle.profile.specs.doors.Adapting.{IsOf, without_zones}
use Rattle.profile.specs.doors.Uses.{NamesZone}
use Rattle.profile.specs.doors.Returning.{TellsSame, IsItsZone}
use Rattle.cal_zones.specs.Kinds.{zone_of}
use Rattle.cal_zones.specs.declared.zone.Zone.{Zone}
use Rattle.cal_doors.specs.declared.words.Instance.{Instance}
use Rattle.cal_doors.specs.declared.words.Words.{Words}

-- the own lines of the VEVENTs among components, in order
abbrev pub is_event : Component → Bool
is_event c = is_same_name (component_name c) (codes "VEVENT")

abbrev pub events_among : List Component → List (List (List ℕ))
events_among cs = map component_lines (filter is_event cs)

-- what is left has all VEVENTs, and begins with one if it isn't empty
abbrev pub IsEventFirst : List Component → Type 0
IsEventFirst [] = Unit {0}
IsEventFirst (c ∷ cs) = is_event c ≡ true

pub record BeginsWithEvent (all left : List Component) : Type 0 where
  pub same : events_among left ≡ events_among all
  pub first : IsEventFirst left

-- these are zones of the object, under their names there
abbrev pub IsZoneOf : {Y : Type 0} → Tree → String Y × Zone → Type 0
IsZoneOf object entry = SaysZoneOf (zone_named (string_bytes entry.0) object) (zone_of entry.1)

abbrev pub AreZonesOf : {Y : Type 0} → Tree → List (String Y × Zone) → Type 0
AreZonesOf object entries = All (IsZoneOf object) entries

-- a VEVENT of the object names this instance by this line
pub record NamesInstance (object : Tree) (line : List ℕ) (instant : ℤ) : Type 0 where
  pub lines : List (List ℕ)
  pub event : Contains (vevents object) lines
  pub among : Contains lines line
  pub is : is_of (codes "RECURRENCE-ID") line ≡ true
  pub says : SaysInstant object line Fixed instant

abbrev pub IsInstanceOf : Tree → Instance → Type 0
IsInstanceOf object i = NamesInstance object i.text.now i.instant

abbrev pub AreAllInstancesOf : Tree → List Instance → Type 0
AreAllInstancesOf object instances = All (IsInstanceOf object) instances

-- the tables are about an object as a room reads it, and about an answer
pub record AreWordsOf (read answer : Tree) (words : Words) : Type 0 where
  pub read_zones : AreZonesOf read words.read.entries
  pub told_zones : AreZonesOf answer words.told.entries
  pub instances : AreAllInstancesOf read words.instances.items

-- a line of the answer and one of the object name the same instance
pub record NamesSame (read answer : Tree) (line other : List ℕ) : Type 0 where
  pub instant : ℤ
  pub is : is_of (codes "RECURRENCE-ID") line ≡ true
  pub says : SaysInstant answer line Fixed instant
  pub names : NamesInstance read other instant

-- a name in the answer and one in the object mean the same zone
abbrev pub AreSameZone : Tree → Tree → List ℕ → List ℕ → Type 0
AreSameZone read answer name new = (zone : zones.Zone) × SaysZoneOf (zone_named name answer) zone × SaysZoneOf (zone_named new read) zone

-- a name means in an object what it has to
abbrev pub HasItsZone : Tree → Tree → Tree → List ℕ → Type 0
HasItsZone given asked read name = (zone : Tree) × (zone_named name given ≡ Some zone) × IsItsZone asked read name zone

-- the octets are the answer in other words
pub record TellsAnswer (asked read answer : Tree) (octets : List ℕ) : Type 0 where
  pub given : Tree
  pub is_given : IsOf octets given
  pub own : tree_own given ≡ tree_own answer
  pub events : AllZip (AllZip (TellsSame read answer)) (vevents answer) (vevents given)
  pub zones : (name : List ℕ) → NamesZone given name → HasItsZone given asked read name

-- so it is with the octets of an answer
pub record IsAnswerTold (asked read : Tree) (answer octets : List ℕ) : Type 0 where
  pub told : Tree
  pub is_told : IsOf answer told
  pub right : TellsAnswer asked read told octets

-- so it is where a room reads the object that octets are
pub record IsReturnedBy (original readable answer octets : List ℕ) : Type 0 where
  pub asked : Tree
  pub is_asked : IsOf original asked
  pub read : Tree
  pub is_read : IsOf readable read
  pub answered : IsAnswerTold asked read answer octets

-- the VEVENTs among components, in order, as trees
abbrev pub trees_among : List Component → List Tree
trees_among cs = map tree_of (filter is_event cs)

-- an object of one VEVENT: the own lines of the whole, and each name means the same VTIMEZONE; but for VTIMEZONEs it is all that is inside
pub record IsOneEvent (whole event part : Tree) : Type 0 where
  pub only : vevents part ≡ tree_own event ∷ []
  pub others : without_zones part ≡ event ∷ []
  pub own : tree_own part ≡ tree_own whole
  pub zones : (name : List ℕ) → NamesZone part name → zone_named name part ≡ zone_named name whole

-- the octets are one
abbrev pub IsSingleOf : Tree → Tree → List ℕ → Type 0
IsSingleOf whole event octets = (part : Tree) × IsOf octets part × IsOneEvent whole event part
