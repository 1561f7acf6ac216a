-- What is made of an object at the door.
use Rattle.std.specs.Prelude.{◌≡◌, ℕ, not, List, map, filter, codes, Option, None, Some, option_map, String, ℤ}
use Rattle.std.specs.Borrow.{Bor}
use Rattle.std.specs.List.{list_any}
use Rattle.std.specs.Str.{bytes_eq}
use Rattle.ical_tree.specs.Tree.{tree_of, component_name}
use Rattle.ical_tree.specs.declared.component.Component.{Component}
use Rattle.profile.specs.text.Lines.{is_same_name}
use Rattle.profile.specs.text.Trees.{Tree, tree_own}
use Rattle.profile.specs.series.Zones.{Zone}
use Rattle.profile.specs.series.GeneralZones.{Run}
use Rattle.profile.specs.series.GeneralZoneTexts.{SaysGeneralZone}
use Rattle.profile.specs.series.ZoneTexts.{SaysZone}
use Rattle.profile.specs.events.ZonedTimes.{zone_named}
use Rattle.profile.specs.doors.Uses.{BeginsBy, EndsBy}
use Rattle.profile.specs.doors.Adapting.{IsOf, IsMeant, IsZoneUnread, TakesPlace, without_zones}
use Rattle.cal_zones.specs.Kinds.{zone_of}
use Rattle.cal_doors.specs.Named.{AreNamed}
use Rattle.cal_doors.specs.Used.{held}
use Rattle.cal_doors.specs.declared.named.NamedZones.{NamedZones}
use Rattle.cal_doors.specs.declared.uses.Use.{Use}
use Rattle.cal_doors.specs.declared.choice.Choice.{Choice}
use Rattle.cal_doors.specs.declared.changes.Need.{Need}
use Rattle.cal_doors.specs.declared.changes.Need.TheVariants.{Nothing, Change, Lost}

-- the object that the list of VTIMEZONEs is, if there is one
abbrev pub listed_of : Option (Bor NamedZones) → Option Tree
listed_of listed = option_map (λ zones. tree_of zones.now.object.now) listed

-- the same, of the object itself
abbrev pub list_of : Option (Bor Component) → Option Tree
list_of listed = option_map (λ object. tree_of object.now) listed

-- it is a list
abbrev pub IsListOfZones : Option (Bor NamedZones) → Type 0
IsListOfZones None = Unit {0}
IsListOfZones (Some zones) = AreNamed zones.now

-- a room reads it
abbrev pub IsZoneReadable : Tree → List ℕ → Type 0
IsZoneReadable object name = (part : Tree) × (zone : Zone) × (zone_named name object ≡ Some part) × SaysZone part zone

-- a use is about all times that the object names in a zone, and about when they end
pub record IsUseFor (object : Tree) (name : List ℕ) (u : Use) : Type 0 where
  pub from_first : BeginsBy object name u.first
  pub to_last : (end : ℤ) → u.last ≡ Some end → EndsBy object name end

-- the zone in general that a name means at the door
abbrev pub IsMeantZone : Option Tree → Tree → List ℕ → List Run → Type 0
IsMeantZone listed object name zone = (meant : Tree) × IsMeant listed object name meant × SaysGeneralZone meant zone

-- what has to be done for a name: nothing where a room reads what it means, else something may take the place of that
abbrev pub IsNeeded : Option Tree → Tree → List ℕ → Need → Type 0
IsNeeded listed object name Nothing = IsZoneReadable object name
IsNeeded listed object name (Change c) = IsZoneUnread object name × TakesPlace listed object name c.goes_on (zone_of c.zone)
IsNeeded listed object name Lost = Unit {0}

-- these take the place of what the object's names mean that no room reads; the others are read
pub record AreChanges {X Y : Type 0} (listed : Option Tree) (object : Tree) (uses : List (String X × Use)) (changes : List (String Y × Choice)) : Type 0 where
  pub used : (name : List ℕ) (c : Choice) → held name changes ≡ Some c → (u : Use) × (held name uses ≡ Some u)
  pub unread : (name : List ℕ) (c : Choice) → held name changes ≡ Some c → IsZoneUnread object name
  pub replaced : (name : List ℕ) (c : Choice) → held name changes ≡ Some c → TakesPlace listed object name c.goes_on (zone_of c.zone)
  pub kept : (name : List ℕ) (u : Use) → held name uses ≡ Some u → held name changes ≡ None → IsZoneReadable object name

-- the octets are an object with the lines of another, but for VTIMEZONEs. Each name that is used means its change, or what it meant before
pub record IsRightlyAdapted {X Y : Type 0} (before : Tree) (uses : List (String X × Use)) (changes : List (String Y × Choice)) (octets : List ℕ) : Type 0 where
  pub after : Tree
  pub is : IsOf octets after
  pub own : tree_own after ≡ tree_own before
  pub others : without_zones after ≡ without_zones before
  pub changed : (name : List ℕ) (u : Use) (c : Choice) → held name uses ≡ Some u → held name changes ≡ Some c
      → (part : Tree) × (zone_named name after ≡ Some part) × SaysZone part (zone_of c.zone)
  pub kept : (name : List ℕ) (u : Use) → held name uses ≡ Some u → held name changes ≡ None
      → (part : Tree) × (zone_named name after ≡ Some part) × (zone_named name before ≡ Some part)

-- the name means its change, or where it has none the same as before
abbrev pub MeansNow : Tree → Tree → List ℕ → Option Choice → Type 0
MeansNow before after name None = (part : Tree) × (zone_named name after ≡ Some part) × (zone_named name before ≡ Some part)
MeansNow before after name (Some c) = (part : Tree) × (zone_named name after ≡ Some part) × SaysZone part (zone_of c.zone)

-- so it is with each name that is used
abbrev pub AllMeanNow : {X Y : Type 0} → Tree → Tree → List (String X × Use) → List (String Y × Choice) → Type 0
AllMeanNow before after uses changes = (name : List ℕ) (u : Use) → held name uses ≡ Some u → MeansNow before after name (held name changes)

-- of the changes those of these names go on beyond what is stated, and no others
abbrev pub AreGoingOn : {Y : Type 0} → List (String Y × Choice) → List (List ℕ) → Type 0
AreGoingOn changes names = (name : List ℕ) (c : Choice) → held name changes ≡ Some c → list_any (bytes_eq name) names ≡ c.goes_on

-- components as trees, but for VTIMEZONEs
abbrev pub others_among : List Component → List Tree
others_among cs = map tree_of (filter (λ c. not (is_same_name (component_name c) (codes "VTIMEZONE"))) cs)
