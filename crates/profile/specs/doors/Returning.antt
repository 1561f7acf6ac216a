-- An answer to an object, told in the words of that object: with its names of zones, its VTIMEZONEs, and its text for an instance (RFC 5545
-- 3.2.19, 3.8.4.4). Programs look a zone up by its name, and compare RECURRENCE-ID as text.
use Rattle.std.specs.Prelude.{◌≡◌, ℕ, ◌⊎◌, true, List, [], ◌∷◌, filter, codes, Contains, Option, None, Some, ℤ}
use Rattle.std.specs.List.{AllZip}
use Rattle.profile.specs.text.Lines.{line_name, line_value, line_param, is_same_name}
use Rattle.profile.specs.text.Trees.{Tree, tree_name, tree_own, tree_inside, vevents}
use Rattle.profile.specs.series.Zones.{Zone}
use Rattle.profile.specs.events.Properties.{Fixed, is_of, time_kind}
use Rattle.profile.specs.events.ZonedTimes.{SaysZoneOf, SaysInstant, zone_named}
use Rattle.profile.specs.doors.Uses.{NamesZone, is_time_line}
use Rattle.profile.specs.doors.Adapting.{IsAdapted, IsOf, without_zones}

-- the object as a room reads it: as it came, or made readable
abbrev pub IsRead : Option Tree → List ℕ → Tree → Type 0
IsRead listed octets object =
    IsOf octets object ⊎ ((going_on : List (List ℕ)) × (adapted : List ℕ) × IsAdapted listed octets going_on adapted × IsOf adapted object)

-- a line of a VEVENT of an answer, and the line in its place
pub data TellsSame (read answer : Tree) (line other : List ℕ) : Type 0 where
  -- the same line, which names no zone
  kept : other ≡ line → line_param (codes "TZID") line ≡ None → TellsSame read answer line other
  -- the instance is named as the object names it: the same instant
  instance : (lines : List (List ℕ)) (t : ℤ) → is_of (codes "RECURRENCE-ID") line ≡ true → is_of (codes "RECURRENCE-ID") other ≡ true
      → Contains (vevents read) lines → Contains lines other → SaysInstant answer line Fixed t → SaysInstant read other Fixed t
      → TellsSame read answer line other
  -- the same local times, in a zone that is the same under both names
  in_zone : (name new : List ℕ) (zone : Zone) → is_time_line line ≡ true → line_name other ≡ line_name line → line_value other ≡ line_value line
      → time_kind other ≡ time_kind line → line_param (codes "TZID") line ≡ Some name → line_param (codes "TZID") other ≡ Some new
      → SaysZoneOf (zone_named name answer) zone → SaysZoneOf (zone_named new read) zone → TellsSame read answer line other

-- what a name means in what is handed on: the VTIMEZONE of the object; where it has none of that name, the one that a room reads for it
abbrev pub IsItsZone : Tree → Tree → List ℕ → Tree → Type 0
IsItsZone asked read name zone =
    (zone_named name asked ≡ Some zone) ⊎ ((zone_named name asked ≡ None) × (zone_named name read ≡ Some zone))

-- the octets answer an object, and these others are handed on in their place: each VEVENT has its lines, in order, with the times told so, and each zone
-- that they name is there
pub record IsReturned (listed : Option Tree) (original answer returned : List ℕ) : Type 0 where
  pub asked : Tree
  pub is_asked : IsOf original asked
  pub read : Tree
  pub is_read : IsRead listed original read
  pub told : Tree
  pub is_told : IsOf answer told
  pub given : Tree
  pub is_given : IsOf returned given
  pub own : tree_own given ≡ tree_own told
  pub events : AllZip (AllZip (TellsSame read told)) (vevents told) (vevents given)
  pub zones : (name : List ℕ) → NamesZone given name → (zone : Tree) × (zone_named name given ≡ Some zone) × IsItsZone asked read name zone

-- the VEVENTs directly inside, in order, with all that is inside them
abbrev pub event_trees : Tree → List Tree
event_trees t = filter (λ part. is_same_name (tree_name part) (codes "VEVENT")) (tree_inside t)

-- the octets are an object, and these are objects of one VEVENT each: its VEVENTs in order, each with the own lines of the object, and each name
-- means the same VTIMEZONE. But for VTIMEZONEs such a VEVENT, with all that is inside it, is all that is inside its part
pub record IsSplit (octets : List ℕ) (parts : List (List ℕ)) : Type 0 where
  pub whole : Tree
  pub is_whole : IsOf octets whole
  pub trees : List Tree
  pub are : AllZip IsOf parts trees
  pub each : AllZip (λ event part. (vevents part ≡ tree_own event ∷ []) × (without_zones part ≡ event ∷ []) × (tree_own part ≡ tree_own whole)
      × ((name : List ℕ) → NamesZone part name → zone_named name part ≡ zone_named name whole)) (event_trees whole) trees
