-- What of a VTIMEZONE is in the way in an object that is refused for it, and where it is in the octets.
use Rattle.std.specs.Prelude.{◌≡◌, ℕ, true, List, codes, Contains, Some}
use Rattle.std.specs.List.{enumerate_from}
use Rattle.ical_tree.specs.Tree.{ArePlaced, IsObjectOf, component_children, component_lines, component_name, tree_of}
use Rattle.ical_tree.specs.declared.component.Component.{Component}
use Rattle.profile.specs.text.Lines.{is_same_name, line_param, logical_lines}
use Rattle.profile.specs.text.Trees.{Tree}
use Rattle.profile.specs.series.ZoneTexts.{ZoneFault}
use Rattle.profile.specs.events.ZonedTimes.{zone_named}
use Rattle.profile.specs.doors.Uses.{IsLineIn}
use Rattle.fault_places.specs.Obstacles.{IsCause, text_of}
use Rattle.fault_places.specs.Places.{IsSpotOf}
use Rattle.fault_places.specs.declared.obstacle.PartCause.{PartCause}
use Rattle.fault_places.specs.declared.refused_zone.InTheWay.{InTheWay}

-- ---- the VTIMEZONE

-- the line names this VTIMEZONE of the object, which has the fault of this number
pub record IsRefusedAs (object : Tree) (line : List ℕ) (n : ℕ) (zone : Component) : Type 0 where
  pub name : List ℕ
  pub param : line_param (codes "TZID") line ≡ Some name
  pub meant : zone_named name object ≡ Some (tree_of zone)
  pub fault : ZoneFault (tree_of zone) n

-- a time of a VEVENT, which is these lines, names it
pub record RefusedBy (object : Tree) (lines : List (List ℕ)) (n : ℕ) (zone : Component) : Type 0 where
  pub name : List ℕ
  pub line : List ℕ
  pub named : IsLineIn name lines line
  pub meant : zone_named name object ≡ Some (tree_of zone)
  pub fault : ZoneFault (tree_of zone) n

-- so it is of a VEVENT of the object
abbrev pub NamesRefused : Component → ℕ → Component → Type 0
NamesRefused object n zone =
    (event : Component) × Contains (component_children object) event × (is_same_name (component_name event) (codes "VEVENT") ≡ true)
    × RefusedBy (tree_of object) (component_lines event) n zone

-- ---- its places

-- this is what was found of a VTIMEZONE, and the octets have it there: the part begins on this line, and that line is in the way
pub record IsPlacedInOctets (octets : List ℕ) (found : PartCause) (way : InTheWay) : Type 0 where
  pub obstacle : way.obstacle ≡ found.cause.obstacle
  pub part : way.part.items ≡ component_name found.component.now
  pub spot : IsSpotOf octets found.component.now (text_of found.cause.line) (record { begins = way.begins; place = way.place })

-- ---- what is in the way

-- the octets are an object in which a time names a VTIMEZONE that has the fault of this number, and this is in the way of it
pub record IsInTheWay (octets : List ℕ) (n : ℕ) (way : InTheWay) : Type 0 where
  pub object : Component
  pub spelled : IsObjectOf true object (logical_lines octets)
  pub numbered : ArePlaced (enumerate_from 1 (logical_lines octets)) object
  pub zone : Component
  pub inside : Contains (component_children object) zone
  pub refused : NamesRefused object n zone
  pub found : PartCause
  pub cause : IsCause zone n found
  pub placed : IsPlacedInOctets octets found way
