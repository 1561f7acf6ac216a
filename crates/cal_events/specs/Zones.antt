-- What the table of an object's VTIMEZONEs holds.
use Rattle.std.specs.Prelude.{List, Result, Ok, Err, String}
use Rattle.cal_zones.specs.Kinds.{zone_of}
use Rattle.cal_zones.specs.ZoneNames.{AreByName}
use Rattle.cal_zones.specs.declared.zone.Zone.{Zone}
use Rattle.ical_lines.specs.declared.fault.Refusal.{Refusal}
use Rattle.ical_tree.specs.Tree.{component_children, tree_of, zone_of_component}
use Rattle.ical_tree.specs.declared.component.Component.{Component}
use Rattle.profile.specs.series.ZoneBlame.{ZoneBlame}
use Rattle.profile.specs.series.ZoneTexts.{SaysZone, ZoneFault}
use Rattle.profile.specs.text.Trees.{Tree}
use Rattle.cal_events.specs.declared.zones.ZonesOfObject.{ZonesOfObject}

-- what was read of a VTIMEZONE: the zone that it says, or what is wrong with it
abbrev pub IsZoneRead : Component → Result Zone Refusal → Type 0
IsZoneRead c (Ok zone) = SaysZone (tree_of c) (zone_of zone)
IsZoneRead c (Err e) = ZoneFault (tree_of c) e.number × ZoneBlame (zone_of_component c) e.number e.line

-- of each name the first VTIMEZONE of it among these was read, and of another name nothing is there
abbrev pub AreZonesAmong : {Y : Type 0} → List Component → List (String Y × Result Zone Refusal) → Type 0
AreZonesAmong cs zones = AreByName IsZoneRead cs zones

-- the object whose zones they are
abbrev pub object_of : ZonesOfObject → Tree
object_of zones = tree_of zones.object.now

-- each of its VTIMEZONEs was read
abbrev pub AreRead : ZonesOfObject → Type 0
AreRead zones = AreZonesAmong (component_children zones.object.now) zones.by_name.entries
