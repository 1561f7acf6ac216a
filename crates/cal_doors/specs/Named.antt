-- What the table of an object's VTIMEZONEs holds.
use Rattle.std.specs.Prelude.{◌≡◌, List, String}
use denote.Ref.{Bor}
use Rattle.ical_tree.specs.Tree.{component_children}
use Rattle.ical_tree.specs.declared.component.Component.{Component}
use Rattle.cal_zones.specs.ZoneNames.{AreByName}
use Rattle.cal_doors.specs.declared.named.NamedZones.{NamedZones}

-- of each name the first VTIMEZONE of it among these is there, and of another name none
abbrev pub AreNamedAmong : {Y : Type 0} → List Component → List (String Y × Bor Component) → Type 0
AreNamedAmong cs zones = AreByName (λ c zone. zone.now ≡ c) cs zones

abbrev pub AreNamed : NamedZones → Type 0
AreNamed zones = AreNamedAmong (component_children zones.object.now) zones.by_name.entries
