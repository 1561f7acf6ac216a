-- The VTIMEZONEs of an object by their names, and a table with one entry a name.
use Rattle.std.specs.Prelude.{ℕ, Bool, if◌then◌else◌, ◌&&◌, List, codes, find, Option, None, String, string_bytes}
use Rattle.std.specs.Map.{lookup}
use Rattle.std.specs.Str.{bytes_eq}
use Rattle.ical_tree.specs.Tree.{component_name, component_lines}
use Rattle.ical_tree.specs.declared.component.Component.{Component}
use Rattle.profile.specs.text.Lines.{is_same_name}
use Rattle.profile.specs.events.Properties.{BothOrNeither}
use Rattle.profile.specs.events.ZonedTimes.{zone_name, has_zone_name}

-- the name that a component gives a zone: none where it isn't a VTIMEZONE
abbrev pub zone_name_said : Component → Option (List ℕ)
zone_name_said c = if is_same_name (component_name c) (codes "VTIMEZONE") then zone_name (component_lines c) else None

-- a VTIMEZONE of this name
abbrev pub is_zone_called : List ℕ → Component → Bool
is_zone_called name c = is_same_name (component_name c) (codes "VTIMEZONE") && has_zone_name name (component_lines c)

-- of each name the entry is about the first VTIMEZONE of it among these, and of another name there is none
abbrev pub AreByName : {V Y : Type 0} → (Component → V → Type 0) → List Component → List (String Y × V) → Type 0
AreByName Is cs zones =
    (name : List ℕ) → BothOrNeither Is (find (is_zone_called name) cs) (lookup (λ key. bytes_eq name (string_bytes key)) zones)
