use Rattle.std.proofs.Common.{◌≡◌, map, drop}
use Rattle.std.specs.List.{find}
use Rattle.ical_lines.specs.Text.{line_text}
use Rattle.profile.specs.events.EventComponents.{is_named_by}
use Rattle.cal_events.specs.Property.{property_said}
use Rattle.cal_events.proofs.property.first_of.Given as goal

-- the properties that are left decide it
abbrev pub invariant-loop-property : goal.invariant-loop-property
invariant-loop-property l =
    find (is_named_by (line_text l.line)) (map property_said l.properties)
    ≡ find (is_named_by (line_text l.line)) (map property_said (drop l.property-index l.properties))
