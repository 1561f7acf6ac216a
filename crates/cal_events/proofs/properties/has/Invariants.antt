use Rattle.std.proofs.Common.{◌≡◌, map, drop}
use Rattle.ical_lines.specs.Text.{line_text}
use Rattle.std.specs.List.{list_any}
use Rattle.profile.specs.events.EventComponents.{property_name}
use Rattle.profile.specs.events.Properties.{is_of}
use Rattle.ical_tree.specs.Own.{own_lines}
use Rattle.cal_events.specs.Property.{property_said}
use Rattle.cal_events.proofs.properties.has.Given as goal

-- the lines that are left decide it
abbrev pub invariant-loop-line : goal.invariant-loop-line
invariant-loop-line l =
    list_any (is_of (property_name (property_said l.property))) (own_lines l.properties)
    ≡ list_any (is_of (property_name (property_said l.property))) (map line_text (drop l.line-index l.line-items))
