use Rattle.std.proofs.Common.{◌≡◌, ◌++◌, List, drop, map}
use Rattle.std.specs.Prelude.{IfSome}
use Rattle.ical_lines.specs.Text.{line_text}
use Rattle.ical_tree.specs.Own.{own_lines, numbered_own}
use Rattle.profile.specs.events.Occurrences.{ListedTime, entries_named}
use Rattle.cal_events.specs.Zones.{object_of}
use Rattle.cal_events.specs.Occurrences.{name_of, AreListed, IsListLine}
use Rattle.cal_events.proofs.occurrences.SaidInstants.read.Given as goal

-- the lines of the property so far were added, and the others are left
abbrev pub invariant-loop-line : goal.invariant-loop-line
invariant-loop-line l =
    (done : List ListedTime) × (entries_named (name_of l.listing) (own_lines l.properties) ≡ done ++ entries_named (name_of l.listing) (map line_text (drop l.line-index l.line-items)))
    × AreListed (object_of l.zones) (name_of l.listing) done l.said
    × IfSome l.said.outside (IsListLine l.listing (numbered_own l.properties))
