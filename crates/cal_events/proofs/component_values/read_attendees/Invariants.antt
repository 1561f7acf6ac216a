use Rattle.std.proofs.Common.{◌≡◌, ◌++◌, ℕ, List, drop, map, codes}
use Rattle.std.specs.List.{AllZip}
use Rattle.ical_lines.specs.Text.{line_text}
use Rattle.profile.specs.events.EventComponents.{IsAttendee}
use Rattle.profile.specs.events.Properties.{lines_named}
use Rattle.ical_tree.specs.Own.{own_lines}
use Rattle.cal_events.specs.Component.{attendee_of}
use Rattle.cal_events.proofs.component_values.read_attendees.Given as goal

-- the ATTENDEE lines so far say the attendees so far, and the others are left
abbrev pub invariant-loop-line : goal.invariant-loop-line
invariant-loop-line l =
    (done : List (List ℕ)) × (lines_named (codes "ATTENDEE") (own_lines l.properties) ≡ done ++ lines_named (codes "ATTENDEE") (map line_text (drop l.line-index l.line-items)))
    × AllZip IsAttendee done (map attendee_of l.attendees.items)
