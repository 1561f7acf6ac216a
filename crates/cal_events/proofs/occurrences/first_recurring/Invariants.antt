use Rattle.std.proofs.Common.{◌≡◌, ◌||◌, map, drop, codes}
use Rattle.std.specs.List.{list_any}
use Rattle.ical_lines.specs.Text.{line_text}
use Rattle.ical_tree.specs.Own.{own_lines}
use Rattle.profile.specs.events.Properties.{is_of}
use Rattle.cal_events.proofs.occurrences.first_recurring.Given as goal

-- the lines that are left decide it
abbrev pub invariant-loop-line : goal.invariant-loop-line
invariant-loop-line l =
    list_any (λ line. is_of (codes "RRULE") line || is_of (codes "RDATE") line) (own_lines l.properties)
    ≡ list_any (λ line. is_of (codes "RRULE") line || is_of (codes "RDATE") line) (map line_text (drop l.line-index l.line-items))
