-- What callers see of the own lines of a component.
use Rattle.std.specs.Prelude.{ℕ, List, map}
use Rattle.profile.specs.faults.Blame.{Numbered}
use Rattle.ical_lines.specs.Text.{line_text, numbered}
use Rattle.ical_tree.specs.declared.properties.Properties.{Properties}

-- in order
abbrev pub own_lines : Properties → List (List ℕ)
own_lines properties = map line_text properties.lines.items

-- they with their numbers among the logical lines of their octets
abbrev pub own_numbered : Properties → List (ℕ × List ℕ)
own_numbered properties = map numbered properties.lines.items

abbrev pub numbered_own : Properties → Numbered
numbered_own properties = record { begun = properties.begun; lines = own_numbered properties }
