use Rattle.std.proofs.Common.{◌≡◌, take, length, map}
use Rattle.ical_values.specs.Written.{Appends}
use Rattle.clash_cert.specs.Texts.{group_said}
use Rattle.clash_cert.specs.Reading.{SpellsGroups}
use Rattle.clash_cert.proofs.writing.write_groups.Given as goal

-- the lines of the first ones were appended
abbrev pub invariant-loop-group : goal.invariant-loop-group
invariant-loop-group l =
    Appends l.initial.out.items l.out.items (SpellsGroups (map group_said (take l.group-index l.groups)))
    × (take (length l.initial.out.items) l.out.items ≡ l.initial.out.items)
