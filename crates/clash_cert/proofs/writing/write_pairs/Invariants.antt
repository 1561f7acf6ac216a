use Rattle.std.proofs.Common.{◌≡◌, take, length, map}
use Rattle.ical_values.specs.Written.{Appends}
use Rattle.clash_cert.specs.Texts.{pair_said}
use Rattle.clash_cert.specs.Reading.{SpellsPairs}
use Rattle.clash_cert.proofs.writing.write_pairs.Given as goal

-- the lines of the first ones were appended
abbrev pub invariant-loop-pair : goal.invariant-loop-pair
invariant-loop-pair l =
    Appends l.initial.out.items l.out.items (SpellsPairs (map pair_said (take l.pair-index l.pairs)))
    × (take (length l.initial.out.items) l.out.items ≡ l.initial.out.items)
