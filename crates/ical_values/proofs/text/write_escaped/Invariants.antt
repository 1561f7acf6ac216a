use Rattle.std.proofs.Common.{◌≡◌, ◌++◌, length, take}
use Rattle.profile.specs.text.Values.{escaped}
use Rattle.ical_values.proofs.text.write_escaped.Given as goal

abbrev pub invariant-loop-octet : goal.invariant-loop-octet
invariant-loop-octet l =
    (l.start ≡ length l.fn.out.items)
    × (l.out.items ≡ l.fn.out.items ++ escaped (take l.octet-index l.octets))
