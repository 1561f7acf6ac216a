use Rattle.std.proofs.Common.{◌≡◌, take}
use Rattle.std.specs.Str.Parse.{AllDigits, digits_value}
use Rattle.ical_values.specs.Counts.{capped}
use Rattle.ical_values.proofs.duration.leading_number.Given as goal

abbrev pub invariant-loop-i : goal.invariant-loop-i
invariant-loop-i l =
    AllDigits 10 (take l.i l.text) × (l.number ≡ capped (digits_value 10 (take l.i l.text)))
