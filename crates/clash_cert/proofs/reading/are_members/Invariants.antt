use Rattle.std.proofs.Common.{◌≡◌, drop}
use Rattle.clash_cert.specs.Reading.{ascend}
use Rattle.clash_cert.proofs.reading.are_members.Given as goal

-- those that are left settle it
abbrev pub invariant-loop-number : goal.invariant-loop-number
invariant-loop-number l = ascend l.series l.last (drop l.number-index l.numbers) ≡ ascend l.series 0 l.numbers
