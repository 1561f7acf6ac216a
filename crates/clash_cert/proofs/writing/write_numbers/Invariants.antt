use Rattle.std.proofs.Common.{◌≡◌, ◌++◌, take}
use Rattle.profile.specs.checker.Certificates.{numbers_text}
use Rattle.clash_cert.proofs.writing.write_numbers.Given as goal

-- the first ones were appended
abbrev pub invariant-loop-number : goal.invariant-loop-number
invariant-loop-number l = l.out.items ≡ l.initial.out.items ++ numbers_text (take l.number-index l.numbers)
