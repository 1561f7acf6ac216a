use Rattle.std.proofs.Common.{◌≡◌, ◌+◌, ◌++◌, drop}
use Rattle.clash_cert.specs.Grouped.{marked_from}
use Rattle.clash_cert.proofs.grouping.numbers_marked.Given as goal

-- what was found, and what is left, are all that are marked
abbrev pub invariant-loop-place : goal.invariant-loop-place
invariant-loop-place l = l.numbers.items ++ marked_from (l.place + 1) (drop l.place l.marks) ≡ marked_from 1 l.marks
