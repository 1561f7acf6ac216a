use Rattle.std.proofs.Common.{length}
use Rattle.clash_cert.proofs.GroupWords.{AreFirstNumbers}
use Rattle.clash_cert.proofs.reading.numbers_of.Given as goal

-- so many numbers were at the front
abbrev pub invariant-loop-rest : goal.invariant-loop-rest
invariant-loop-rest l = AreFirstNumbers l.text l.numbers.items l.rest

abbrev pub decreases-loop-rest : goal.decreases-loop-rest
decreases-loop-rest l = length l.rest
