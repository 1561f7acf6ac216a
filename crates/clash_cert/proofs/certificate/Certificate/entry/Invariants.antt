use Rattle.clash_cert.proofs.SortedPairs.{NoneHasBoth}
use Rattle.clash_cert.proofs.certificate.Certificate.entry.Given as goal

-- none of the groups so far has both
abbrev pub invariant-loop-place : goal.invariant-loop-place
invariant-loop-place l = NoneHasBoth l.group-items l.i l.j l.place
