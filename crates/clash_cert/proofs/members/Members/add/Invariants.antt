use Rattle.std.proofs.Common.{length}
use Rattle.clash_cert.proofs.MemberLemmas.{AreAdded}
use Rattle.clash_cert.proofs.members.Members.add.Given as goal

-- the numbers behind those that are left are added
abbrev pub invariant-loop-left : goal.invariant-loop-left
invariant-loop-left l = AreAdded l.group l.numbers l.left l.fn.self l.self l.after

abbrev pub decreases-loop-left : goal.decreases-loop-left
decreases-loop-left l = length l.left
