use Rattle.std.proofs.Common.{List, length, map}
use Rattle.std.specs.Prelude.{IfSome}
use Rattle.profile.specs.checker.Certificates.{Group}
use Rattle.clash_cert.specs.Texts.{pair_said}
use Rattle.clash_cert.specs.Walked.{HasPairLine, HasPairLines, IsOfGroups}
use Rattle.clash_cert.proofs.reading.read_pairs.Given as goal

-- the lines of the pairs before the next one were read
abbrev pub invariant-loop-next : goal.invariant-loop-next
invariant-loop-next l =
    (groups : List Group) → IsOfGroups groups l.members
    → IfSome l.next (λ p. HasPairLine l.series groups p.0 p.1) × HasPairLines l.series groups l.next (map pair_said l.pairs.items) l.bytes l.rest

abbrev pub decreases-loop-next : goal.decreases-loop-next
decreases-loop-next l = length l.rest
