use Rattle.std.proofs.Common.{List, ◌<◌, ◌≤◌, ◌-◌}
use Rattle.profile.specs.checker.Certificates.{Group}
use Rattle.clash_cert.specs.Walked.{IsOfGroups}
use Rattle.clash_cert.proofs.MemberLemmas.{AreSkipped}
use Rattle.clash_cert.proofs.members.Members.pair_from.Given as goal

-- the pairs so far have no line
abbrev pub invariant-loop-place : goal.invariant-loop-place
invariant-loop-place l =
    (l.i ≤ l.series)
    × ((groups : List Group) → IsOfGroups groups l.self → 0 < l.first → l.first ≤ l.second → AreSkipped l.series groups l.first l.second l.i l.j)

abbrev pub decreases-loop-place : goal.decreases-loop-place
decreases-loop-place l = l.series - l.i
