use Rattle.std.proofs.Common.{length, map}
use Rattle.clash_cert.specs.Texts.{group_said}
use Rattle.clash_cert.specs.Walked.{HasGroupLines, IsOfGroups}
use Rattle.clash_cert.proofs.reading.read_groups.Given as goal

-- the lines of these groups were read, and their series are known
abbrev pub invariant-loop-alloc : goal.invariant-loop-alloc
invariant-loop-alloc l = HasGroupLines l.series (map group_said l.groups.items) l.bytes l.rest × IsOfGroups (map group_said l.groups.items) l.members

abbrev pub decreases-loop-alloc : goal.decreases-loop-alloc
decreases-loop-alloc l = length l.rest
