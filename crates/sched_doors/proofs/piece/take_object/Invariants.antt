use Rattle.std.proofs.Common.{◌≡◌, ◌-◌, ◌+◌, length}
use Rattle.sched_doors.proofs.Taking.{HasTaken}
use Rattle.sched_doors.proofs.piece.take_object.Given as goal

abbrev pub invariant-loop-reader : goal.invariant-loop-reader
invariant-loop-reader g l =
    HasTaken (g.R.Input.remaining l.fn.reader) (g.R.Input.remaining l.reader) l.fn.cutter l.cutter l.fn.octets.items l.octets.items
    × (g.R.Input.has_failed l.reader ≡ g.R.Input.has_failed l.fn.reader)

abbrev pub decreases-loop-reader : goal.decreases-loop-reader
decreases-loop-reader g l = l.most + 1 - length l.octets.items
