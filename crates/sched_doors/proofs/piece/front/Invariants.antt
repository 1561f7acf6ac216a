use Rattle.std.proofs.Common.{◌≤◌, ◌-◌, length, take}
use Rattle.sched_doors.specs.Pieces.{IsEmpty, LeadsOn}
use Rattle.sched_doors.proofs.piece.front.Given as goal

abbrev pub invariant-loop-place : goal.invariant-loop-place
invariant-loop-place l = record {
  within : l.place ≤ length l.lent;
  leads : LeadsOn l.fn.cutter (take l.place l.lent) l.cutter;
  empty : IsEmpty l.cutter;
}

abbrev pub decreases-loop-place : goal.decreases-loop-place
decreases-loop-place l = length l.lent - l.place
