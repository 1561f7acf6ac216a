use Rattle.std.proofs.Common.{◌≡◌, length}
use Rattle.cal_doors.specs.Adapted.{others_among}
use Rattle.cal_doors.proofs.right.past_zones.Given as goal

abbrev pub invariant-loop-left : goal.invariant-loop-left
invariant-loop-left l = others_among l.left ≡ others_among l.fn.components

abbrev pub decreases-loop-left : goal.decreases-loop-left
decreases-loop-left l = length l.left
