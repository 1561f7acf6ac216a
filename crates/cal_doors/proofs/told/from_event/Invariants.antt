use Rattle.std.proofs.Common.{◌≡◌, length}
use Rattle.cal_doors.specs.Told.{events_among}
use Rattle.cal_doors.proofs.told.from_event.Given as goal

-- what was passed has no VEVENT
abbrev pub invariant-loop-left : goal.invariant-loop-left
invariant-loop-left l = events_among l.left ≡ events_among l.fn.components

abbrev pub decreases-loop-left : goal.decreases-loop-left
decreases-loop-left l = length l.left
