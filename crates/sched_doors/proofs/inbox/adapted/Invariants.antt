use Rattle.std.proofs.Common.{◌-◌, length}
use Rattle.sched_doors.proofs.inbox.adapted.Given as goal

abbrev pub decreases-loop-door : goal.decreases-loop-door
decreases-loop-door l = 1_073_741_825 - length l.all.items
