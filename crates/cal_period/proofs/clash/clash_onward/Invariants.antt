use Rattle.std.proofs.Common.{◌+◌}
use Rattle.cal_events.specs.Series.{series_said}
use Rattle.cal_period.proofs.Tails.{AreOnward}
use Rattle.cal_period.proofs.Sweeping.{steps_left}
use Rattle.cal_period.proofs.clash.clash_onward.Given as goal

abbrev pub invariant-loop-next : goal.invariant-loop-next
invariant-loop-next l = AreOnward (series_said l.a) (series_said l.b) l.from l.of_a l.of_b l.first l.second

abbrev pub decreases-loop-next : goal.decreases-loop-next
decreases-loop-next l = steps_left l.first + steps_left l.second
