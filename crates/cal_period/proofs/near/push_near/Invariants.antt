use Rattle.cal_events.specs.Series.{series_said}
use Rattle.cal_period.proofs.NearLists.{AreTaken}
use Rattle.cal_period.proofs.Sweeping.{steps_left}
use Rattle.cal_period.proofs.near.push_near.Given as goal

abbrev pub invariant-loop-next : goal.invariant-loop-next
invariant-loop-next l = AreTaken (series_said l.series) l.onset l.fn.near.items l.near.items l.starts l.walk

abbrev pub decreases-loop-next : goal.decreases-loop-next
decreases-loop-next l = steps_left l.walk
