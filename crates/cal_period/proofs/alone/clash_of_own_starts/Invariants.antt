use Rattle.cal_events.specs.Series.{series_said}
use Rattle.cal_period.proofs.OneSeries.{IsAloneAt}
use Rattle.cal_period.proofs.Sweeping.{steps_left}
use Rattle.cal_period.proofs.alone.clash_of_own_starts.Given as goal

abbrev pub invariant-loop-next : goal.invariant-loop-next
invariant-loop-next l = IsAloneAt (series_said l.a) l.starts l.walk

abbrev pub decreases-loop-next : goal.decreases-loop-next
decreases-loop-next l = steps_left l.walk
