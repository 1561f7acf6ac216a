use Rattle.cal_events.specs.Series.{series_said}
use Rattle.cal_period.proofs.NearOnsets.{IsBesideSince}
use Rattle.cal_period.proofs.Sweeping.{steps_left}
use Rattle.cal_period.proofs.onsets.clash_since.Given as goal

abbrev pub invariant-loop-next : goal.invariant-loop-next
invariant-loop-next l = IsBesideSince (series_said l.a) (series_said l.b) l.from l.starts l.walk

abbrev pub decreases-loop-next : goal.decreases-loop-next
decreases-loop-next l = steps_left l.walk
