use Rattle.cal_events.specs.Series.{series_said}
use Rattle.cal_period.proofs.NearOnsets.{IsAloneSince}
use Rattle.cal_period.proofs.Sweeping.{steps_left}
use Rattle.cal_period.proofs.onsets.clash_alone_since.Given as goal

abbrev pub invariant-loop-next : goal.invariant-loop-next
invariant-loop-next l = IsAloneSince (series_said l.a) l.from l.starts l.walk

abbrev pub decreases-loop-next : goal.decreases-loop-next
decreases-loop-next l = steps_left l.walk
