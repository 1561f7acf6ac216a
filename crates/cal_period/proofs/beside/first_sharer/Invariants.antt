use Rattle.std.proofs.Common.{map}
use Rattle.cal_events.specs.Series.{series_said}
use Rattle.cal_period.proofs.Sharers.{HasNoneBefore}
use Rattle.cal_period.proofs.beside.first_sharer.Given as goal

abbrev pub invariant-loop-place : goal.invariant-loop-place
invariant-loop-place l = HasNoneBefore (map series_said l.series) l.span.start l.span.end l.place
