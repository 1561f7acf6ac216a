use Rattle.std.proofs.Common.{map}
use Rattle.cal_events.specs.Calendar.{owned_key_of}
use Rattle.cal_events.specs.Series.{series_said}
use Rattle.clash_check.proofs.ClashLemmas.{NoSeriesHas}
use Rattle.clash_check.proofs.checking.of_series.Given as goal

abbrev pub invariant-loop-place : goal.invariant-loop-place
invariant-loop-place l = NoSeriesHas (map series_said l.series) (owned_key_of l.key) l.place
