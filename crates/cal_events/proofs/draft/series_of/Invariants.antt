use Rattle.std.proofs.Common.{map}
use Rattle.cal_events.specs.Calendar.{key_of}
use Rattle.cal_events.specs.Masters.{AreSeriesOf}
use Rattle.cal_events.proofs.draft.series_of.Given as goal

-- the series of the masters so far
abbrev pub invariant-loop-master : goal.invariant-loop-master
invariant-loop-master l = AreSeriesOf (map key_of l.overrides) l.yielded l.series.items
