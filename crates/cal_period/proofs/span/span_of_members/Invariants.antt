use Rattle.std.proofs.Common.{suc, map}
use Rattle.cal_events.specs.Series.{series_said}
use Rattle.cal_period.proofs.Numbered.{IsOfFirst}
use Rattle.cal_period.proofs.span.span_of_members.Given as goal

abbrev pub invariant-loop-number : goal.invariant-loop-number
invariant-loop-number l = IsOfFirst (map series_said l.series) l.members (suc l.number-index) l.common
