use Rattle.cal_events.specs.Series.{series_said}
use Rattle.cal_period.specs.NearSpans.{IsPassedBy}
use Rattle.cal_period.proofs.NearLists.{HoldsBefore}
use Rattle.cal_period.proofs.near.are_passed_by.Given as goal

abbrev pub invariant-loop-one : goal.invariant-loop-one
invariant-loop-one l = HoldsBefore (IsPassedBy (series_said l.other) l.reach l.bound) l.near l.one-index
