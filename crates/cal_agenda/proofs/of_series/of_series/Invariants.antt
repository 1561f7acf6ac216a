use Rattle.std.proofs.Common.{map}
use Rattle.cal_events.specs.Calendar.{instance_of}
use Rattle.cal_events.specs.Series.{series_said}
use Rattle.cal_agenda.proofs.SeriesWalk.{IsWalk, seconds_left}
use Rattle.cal_agenda.proofs.of_series.of_series.Given as goal

abbrev pub invariant-loop-next : goal.invariant-loop-next
invariant-loop-next l = IsWalk (series_said l.series) l.span.start l.span.end (map instance_of l.found.items) l.next l.starts

abbrev pub decreases-loop-next : goal.decreases-loop-next
decreases-loop-next l = seconds_left l.next
