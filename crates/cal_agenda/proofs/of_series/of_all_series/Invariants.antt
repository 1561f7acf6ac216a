use Rattle.std.proofs.Common.{map, take}
use Rattle.profile.specs.events.Confirmed.{IsInSeries}
use Rattle.cal_events.specs.Calendar.{instance_of}
use Rattle.cal_agenda.specs.InSpan.{AreAllInSpan}
use Rattle.cal_agenda.proofs.of_series.of_all_series.Given as goal

-- of those before
abbrev pub invariant-loop-series : goal.invariant-loop-series
invariant-loop-series l = AreAllInSpan (IsInSeries (take l.series-index l.calendar.series)) l.span.start l.span.end (map instance_of l.found.items)
