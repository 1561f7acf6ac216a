use Rattle.std.proofs.Common.{map}
use Rattle.cal_zones.specs.Kinds.{zone_of}
use Rattle.cal_agenda.specs.PageDays.{day_said}
use Rattle.cal_agenda.proofs.DayLemmas.{AreDaysSofar}
use Rattle.cal_agenda.proofs.days.days_of.Given as goal

-- the days before an index
abbrev pub invariant-loop-index : goal.invariant-loop-index
invariant-loop-index l = AreDaysSofar (zone_of l.zone) l.span.start l.span.end l.index l.start (map day_said l.days.items)
