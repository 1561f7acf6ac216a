use Rattle.std.proofs.Common.{drop, map}
use Rattle.profile.specs.series.Days.{day_index}
use Rattle.cal_doors.specs.Runs.{runs_in}
use Rattle.cal_doors.proofs.PartSays.{DaysAdded}
use Rattle.cal_doors.proofs.part.add_days.Given as goal

-- the runs of the days so far were added
abbrev pub invariant-loop-day : goal.invariant-loop-day
invariant-loop-day l =
    DaysAdded l.times.from l.times.to l.second (map day_index l.fn.days) (map day_index (drop l.day-index l.fn.days)) (runs_in l.fn.runs.items) (runs_in l.runs.items)
