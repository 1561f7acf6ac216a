use Rattle.std.proofs.Common.{◌≡◌, ◌++◌, ◌≤◌, length, map}
use Rattle.profile.specs.series.Days.{day_index}
use Rattle.cal_rules.specs.Left.{days_left}
use Rattle.cal_doors.specs.Listed.{days_to}
use Rattle.cal_doors.proofs.rule.listed_days.Given as goal

-- the days so far and those that are left are all
abbrev pub invariant-loop-day : goal.invariant-loop-day
invariant-loop-day l =
    (days_to l.fn.rule (day_index l.fn.first) (day_index l.fn.last) ≡ map day_index l.days.items ++ days_left l.day-iterator)
    × (length l.days.items ≤ 200)
