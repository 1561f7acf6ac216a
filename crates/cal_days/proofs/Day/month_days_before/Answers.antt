use Rattle.std.proofs.Common.{arith}
use Rattle.profile.specs.series.Days.{day_index}
use Rattle.cal_days.proofs.Dates.{month_place_max}
use Rattle.cal_days.proofs.Day.month_days_before.Goals as goal

pub returns-clause-range : goal.returns-clause-range
returns-clause-range c = omega (arith, c.civil.ensures.parts.2, month_place_max (day_index c.args.self))
