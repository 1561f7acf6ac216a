use Rattle.std.proofs.Common.{arith}
use Rattle.profile.specs.series.Days.{day_index}
use Rattle.cal_days.proofs.Dates.{YearPlace, year_place}
use Rattle.cal_days.proofs.Day.year_days_before.Goals as goal

pub overflow_sub-result : goal.overflow_sub-result
overflow_sub-result c =
    (year_place c.index.result c.year.result c.year_start.result (day_index c.args.self) c.index.ensures.value c.year.ensures.value c.year_start.ensures).begins

pub overflow_cast-result : goal.overflow_cast-result
overflow_cast-result c =
    omega (arith, (year_place c.index.result c.year.result c.year_start.result (day_index c.args.self) c.index.ensures.value c.year.ensures.value c.year_start.ensures).range)

pub returns-clause-value : goal.returns-clause-value
returns-clause-value c =
    (year_place c.index.result c.year.result c.year_start.result (day_index c.args.self) c.index.ensures.value c.year.ensures.value c.year_start.ensures).value

pub returns-clause-range : goal.returns-clause-range
returns-clause-range c =
    (year_place c.index.result c.year.result c.year_start.result (day_index c.args.self) c.index.ensures.value c.year.ensures.value c.year_start.ensures).range
