use Rattle.std.proofs.Common.{arith}
use Rattle.profile.specs.series.Days.{day_index}
use Rattle.cal_days.proofs.Dates.{YearRest, year_rest}
use Rattle.cal_days.proofs.Day.year_days_after.Goals as goal

pub overflow_sub-result-2 : goal.overflow_sub-result-2
overflow_sub-result-2 c =
    (year_rest c.year.result c.days_in_year.result c.year_days_before.result (day_index c.args.self) c.year.ensures.value c.days_in_year.ensures c.year_days_before.ensures.value).within

pub returns-clause-value : goal.returns-clause-value
returns-clause-value c =
    (year_rest c.year.result c.days_in_year.result c.year_days_before.result (day_index c.args.self) c.year.ensures.value c.days_in_year.ensures c.year_days_before.ensures.value).value
