use Rattle.std.proofs.Common.{arith}
use Rattle.profile.specs.series.Days.{day_index}
use Rattle.cal_days.proofs.Dates.{month_rest}
use Rattle.cal_days.proofs.Day.month_days_after.Goals as goal

pub overflow_sub-result-2 : goal.overflow_sub-result-2
overflow_sub-result-2 c =
    (month_rest c.days_in_month.result c.month_days_before.result (day_index c.args.self) c.days_in_month.ensures.value c.month_days_before.ensures.value).0

pub returns-clause-value : goal.returns-clause-value
returns-clause-value c =
    (month_rest c.days_in_month.result c.month_days_before.result (day_index c.args.self) c.days_in_month.ensures.value c.month_days_before.ensures.value).1

pub overflow_sub-result : goal.overflow_sub-result
overflow_sub-result c =
    omega (arith, (month_rest c.days_in_month.result c.month_days_before.result (day_index c.args.self) c.days_in_month.ensures.value c.month_days_before.ensures.value).0)
