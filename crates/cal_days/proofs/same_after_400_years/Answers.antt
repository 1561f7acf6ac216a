use Rattle.cal_days.proofs.Dates.{named_later, weekday_later, month_days_before_later, month_days_after_later, year_days_before_later, year_days_after_later, period_later}
use Rattle.cal_days.proofs.same_after_400_years.Goals as goal

pub returns : goal.returns
returns c = record {
  date = λ n. ((named_later n).year, (named_later n).month, month_days_before_later n, weekday_later n);
  places = λ n. (month_days_after_later n, year_days_before_later n, year_days_after_later n);
  period = period_later;
}
