-- What is known of a day.
use Rattle.std.specs.Prelude.{◌≡◌, ◌<◌, ◌≤◌}
use Rattle.profile.specs.series.Days.{weekday_of, month_of, month_days_before, month_days_after, year_days_before, year_days_after}
use Rattle.cal_rules.specs.declared.facts.DayFacts.{DayFacts}

-- the facts are those of the day of that index
pub record AreFacts (f : DayFacts) : Type 0 where
  pub day : (366 ≤ f.index) × (f.index ≤ 3_653_155)
  pub weekday : f.weekday ≡ weekday_of f.index
  pub month : f.month ≡ month_of f.index
  pub month_before : f.month_before ≡ month_days_before f.index
  pub month_after : f.month_after ≡ month_days_after f.index
  pub year_before : f.year_before ≡ year_days_before f.index
  pub year_after : f.year_after ≡ year_days_after f.index
  pub ranges : (f.weekday < 7) × (f.month_before ≤ 30) × (f.month_after ≤ 30) × (f.year_before ≤ 365) × (f.year_after ≤ 365)
