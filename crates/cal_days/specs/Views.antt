-- What the types represent.
use Rattle.std.specs.Prelude.{◌≡◌, ℕ, ◌+◌, ◌*◌, ◌<◌, ◌≤◌}
use Rattle.profile.specs.series.Days.{Frequency, Daily, Weekly, Monthly, Yearly, period_of, periods_in_400_years, shortest_period}
use Rattle.cal_days.specs.declared.period.Frequency as rust
use Rattle.cal_days.specs.declared.period.Frequency.TheVariants as the

abbrev pub frequency_of : rust.Frequency → Frequency
frequency_of the.Daily = Daily
frequency_of the.Weekly = Weekly
frequency_of the.Monthly = Monthly
frequency_of the.Yearly = Yearly

-- 400 years later the periods are as they are here
abbrev pub PeriodsRepeat : Type 0
PeriodsRepeat =
    (frequency : Frequency) (week_start n : ℕ) → week_start < 7
    → period_of frequency week_start (n + 146_097) ≡ period_of frequency week_start n + periods_in_400_years frequency

-- a later day is in no earlier period
abbrev pub PeriodsAscend : Type 0
PeriodsAscend =
    (frequency : Frequency) (week_start n later : ℕ) → n ≤ later
    → period_of frequency week_start n ≤ period_of frequency week_start later

-- and this many of the shortest periods later no more periods have begun
abbrev pub PeriodsLast : Type 0
PeriodsLast =
    (frequency : Frequency) (week_start n later periods : ℕ) → later ≤ n + shortest_period frequency * periods
    → period_of frequency week_start later ≤ period_of frequency week_start n + periods
