-- The days of a month that a rule names.
use Rattle.std.specs.Prelude.{◌≡◌, ℕ, ◌+◌, ◌-◌, ◌*◌, ◌%◌, ◌<◌, ◌≤◌, Bool}
use Rattle.profile.specs.series.Rules.{Pattern}
use Rattle.profile.specs.series.ZoneTexts as written
use Rattle.profile.specs.series.ZoneTexts.{OnDay, InWeek, YearRule, is_each_year, year_pattern}
use Rattle.cal_zones.specs.declared.yearly.MonthDays.{MonthDays}
use Rattle.cal_zones.specs.declared.yearly.MonthDays.TheVariants.{Day, FromStart, FromEnd, Week}

-- what they represent
abbrev pub days_of : MonthDays → written.MonthDays
days_of (Day day) = OnDay day
days_of (FromStart number weekday) = written.FromStart number weekday
days_of (FromEnd number weekday) = written.FromEnd number weekday
days_of (Week first weekday) = InWeek first weekday

-- a month and days of it
abbrev pub rule_named : ℕ → MonthDays → YearRule
rule_named month days = record { month = month; days = days_of days }

-- every year has this day, once
abbrev pub occurs_yearly : ℕ → MonthDays → Bool
occurs_yearly month days = is_each_year month (days_of days)

-- this many days of its month are before the day, in a month of that length whose first day has that index
abbrev pub IsPlaceInMonth : MonthDays → ℕ → ℕ → ℕ → Type 0
IsPlaceInMonth (Day day) first length before = before + 1 ≡ day
IsPlaceInMonth (FromStart number weekday) first length before =
    ((first + before + 5) % 7 ≡ weekday) × (7 * (number - 1) ≤ before) × (before < 7 * number)
IsPlaceInMonth (FromEnd number weekday) first length before =
    ((first + before + 5) % 7 ≡ weekday) × (7 * (number - 1) ≤ length - before - 1) × (length - before - 1 < 7 * number)
    × (before < length)
IsPlaceInMonth (Week earliest weekday) first length before =
    ((first + before + 5) % 7 ≡ weekday) × (earliest ≤ before + 1) × (before + 1 ≤ earliest + 6)

-- the parts of FREQ=YEARLY with that BYMONTH, on from a DTSTART
abbrev pub yearly_pattern : ℕ → MonthDays → ℕ → Pattern
yearly_pattern month days start = year_pattern (rule_named month days) start
