-- Civil dates and day numbers on the proleptic Gregorian calendar.
-- Inside, days are counted from 0000-01-01, so that no number is negative.
use Rattle.std.specs.Prelude.{ℕ, zero, suc, ◌+◌, ◌-◌, ◌*◌, ◌/◌, ◌%◌, ◌≤◌, Bool, true, false, not, ◌&&◌, ◌||◌, ◌==◌, nat_le, if◌then◌else◌, ℤ, pos, negsuc, unsigned_abs, ◌+ℤ◌, ◌-ℤ◌, ◌≤ℤ◌}

-- every fourth year, but of the centuries only every fourth (RFC 5545 3.3.4 by ISO 8601)
abbrev pub is_leap_year : ℕ → Bool
is_leap_year year = (year % 4 == 0) && (not (year % 100 == 0) || (year % 400 == 0))

-- the days of a year
abbrev pub days_in_year : ℕ → ℕ
days_in_year year = if is_leap_year year then 366 else 365

-- April, June, September and November have thirty days
abbrev pub days_in_month : ℕ → ℕ → ℕ
days_in_month year month =
    if month == 2 then (if is_leap_year year then 29 else 28)
    else (if (month == 4) || (month == 6) || (month == 9) || (month == 11) then 30 else 31)

-- the days of the years before this one, from the year 0 on
unfoldable pub days_before_year : ℕ → ℕ
days_before_year zero = 0
days_before_year (suc year) = days_before_year year + days_in_year year

-- the days of the first months of a year, by how many months they are
unfoldable pub days_of_months : ℕ → ℕ → ℕ
days_of_months year zero = 0
days_of_months year (suc months) = days_of_months year months + days_in_month year (suc months)

-- the days from 0000-01-01 to the date
abbrev pub days_before : ℕ → ℕ → ℕ → ℕ
days_before year month day = days_before_year year + days_of_months year (month - 1) + (day - 1)

-- the days from 0000-01-01 to 1970-01-01
abbrev pub days_before_1970 : ℕ
days_before_1970 = 719_528

-- the number of a date: the days from 1970-01-01, negative before it
abbrev pub number_of_date : ℕ → ℕ → ℕ → ℤ
number_of_date year month day = pos (days_before year month day) -ℤ pos days_before_1970

-- the calendar has this date
abbrev pub IsDate : ℕ → ℕ → ℕ → Type 0
IsDate year month day = (1 ≤ month) × (month ≤ 12) × (1 ≤ day) × (day ≤ days_in_month year month)

-- from 0001-01-01 to 10001-12-31, the days that are reckoned with here; this profile's choice
abbrev pub IsDayNumber : ℤ → Type 0
IsDayNumber number = (negsuc 719_161 ≤ℤ number) × (number ≤ℤ pos 2_933_627)

-- a date of those days, by the signed year that programs pass
abbrev pub IsDayDate : ℤ → ℕ → ℕ → Type 0
IsDayDate year month day = (pos 1 ≤ℤ year) × (year ≤ℤ pos 10_001) × IsDate (unsigned_abs year) month day

-- the number of such a date
abbrev pub number_of_day : ℤ → ℕ → ℕ → ℤ
number_of_day year = number_of_date (unsigned_abs year)

-- A DAY, BY THE DAYS BEFORE IT

-- a day is also the count of the days before it from 0000-01-01 on, here called its index
abbrev pub day_index : ℤ → ℕ
day_index number = unsigned_abs (number +ℤ pos days_before_1970)

-- the days of the years before this one, in one sum: a leap day for each of its fourth years, but of its centuries only for each
-- fourth
abbrev pub year_start : ℕ → ℕ
year_start year = 365 * year + (year + 3) / 4 + (year + 399) / 400 - (year + 99) / 100

-- the greatest number up to the last at which the values haven't passed the bound, and 0 where there is none
unfoldable pub greatest : (ℕ → ℕ) → ℕ → ℕ → ℕ
greatest values bound zero = 0
greatest values bound (suc last) =
    elim (nat_le (values (suc last)) bound) [ true ↦ suc last | false ↦ greatest values bound last ]

-- the year of a day: the last one that begins at it or before it
unfoldable pub year_of : ℕ → ℕ
year_of n = greatest year_start n (n / 365)

-- the days of its year before it, and after it
unfoldable pub year_days_before : ℕ → ℕ
year_days_before n = n - year_start (year_of n)

unfoldable pub year_days_after : ℕ → ℕ
year_days_after n = days_in_year (year_of n) - year_days_before n - 1

-- its month, from 1 to 12: the last one that begins at it or before it
unfoldable pub month_of : ℕ → ℕ
month_of n = suc (greatest (days_of_months (year_of n)) (year_days_before n) 11)

-- the days of its month before it, and after it
unfoldable pub month_days_before : ℕ → ℕ
month_days_before n = year_days_before n - days_of_months (year_of n) (month_of n - 1)

unfoldable pub month_days_after : ℕ → ℕ
month_days_after n = days_in_month (year_of n) (month_of n) - month_days_before n - 1

-- its weekday, 0 for Monday; 0000-01-01 is a Saturday, so 1970-01-01 is a Thursday
unfoldable pub weekday_of : ℕ → ℕ
weekday_of n = (n + 5) % 7

-- PERIODS

-- how a rule recurs (RFC 5545 3.3.10, FREQ)
pub data Frequency : Type 0 where
  Daily : Frequency
  Weekly : Frequency
  Monthly : Frequency
  Yearly : Frequency

-- the period of a day: its day, its week from that weekday on, its month or its year, counted from one near 0000-01-01
unfoldable pub period_of : Frequency → ℕ → ℕ → ℕ
period_of Daily week_start n = n
period_of Weekly week_start n = (n + 12 - week_start) / 7
period_of Monthly week_start n = 12 * year_of n + month_of n
period_of Yearly week_start n = year_of n

-- the periods of 400 years, which are 146,097 days
abbrev pub periods_in_400_years : Frequency → ℕ
periods_in_400_years Daily = 146_097
periods_in_400_years Weekly = 20_871
periods_in_400_years Monthly = 4800
periods_in_400_years Yearly = 400

-- the days of the shortest period
abbrev pub shortest_period : Frequency → ℕ
shortest_period Daily = 1
shortest_period Weekly = 7
shortest_period Monthly = 28
shortest_period Yearly = 365
