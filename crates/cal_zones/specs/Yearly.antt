-- The one day a year of a rule.
use Rattle.std.specs.Prelude.{◌≡◌, ℕ, ◌-◌, ◌≤◌, ◌⊎◌}
use Rattle.profile.specs.series.Days.{year_of, month_of, month_days_before, days_in_month}
use Rattle.cal_zones.specs.Shapes.{IsPlaceInMonth}
use Rattle.cal_zones.specs.declared.yearly.Yearly.{Yearly}

-- it is the day of its year
abbrev pub IsOn : Yearly → ℕ → Type 0
IsOn r n =
    (month_of n ≡ r.month)
    × IsPlaceInMonth r.days (n - month_days_before n) (days_in_month (year_of n) (month_of n)) (month_days_before n)

-- and of that year
pub record IsDayOfYear (r : Yearly) (year day : ℕ) : Type 0 where
  pub on : IsOn r day
  pub in_year : year_of day ≡ year

-- the latest of them up to a day
pub record IsLatestDay (r : Yearly) (n day : ℕ) : Type 0 where
  pub on : IsOn r day
  pub within : day ≤ n
  pub latest : (other : ℕ) → IsOn r other → other ≤ n → other ≤ day

-- the first of them from a day on
pub record IsFirstDay (r : Yearly) (n day : ℕ) : Type 0 where
  pub on : IsOn r day
  pub from : n ≤ day
  pub least : (other : ℕ) → IsOn r other → n ≤ other → day ≤ other

-- one of them is in the years from 1 on and not after the day, or the day is after the year 1
abbrev pub HasEarlier : Yearly → ℕ → Type 0
HasEarlier r n = (731 ≤ n) ⊎ ((day : ℕ) × (366 ≤ day) × (day ≤ n) × IsOn r day)
