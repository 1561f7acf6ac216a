-- After how many days a recurrence rule does the same again (RFC 5545 3.3.10). Apart from COUNT and UNTIL.
use Rattle.std.specs.Prelude.{◌≡◌, ℕ, ◌*◌, ◌<◌, ◌≤◌, Bool, true, false, not, ◌&&◌}
use Rattle.profile.specs.series.Days.{Frequency, Daily, Weekly, Monthly, Yearly}
use Rattle.profile.specs.series.Rules.{Pattern, is_missing}

abbrev pub IsMultiple : ℕ → ℕ → Type 0
IsMultiple n of = (k : ℕ) × (n ≡ k * of)

-- so many days are a multiple of INTERVAL of the rule's periods. Months and years are of one length only over 400 years, which are
-- 146,097 days
abbrev pub IsInStep : Frequency → ℕ → ℕ → Type 0
IsInStep Daily interval days = IsMultiple days interval
IsInStep Weekly interval days = IsMultiple days (7 * interval)
IsInStep Monthly interval days = (q : ℕ) × (days ≡ q * 146_097) × IsMultiple (q * 4800) interval
IsInStep Yearly interval days = (q : ℕ) × (days ≡ q * 146_097) × IsMultiple (q * 400) interval

-- BYMONTH or BYMONTHDAY is written
abbrev pub names_dates : Pattern → Bool
names_dates p = not (is_missing p.months && is_missing p.month_days)

-- so many days later the rule does the same: it is in step, and the weekdays and the dates that its parts name are those of before
pub record IsShift (p : Pattern) (days : ℕ) : Type 0 where
  pub steps : IsInStep p.frequency p.interval days
  pub weeks : is_missing p.weekdays ≡ false → IsMultiple days 7
  pub dates : names_dates p ≡ true → IsMultiple days 146_097

-- the most days that a period of series may have; this profile's choice
abbrev pub most_period : ℕ
most_period = 2_932_897

-- the least number of days that is a multiple of both
pub record IsLeastMultiple (a b days : ℕ) : Type 0 where
  pub some : 0 < days
  pub of_first : IsMultiple days a
  pub of_second : IsMultiple days b
  pub least : (n : ℕ) → 0 < n → IsMultiple n a → IsMultiple n b → days ≤ n

-- every such number is past the most
abbrev pub HasNoMultiple : ℕ → ℕ → Type 0
HasNoMultiple a b = (n : ℕ) → 0 < n → IsMultiple n a → IsMultiple n b → most_period < n

-- the period of a rule apart from COUNT and UNTIL: its least shift
pub record IsPeriod (p : Pattern) (days : ℕ) : Type 0 where
  pub some : 0 < days
  pub shift : IsShift p days
  pub least : (n : ℕ) → 0 < n → IsShift p n → days ≤ n

-- every shift is past the most
abbrev pub HasNoPeriod : Pattern → Type 0
HasNoPeriod p = (n : ℕ) → 0 < n → IsShift p n → most_period < n
