-- On which days a recurrence rule can fall by its form alone, and when the form does the same again (RFC 5545 3.3.10); and the offsets of a zone
-- (RFC 5545 3.6.5). COUNT, UNTIL, BYMONTH, BYMONTHDAY, BYSETPOS and the numbers of BYDAY don't matter to it: the days are more than the rule has.
use Rattle.std.specs.Prelude.{◌≡◌, ◌⊎◌, ℕ, ◌*◌, ◌<◌, ◌≤◌, Bool, false, ◌&&◌, ◌||◌, ◌==◌, ℤ}
use Rattle.profile.specs.series.Days.{Frequency, Daily, Weekly, Monthly, Yearly, weekday_of}
use Rattle.profile.specs.series.Rules.{Pattern, allows, is_in_step, is_long, is_missing, weekdays_meant}
use Rattle.profile.specs.series.Zones.{Observance, Zone, Constant, Single, Pair}
use Rattle.profile.specs.series.Periods.{IsMultiple}

-- ---- the days that the form allows

-- in DAILY and WEEKLY its period is a multiple of INTERVAL from DTSTART's, before it or after it. In MONTHLY and YEARLY the form doesn't ask for that
abbrev pub is_in_form_step : Pattern → ℕ → Bool
is_in_form_step p n = is_long p.frequency || is_in_step p n

-- BYDAY names its weekday, written or implied, or there is none
abbrev pub is_on_weekday : Pattern → ℕ → Bool
is_on_weekday p n = allows (λ entry. entry.weekday == weekday_of n) (weekdays_meant p)

-- a day that the form allows
unfoldable pub is_in_form : Pattern → ℕ → Bool
is_in_form p n = is_in_form_step p n && is_on_weekday p n

-- ---- when it allows the same days again

abbrev pub IsFormStep : Frequency → ℕ → ℕ → Type 0
IsFormStep Daily interval days = IsMultiple days interval
IsFormStep Weekly interval days = IsMultiple days (7 * interval)
IsFormStep Monthly interval days = Unit {0}
IsFormStep Yearly interval days = Unit {0}

-- so many days later the form allows the same days: they are in step, and the weekdays that BYDAY names are those of before
pub record IsStride (p : Pattern) (days : ℕ) : Type 0 where
  pub steps : IsFormStep p.frequency p.interval days
  pub weeks : is_missing p.weekdays ≡ false → IsMultiple days 7

-- the least such number: the stride of the rule
pub record IsLeastStrideOf (p : Pattern) (days : ℕ) : Type 0 where
  pub some : 0 < days
  pub is : IsStride p days
  pub least : (n : ℕ) → 0 < n → IsStride p n → days ≤ n

-- ---- the offsets of a zone

-- the TZOFFSETFROM or TZOFFSETTO of an observance
abbrev pub IsOffsetIn : Observance → ℤ → Type 0
IsOffsetIn o offset = (offset ≡ o.offset_from) ⊎ (offset ≡ o.offset_to)

-- its one offset, or one of its observances'
abbrev pub IsOffsetOf : Zone → ℤ → Type 0
IsOffsetOf (Constant k) offset = offset ≡ k
IsOffsetOf (Single a) offset = IsOffsetIn a offset
IsOffsetOf (Pair a b) offset = IsOffsetIn a offset ⊎ IsOffsetIn b offset
