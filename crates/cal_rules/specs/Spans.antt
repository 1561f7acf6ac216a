-- The days of one period, one after another.
use Rattle.std.specs.Prelude.{◌≡◌, ℕ, ◌+◌, ◌<◌, ◌≤◌}
use Rattle.profile.specs.series.Days.{Frequency, period_of}
use Rattle.profile.specs.series.Rules.{reach}

-- from the first on and before the end are the days of the period of n, from 0001-01-01 on (RFC 5545 3.3.10, FREQ)
pub record IsPeriodSpan (frequency : Frequency) (week_start n first end : ℕ) : Type 0 where
  pub first_day : 366 ≤ first
  pub not_before : first ≤ n
  pub not_after : n < end
  pub narrow : end ≤ first + 1 + reach frequency
  pub same : (m : ℕ) → first ≤ m → m < end → period_of frequency week_start m ≡ period_of frequency week_start n
  pub none_before : (m : ℕ) → 366 ≤ m → m < first → period_of frequency week_start m ≡ period_of frequency week_start n → ⊥
  pub none_after : (m : ℕ) → end ≤ m → period_of frequency week_start m ≡ period_of frequency week_start n → ⊥
