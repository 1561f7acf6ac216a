-- Which shifts a rule has, by its frequency.
use Rattle.std.specs.Prelude.{◌≡◌, ℕ, ◌*◌, ◌<◌, ◌≤◌, if◌then◌else◌}
use Rattle.profile.specs.series.Rules.{Pattern, is_missing}
use Rattle.profile.specs.series.Periods.{IsMultiple, most_period, names_dates}

-- the least number of days after which the weekdays and dates that a rule names are those of before
abbrev pub days_of_parts : Pattern → ℕ
days_of_parts p = if names_dates p then 146_097 else (if is_missing p.weekdays then 1 else 7)

-- so many of the first number are a multiple of the second, and no fewer are
pub record IsLeastCount (a b most count : ℕ) : Type 0 where
  pub some : 0 < count
  pub few : count ≤ most
  pub multiple : IsMultiple (count * a) b
  pub least : (n : ℕ) → 0 < n → IsMultiple (n * a) b → count ≤ n

abbrev pub HasNoCount : ℕ → ℕ → ℕ → Type 0
HasNoCount a b most = (n : ℕ) → 0 < n → n ≤ most → IsMultiple (n * a) b → ⊥

-- some number of cycles of 400 years is the least that is a multiple of an interval of periods, of which a cycle has so many
pub record IsLeastCycle (periods interval days : ℕ) : Type 0 where
  pub cycles : ℕ
  pub are : days ≡ cycles * 146_097
  pub some : 0 < cycles
  pub in_step : IsMultiple (cycles * periods) interval
  pub least : (q : ℕ) → 0 < q → IsMultiple (q * periods) interval → cycles ≤ q

abbrev pub HasNoCycle : ℕ → ℕ → Type 0
HasNoCycle periods interval = (q : ℕ) → 0 < q → IsMultiple (q * periods) interval → most_period < q * 146_097
