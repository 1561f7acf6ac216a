-- The last start of a rule before year 10000.
use Rattle.std.specs.Prelude.{ℕ, ℤ, pos, ◌+ℤ◌, ◌≤ℤ◌, ◌<ℤ◌}
use Rattle.profile.specs.checker.Instances.{horizon}
use Rattle.profile.specs.series.Rules.{Rule}
use Rattle.profile.specs.series.Zones.{Means, local_time}
use Rattle.profile.specs.events.ZonedTimes.{EventTimes, clock_of}
use Rattle.profile.specs.events.EventRules.{IsOnDay}
use Rattle.profile.specs.events.Starts.{IsRuleStart}
use Rattle.cal_rules.specs.LastDays.{IsLastDayTo}

-- no start is before it
abbrev pub HasNoStart : EventTimes → Rule → Type 0
HasNoStart times rule = (t : ℤ) → IsRuleStart times rule t → t <ℤ horizon → ⊥

-- the greatest of those that are
pub record IsLastStart (times : EventTimes) (rule : Rule) (instant : ℤ) : Type 0 where
  pub starts : IsRuleStart times rule instant
  pub before : instant <ℤ horizon
  pub last : (t : ℤ) → IsRuleStart times rule t → t <ℤ horizon → t ≤ℤ instant

-- the start on the last rule day up to a day. Offsets are less than a day
pub record IsLastStartTo (times : EventTimes) (rule : Rule) (to : ℕ) (instant : ℤ) : Type 0 where
  pub first : ℕ
  pub second : ℕ
  pub on : IsOnDay times.local first second
  pub day : ℕ
  pub is : IsLastDayTo rule to day
  pub means : Means (clock_of times.zone) (local_time day second) instant
  pub near : instant ≤ℤ (local_time day second +ℤ pos 86_400)
