-- The members of rules, zones and series, and from which instant on they recur.
use Rattle.std.specs.Prelude.{◌≡◌, ℕ, ◌+◌, ◌≤◌, true, false, max, Some, ℤ, ◌+ℤ◌, ◌≤ℤ◌, ◌<ℤ◌}
use Rattle.profile.specs.checker.Instances.{Instance, horizon}
use Rattle.profile.specs.series.Rules.{Rule, is_rule_day, last_rule_day}
use Rattle.profile.specs.series.Zones.{Zone, Onset, IsZoneOnset, Means, local_time}
use Rattle.profile.specs.events.ZonedTimes.{EventTimes, clock_of}
use Rattle.profile.specs.events.EventComponents.{EventComponent}
use Rattle.profile.specs.events.EventRules.{IsOnDay}
use Rattle.profile.specs.events.Events.{Event}
use Rattle.profile.specs.events.Spans.{has_end}
use Rattle.profile.specs.events.Starts.{IsInstance}
use Rattle.cal_rules.specs.LastDays.{IsLastDayTo}

-- ---- rules

-- one of its days begins then, on clocks of UTC
abbrev pub IsDayOfRule : Rule → ℤ → Type 0
IsDayOfRule rule instant = (day : ℕ) × (is_rule_day rule day ≡ true) × (instant ≡ local_time day 0)

-- it isn't past 9999-12-31, nor past the last day that UNTIL allows
abbrev pub IsListedDay : Rule → ℤ → Type 0
IsListedDay rule instant = (instant ≤ℤ local_time last_rule_day 0) × (instant ≤ℤ local_time rule.last 0)

-- the first day of year 2, by its index. A week that begins before 0001-01-01 isn't whole
abbrev pub second_year : ℕ
second_year = 731

-- the instant isn't before DTSTART's day nor in year 1, and where COUNT or UNTIL ends the rule, it is after all its days
pub record IsRuleRegular (rule : Rule) (instant : ℤ) : Type 0 where
  pub start : local_time rule.pattern.start 0 ≤ℤ instant
  pub year : has_end rule ≡ false → local_time second_year 0 ≤ℤ instant
  pub last : has_end rule ≡ true → (day : ℕ) → is_rule_day rule day ≡ true → local_time day 0 <ℤ instant

-- DTSTART's day begins then, or year 2 where that is later; of a rule that ends, the day after its last one
pub record IsRuleFrom (rule : Rule) (from : ℤ) : Type 0 where
  pub endless : has_end rule ≡ false → from ≡ local_time (max rule.pattern.start second_year) 0
  pub ended : has_end rule ≡ true → (day : ℕ) → IsLastDayTo rule last_rule_day day → from ≡ local_time (day + 1) 0

-- ---- zones

-- one of its onsets
abbrev pub IsOnsetOf : Zone → ℤ → Type 0
IsOnsetOf zone instant = (onset : Onset) × IsZoneOnset zone onset × (onset.instant ≡ instant)

-- ---- series

-- an instance of a series starts and ends then
abbrev pub Lasts : Event → ℤ → ℤ → Type 0
Lasts series start end = (b : Instance) × IsInstance series b × (b.start ≡ start) × (b.end ≡ end)

-- one starts then (∥ ∥₁ says that one does, and not which)
abbrev pub IsStartOf : Event → ℤ → Type 0
IsStartOf series start = ∥ ((b : Instance) × IsInstance series b × (b.start ≡ start)) ∥₁

-- the time of day of DTSTART means this instant, on a day up to 9999-12-31 of its clocks
pub record IsOnListedDay (times : EventTimes) (instant : ℤ) : Type 0 where
  pub first : ℕ
  pub second : ℕ
  pub on : IsOnDay times.local first second
  pub day : ℕ
  pub to_9999 : day ≤ last_rule_day
  pub means : Means (clock_of times.zone) (local_time day second) instant

-- a start can be there: such an instant before the horizon
pub record IsListedStart (series : Event) (instant : ℤ) : Type 0 where
  pub before : instant <ℤ horizon
  pub on : (master : EventComponent) → series.master ≡ Some master → IsOnListedDay master.times instant

-- each instance is there again so many seconds later, as long, where a start can be there
abbrev pub ComesAgainFrom : Event → ℤ → ℤ → Type 0
ComesAgainFrom series from period =
    (start end : ℤ) → from ≤ℤ start → Lasts series start end → IsListedStart series (start +ℤ period) → Lasts series (start +ℤ period) (end +ℤ period)
