-- The starts of a master that belong to no series.
use Rattle.std.specs.Prelude.{◌≡◌, ◌⊎◌, ◌<◌, ◌-◌, All, AllPairs, Contains, List, [], length, get_or, Some, None, ℤ, ◌<ℤ◌}
use Rattle.profile.specs.series.Rules.{Rule}
use Rattle.profile.specs.events.EventComponents.{EventComponent}
use Rattle.profile.specs.events.Starts.{IsStart, IsRuleStart}
use Rattle.cal_events.specs.MeetingComponents.{IsInEventDates}

-- its rule gives a start at an instant
abbrev pub IsOnRule : EventComponent → ℤ → Type 0
IsOnRule master instant = (rule : Rule) × (master.rule ≡ Some rule) × IsRuleStart master.times rule instant

-- a start of a master by itself that no rule gives
abbrev pub IsSingleStart : EventComponent → ℤ → Type 0
IsSingleStart master instant = IsStart master [] instant × (IsOnRule master instant → ⊥)

-- all of them, ascending, each once
pub record AreSingleStarts (master : EventComponent) (starts : List ℤ) : Type 0 where
  pub each : All (IsSingleStart master) starts
  pub ascending : AllPairs ◌<ℤ◌ starts
  pub all : (instant : ℤ) → IsSingleStart master instant → Contains starts instant

-- DTSTART where there is no rule, or an RDATE
abbrev pub IsCandidate : EventComponent → ℤ → Type 0
IsCandidate master instant = ((master.rule ≡ None) × (instant ≡ master.times.start)) ⊎ Contains master.additions instant

-- the last of them is this one
abbrev pub IsLast : List ℤ → ℤ → Type 0
IsLast starts instant = (0 < length starts) × (get_or starts (length starts - 1) instant ≡ instant)

-- of the candidates it is one that is in the dates, that EXDATE doesn't name, and that no rule gives
abbrev pub IsLeftOver : EventComponent → ℤ → Type 0
IsLeftOver master instant = IsInEventDates instant × (Contains master.exceptions instant → ⊥) × (IsOnRule master instant → ⊥)
