-- From which instant on a series does the same again: after all that it doesn't do again.
use Rattle.std.specs.Prelude.{◌≡◌, ◌⊎◌, true, List, Contains, Option, Some, ℤ, ◌≤ℤ◌, ◌<ℤ◌}
use Rattle.profile.specs.checker.Instances.{horizon}
use Rattle.profile.specs.series.Rules.{Rule}
use Rattle.profile.specs.series.Zones.{AreFirstOnsets}
use Rattle.profile.specs.events.Properties.{first_second}
use Rattle.profile.specs.events.ZonedTimes.{EventTimes, clock_of}
use Rattle.profile.specs.events.EventComponents.{EventComponent}
use Rattle.profile.specs.events.Events.{Event}
use Rattle.profile.specs.events.Starts.{IsRuleStart}
use Rattle.profile.specs.events.Spans.{has_end, IsHalfDayPast, IsPastOnsets, IsPastAll}

-- the least instant from one on that is past some things
pub record IsFirstPast (from : ℤ) (IsPast : ℤ → Type 0) (instant : ℤ) : Type 0 where
  pub not_before : from ≤ℤ instant
  pub past : IsPast instant
  pub least : (other : ℤ) → from ≤ℤ other → IsPast other → instant ≤ℤ other

-- past an exception, if that is in the dates that an event may name
abbrev pub IsPastException : ℤ → ℤ → Type 0
IsPastException exception instant = first_second ≤ℤ exception → exception <ℤ horizon → exception <ℤ instant

-- past all of these
abbrev pub ArePast : List ℤ → ℤ → Type 0
ArePast exceptions instant = (e : ℤ) → Contains exceptions e → IsPastException e instant

-- past the last start of a rule
abbrev pub IsPastStarts : EventTimes → Rule → ℤ → Type 0
IsPastStarts times rule instant = (t : ℤ) → IsRuleStart times rule t → t <ℤ horizon → t <ℤ instant

-- the same where it ends
abbrev pub IsPastRule : EventTimes → Option Rule → ℤ → Type 0
IsPastRule times given instant = (rule : Rule) → given ≡ Some rule → has_end rule ≡ true → IsPastStarts times rule instant

-- past all that a master by its rule doesn't do again
pub record IsPastMaster (master : EventComponent) (instant : ℤ) : Type 0 where
  pub start : master.times.start <ℤ instant
  pub onsets : IsPastOnsets (clock_of master.times.zone) instant
  pub exceptions : ArePast master.exceptions instant
  pub last : IsPastRule master.times master.rule instant

-- the least such instant
pub record IsLeastPastMaster (master : EventComponent) (instant : ℤ) : Type 0 where
  pub past : IsPastMaster master instant
  pub least : (other : ℤ) → IsPastMaster master other → instant ≤ℤ other

-- the least such instant of a series, in the form that a struct can keep: for each master, and all first onsets of its zone
pub record IsKeptPast (series : Event) (instant : ℤ) : Type 0 where
  pub start : (master : EventComponent) → series.master ≡ Some master → master.times.start <ℤ instant
  pub onsets : (master : EventComponent) (x y : Option ℤ) → series.master ≡ Some master → AreFirstOnsets (clock_of master.times.zone) x y
      → (first : ℤ) → (x ≡ Some first) ⊎ (y ≡ Some first) → IsHalfDayPast instant first
  pub exceptions : (master : EventComponent) → series.master ≡ Some master → ArePast master.exceptions instant
  pub last : (master : EventComponent) → series.master ≡ Some master → IsPastRule master.times master.rule instant
  pub least : (other : ℤ) → IsPastAll series other → instant ≤ℤ other
