-- What the search for a clash of two series says, and where it begins.
use Rattle.std.specs.Prelude.{◌≡◌, ◌⊎◌, ℤ, ◌≤ℤ◌, ◌<ℤ◌, Option, MatchOption}
use Rattle.profile.specs.checker.Instances.{Instance as SaidInstance, horizon}
use Rattle.profile.specs.events.Events.{Event}
use Rattle.profile.specs.events.Starts.{IsInstance}
use Rattle.cal_events.specs.Calendar.{instance_of}
use Rattle.cal_events.specs.declared.instance.Instance.{Instance}
use Rattle.cal_period.specs.Clear.{AreSeriesClear, IsSeriesClear, AreClearBelow, IsClearBelow, ArePair, AreTwo}

-- two series are clear of each other, or these are an instance of each that share the later start
abbrev pub IsSharedByPair : Event → Event → Option (Instance × Instance) → Type 0
IsSharedByPair a b shared = MatchOption shared (AreSeriesClear a b) (λ s. ArePair a b (instance_of s.0) (instance_of s.1))

-- the same, where those that start before a bound are looked at
abbrev pub IsSharedBelow : Event → Event → ℤ → Option (Instance × Instance) → Type 0
IsSharedBelow a b bound shared = MatchOption shared (AreClearBelow a b bound) (λ s. ArePair a b (instance_of s.0) (instance_of s.1))

-- a series is clear by itself, or these are two instances of it that share the later start
abbrev pub IsSharedAlone : Event → Option (Instance × Instance) → Type 0
IsSharedAlone a shared = MatchOption shared (IsSeriesClear a) (λ s. AreTwo a (instance_of s.0) (instance_of s.1))

abbrev pub IsSharedAloneBelow : Event → ℤ → Option (Instance × Instance) → Type 0
IsSharedAloneBelow a bound shared = MatchOption shared (IsClearBelow a bound) (λ s. AreTwo a (instance_of s.0) (instance_of s.1))

-- what starts before this instant settles whether two series are clear, and whether the first of them is clear by itself
pub record SettlesPair (a b : Event) (bound : ℤ) : Type 0 where
  pub pair : AreClearBelow a b bound → AreSeriesClear a b
  pub alone : IsClearBelow a bound → IsSeriesClear a

-- no instance starts earlier
abbrev pub AreNoneBefore : Event → ℤ → Type 0
AreNoneBefore series instant = (b : SaidInstance) → IsInstance series b → instant ≤ℤ b.start

-- an instance of a series starts then, and none earlier; or it has none
abbrev pub IsFirstStart : Event → Option ℤ → Type 0
IsFirstStart series first =
    MatchOption first ((b : SaidInstance) → IsInstance series b → ⊥) (λ t. AreNoneBefore series t × ((b : SaidInstance) × IsInstance series b × (b.start ≡ t)))

-- an instance of a series starts up to an instant
abbrev pub HasBegun : Event → ℤ → Type 0
HasBegun series instant = (b : SaidInstance) × IsInstance series b × (b.start ≤ℤ instant)

-- two series first meet then or later: both have begun by then, and one of them begins then
pub record MeetFrom (a b : Event) (instant : ℤ) : Type 0 where
  pub before : instant <ℤ horizon
  pub first : HasBegun a instant
  pub second : HasBegun b instant
  pub begins : AreNoneBefore a instant ⊎ AreNoneBefore b instant

-- what starts before the entry is over by an instant
abbrev pub IsEntryBefore : Event → ℤ → ℤ → Type 0
IsEntryBefore series by entry = (entry ≤ℤ by) × ((b : SaidInstance) → IsInstance series b → b.start <ℤ entry → b.end ≤ℤ by)
