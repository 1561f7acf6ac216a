-- What a search for a single beside a series says. Singles and series are counted from 0.
use Rattle.std.specs.Prelude.{◌≡◌, ℕ, ℤ, List, Contains, MatchOption, Option, Some}
use Rattle.std.specs.List.{slice_get}
use Rattle.profile.specs.checker.Instances.{Instance as SaidInstance}
use Rattle.profile.specs.events.Events.{Event}
use Rattle.profile.specs.events.Starts.{IsInstance, SharesInstant}
use Rattle.profile.specs.events.Confirmed.{Confirmed, IsInSeries}
use Rattle.cal_events.specs.Calendar.{instance_of}
use Rattle.cal_events.specs.declared.instance.Instance.{Instance}
use Rattle.cal_period.specs.declared.beside.Beside.{Beside}

-- the instance is one of the series at that place, and shares an instant with the span
pub record IsSharer (all : List Event) (start end : ℤ) (place : ℕ) (instance : SaidInstance) : Type 0 where
  pub series : Event
  pub at : slice_get all place ≡ Some series
  pub is : IsInstance series instance
  pub shared : SharesInstant instance.start instance.end start end

-- no instance of one of the series does
abbrev pub HasNoSharer : List Event → ℤ → ℤ → Type 0
HasNoSharer all start end = (b : SaidInstance) → IsInSeries all b → SharesInstant b.start b.end start end → ⊥

abbrev pub IsSharerOr : List Event → ℤ → ℤ → Option (ℕ × Instance) → Type 0
IsSharerOr all start end found = MatchOption found (HasNoSharer all start end) (λ p. IsSharer all start end p.0 (instance_of p.1))

-- the single at a place, and an instance of a series with which it shares an instant
pub record IsBeside (all : Confirmed) (found : Beside) : Type 0 where
  pub single : SaidInstance
  pub at : slice_get all.singles found.single ≡ Some single
  pub sharer : IsSharer all.series single.start single.end found.series (instance_of found.instance)

-- the single at a place shares no instant with an instance of a series, or this is one
abbrev pub IsSingleOr : Confirmed → ℕ → Option Beside → Type 0
IsSingleOr all place found =
    MatchOption found ((single : SaidInstance) → slice_get all.singles place ≡ Some single → HasNoSharer all.series single.start single.end) (IsBeside all)

-- no single does, or these are two
abbrev pub IsBesideOr : Confirmed → Option Beside → Type 0
IsBesideOr all found =
    MatchOption found ((single : SaidInstance) → Contains all.singles single → HasNoSharer all.series single.start single.end) (IsBeside all)
