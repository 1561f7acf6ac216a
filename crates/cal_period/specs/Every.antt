-- What is said of two series of many by their places, counted from 0.
use Rattle.std.specs.Prelude.{◌≡◌, ◌≢◌, ℕ, List, MatchOption, Option, Some}
use Rattle.std.specs.List.{slice_get}
use Rattle.profile.specs.checker.Instances.{Instance as SaidInstance, AreClear}
use Rattle.profile.specs.events.Events.{Event}
use Rattle.profile.specs.events.Starts.{IsInstance}
use Rattle.cal_events.specs.Calendar.{instance_of}
use Rattle.cal_events.specs.declared.instance.Instance.{Instance}
use Rattle.cal_period.specs.Clear.{ShareStart}

-- no instance of the series at one place clashes with an instance of the series at another
abbrev pub IsPairClear : List Event → ℕ → ℕ → Type 0
IsPairClear all i j = (a b : Event) → slice_get all i ≡ Some a → slice_get all j ≡ Some b → AreClear (IsInstance a) (IsInstance b)

-- these two share the later start, and where the places are one they have different keys
pub record PairShares (all : List Event) (i j : ℕ) (x y : SaidInstance) : Type 0 where
  pub a : Event
  pub b : Event
  pub at_first : slice_get all i ≡ Some a
  pub at_second : slice_get all j ≡ Some b
  pub first : IsInstance a x
  pub second : IsInstance b y
  pub differ : i ≡ j → x.key ≢ y.key
  pub shared : ShareStart x y

abbrev pub IsAtShared : List Event → ℕ → ℕ → Option (Instance × Instance) → Type 0
IsAtShared all i j shared = MatchOption shared (IsPairClear all i j) (λ s. PairShares all i j (instance_of s.0) (instance_of s.1))
