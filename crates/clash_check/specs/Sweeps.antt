-- What a sweep says of two series, or of one by itself: whether two instances share an instant, of those that start before a bound.
use Rattle.std.specs.Prelude.{◌≡◌, ◌≢◌, ℕ, ◌≤◌, ℤ, List, Contains, Bool, true, false}
use Rattle.profile.specs.checker.Instances.{Instance, AreClear}
use Rattle.profile.specs.events.Events.{Event}
use Rattle.profile.specs.events.Starts.{SharesInstant}
use Rattle.profile.specs.events.Spans.{StartsBelow}
use Rattle.clash_check.specs.Draws.{drawn_more}

-- an instance of the one and an instance of the other share an instant before the horizon
pub record HaveShared (a b : Event) (bound : ℤ) : Type 0 where
  pub x : Instance
  pub y : Instance
  pub first : StartsBelow a bound x
  pub second : StartsBelow b bound y
  pub shared : SharesInstant x.start x.end y.start y.end

-- no two do
abbrev pub AreApart : Event → Event → ℤ → Type 0
AreApart a b bound = (x y : Instance) → StartsBelow a bound x → StartsBelow b bound y → SharesInstant x.start x.end y.start y.end → ⊥

-- two instances of one series with different keys share an instant before the horizon
pub record HasShared (a : Event) (bound : ℤ) : Type 0 where
  pub x : Instance
  pub y : Instance
  pub first : StartsBelow a bound x
  pub second : StartsBelow a bound y
  pub differ : x.key ≢ y.key
  pub shared : SharesInstant x.start x.end y.start y.end

-- no two do
abbrev pub IsApart : Event → ℤ → Type 0
IsApart a bound = (x y : Instance) → StartsBelow a bound x → StartsBelow a bound y → x.key ≢ y.key → SharesInstant x.start x.end y.start y.end → ⊥

-- where nothing was found all of these were drawn, else some of them, at least one
abbrev pub IsCountDrawn : Bool → ℕ → ℕ → ℕ → Type 0
IsCountDrawn true old new all = (n : ℕ) × (1 ≤ n) × (n ≤ all) × (new ≡ drawn_more old n)
IsCountDrawn false old new all = new ≡ drawn_more old all

-- no two instances clash that start before a bound, of one of these series and one of those
abbrev pub HaveNoClash : (these those : List Event) → ℤ → Type 0
HaveNoClash these those bound = (a b : Event) → Contains these a → Contains those b → AreClear (StartsBelow a bound) (StartsBelow b bound)
