-- Whether instances of two series, or of one, share an instant before the horizon.
use Rattle.std.specs.Prelude.{◌≡◌, ◌≢◌, ◌⊎◌, ℤ, ◌<ℤ◌}
use Rattle.profile.specs.checker.Instances.{Instance, IsWithin, horizon}
use Rattle.profile.specs.events.Events.{Event}
use Rattle.profile.specs.events.Starts.{IsInstance, SharesInstant}

-- no instance of the one shares an instant before the horizon with an instance of the other
abbrev pub AreSeriesClear : Event → Event → Type 0
AreSeriesClear a b = (x y : Instance) → IsInstance a x → IsInstance b y → SharesInstant x.start x.end y.start y.end → ⊥

-- no two instances with different keys do
abbrev pub IsSeriesClear : Event → Type 0
IsSeriesClear a = (x y : Instance) → IsInstance a x → IsInstance a y → x.key ≢ y.key → SharesInstant x.start x.end y.start y.end → ⊥

-- the same of those that start before a bound
abbrev pub AreClearBelow : Event → Event → ℤ → Type 0
AreClearBelow a b bound =
    (x y : Instance) → IsInstance a x → IsInstance b y → x.start <ℤ bound → y.start <ℤ bound → SharesInstant x.start x.end y.start y.end → ⊥

abbrev pub IsClearBelow : Event → ℤ → Type 0
IsClearBelow a bound =
    (x y : Instance) → IsInstance a x → IsInstance a y → x.start <ℤ bound → y.start <ℤ bound → x.key ≢ y.key → SharesInstant x.start x.end y.start y.end → ⊥

-- the start of one of two instances is in both, before the horizon; so it is the later start
pub record ShareStart (x y : Instance) : Type 0 where
  pub instant : ℤ
  pub starts : (instant ≡ x.start) ⊎ (instant ≡ y.start)
  pub before : instant <ℤ horizon
  pub in_first : IsWithin x.start x.end instant
  pub in_second : IsWithin y.start y.end instant

-- an instance of the one and an instance of the other share the later start
pub record ArePair (a b : Event) (x y : Instance) : Type 0 where
  pub first : IsInstance a x
  pub second : IsInstance b y
  pub shared : ShareStart x y

-- two instances with different keys do
pub record AreTwo (a : Event) (x y : Instance) : Type 0 where
  pub first : IsInstance a x
  pub second : IsInstance a y
  pub differ : x.key ≢ y.key
  pub shared : ShareStart x y
