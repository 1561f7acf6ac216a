-- The span of series.
use Rattle.std.specs.Prelude.{◌≡◌, ◌⊎◌, ◌↔◌, ℕ, ◌*◌, ◌<◌, List, [], ◌∷◌, Contains, ℤ, pos, ◌≤ℤ◌, ◌<ℤ◌}
use Rattle.profile.specs.checker.Instances.{horizon}
use Rattle.profile.specs.checker.Certificates.{IsLeastSpan, IsShortSpan}
use Rattle.profile.specs.series.Periods.{IsMultiple, most_period}
use Rattle.profile.specs.events.Events.{Event}
use Rattle.profile.specs.events.Spans.{IsBoundOf, IsGreatestWidth, IsPastAll, IsPeriodOf}
use Rattle.cal_period.specs.declared.common.Common.{Common}
use Rattle.cal_period.specs.declared.span.CommonSpan.{CommonSpan}

-- all these series do the same after so many days
abbrev pub IsCommonPeriod : List Event → ℕ → Type 0
IsCommonPeriod all days = (series : Event) → Contains all series → IsPeriodOf series days

-- the instant is past what each of them does only once
abbrev pub IsPastEach : List Event → ℤ → Type 0
IsPastEach all instant = (series : Event) → Contains all series → IsPastAll series instant

-- every common period is past the most
abbrev pub HasNoPeriodInCommon : List Event → Type 0
HasNoPeriodInCommon all = (n : ℕ) → 0 < n → IsCommonPeriod all n → most_period < n

-- this is what they have in common
pub record HaveInCommon (all : List Event) (common : Common) : Type 0 where
  pub some : 0 < common.days
  pub periods : (n : ℕ) → IsCommonPeriod all n ↔ IsMultiple n common.days
  pub past : IsPastEach all common.past
  pub least : (t : ℤ) → IsPastEach all t → common.past ≤ℤ t
  pub width : IsGreatestWidth all common.width

-- they have no span whose bound is before the horizon
abbrev pub HasNoSpan : List Event → Type 0
HasNoSpan all = (from : ℤ) (days : ℕ) → IsShortSpan all from days → ⊥

-- it is their least span, and its bound is before the horizon
abbrev pub IsSpanOf : List Event → CommonSpan → Type 0
IsSpanOf all span = IsLeastSpan all span.from span.days × IsBoundOf all span.from span.days span.bound × (span.bound <ℤ horizon)

-- up to there two series are compared: to the bound of their least span where that is before the horizon, else to the horizon
abbrev pub AreComparedTo : Event → Event → ℤ → Type 0
AreComparedTo a b bound =
    (HasNoSpan (a ∷ b ∷ []) × (bound ≡ horizon))
    ⊎ ((from : ℤ) × (days : ℕ) × IsLeastSpan (a ∷ b ∷ []) from days × IsBoundOf (a ∷ b ∷ []) from days bound × (bound <ℤ horizon))

-- the first 00:00:00Z from 1970 on that isn't before an instant
pub record IsNextMidnight (instant midnight : ℤ) : Type 0 where
  pub is : (n : ℕ) × (midnight ≡ pos (86_400 * n))
  pub not_before : instant ≤ℤ midnight
  pub first : (n : ℕ) → instant ≤ℤ pos (86_400 * n) → midnight ≤ℤ pos (86_400 * n)
