-- A series of which the instances from an instant on are looked through.
use Rattle.std.specs.Prelude.{◌≡◌, ℕ, ℤ, ◌≤ℤ◌, Option, Some, MatchOption}
use Rattle.std.specs.List.{slice_get}
use Rattle.profile.specs.checker.Instances.{Instance}
use Rattle.profile.specs.events.Events.{Event}
use Rattle.profile.specs.events.Starts.{IsInstance}
use Rattle.profile.specs.events.Confirmed.{Confirmed}
use Rattle.cal_events.specs.Event.{said_meeting}
use Rattle.cal_events.specs.Left.{IsLeft}
use Rattle.cal_events.specs.Instances.{IsAfter}
use Rattle.cal_events.specs.declared.instances.Instances.{Instances}
use Rattle.clash_check.specs.Draws.{IsInstanceSpan, IsSpanBetween}

-- where one is open, the iterator is over the series at that place
abbrev pub AreOfSeries : Confirmed → ℕ → Option Instances → Type 0
AreOfSeries all place opened = (starts : Instances) → opened ≡ Some starts → slice_get all.series place ≡ Some (said_meeting starts.event.now)

-- nothing that starts before an instant is left
abbrev pub NoneIsBefore : ℤ → Option Instances → Type 0
NoneIsBefore from opened = (starts : Instances) → opened ≡ Some starts → (b : Instance) → IsLeft starts b → from ≤ℤ b.start

-- all that start from then on are left
abbrev pub AllAreLeft : ℤ → Option Instances → Type 0
AllAreLeft from opened =
    (starts : Instances) → opened ≡ Some starts → (b : Instance) → IsInstance (said_meeting starts.event.now) b → from ≤ℤ b.start
    → (IsAfter starts.after b.start b.key.slot → ⊥) → ⊥

-- start and end of the first instance of a series that starts at an instant or later; none does
abbrev pub IsFirstSpanFrom : Event → ℤ → Option (ℤ × ℤ) → Type 0
IsFirstSpanFrom series from found =
    MatchOption found ((b : Instance) → IsInstance series b → from ≤ℤ b.start → ⊥)
    (λ p. IsInstanceSpan series p.0 p.1 × (from ≤ℤ p.0) × ((b : Instance) → IsInstance series b → from ≤ℤ b.start → p.0 ≤ℤ b.start))

-- start and end of the first that starts from an instant on and before a bound; none does
abbrev pub IsFirstBetween : Event → ℤ → ℤ → Option (ℤ × ℤ) → Type 0
IsFirstBetween series from bound found =
    MatchOption found ((start end : ℤ) → IsSpanBetween series from bound start end → ⊥)
    (λ p. IsSpanBetween series from bound p.0 p.1 × ((start end : ℤ) → IsSpanBetween series from bound start end → p.0 ≤ℤ start))
