-- The stride of two series: the least number of days after which the forms of both rules allow the same days.
use Rattle.std.specs.Prelude.{ℕ, ◌<◌, ◌≤◌, MatchOption, Option}
use Rattle.profile.specs.events.Events.{Event}
use Rattle.profile.specs.events.Residues.{IsLeastStride}

-- it is more than 420 days
abbrev pub HasLongStride : Event → Event → Type 0
HasLongStride a b = (days : ℕ) → IsLeastStride a b days → 420 < days

-- it is found where it isn't
abbrev pub IsStrideOr : Event → Event → Option ℕ → Type 0
IsStrideOr a b found = MatchOption found (HasLongStride a b) (λ days. IsLeastStride a b days × (days ≤ 420))
