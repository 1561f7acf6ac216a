-- The days of a page as they are found.
use Rattle.std.specs.Prelude.{◌≡◌, ◌⊎◌, ℤ, pos, ◌+ℤ◌, ◌-ℤ◌, ◌<ℤ◌, List, [], ◌∷◌, ◌++◌}
use Rattle.cal_agenda.specs.Pages.{PageDay, IsTouched}
use Rattle.cal_agenda.specs.declared.page_span.LocalDay.{LocalDay}

abbrev pub day_said : LocalDay → PageDay
day_said day = record { index = day.index; start = day.start; end = day.end }

-- an instant is less than a day before or behind that of the same reading in UTC
abbrev pub IsNear : ℤ → ℤ → Type 0
IsNear local instant = ((local -ℤ pos 86_400) <ℤ instant) × (instant <ℤ (local +ℤ pos 86_400))

-- a day was added to others, if a span touches it
abbrev pub AddsTouched : ℤ → ℤ → PageDay → List PageDay → List PageDay → Type 0
AddsTouched from until day old new =
    ((new ≡ old ++ day ∷ []) × IsTouched from until day) ⊎ ((new ≡ old) × (IsTouched from until day → ⊥))
