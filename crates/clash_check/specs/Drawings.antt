-- What is to come of the series of a calendar.
use Rattle.std.specs.Prelude.{◌≡◌, ℕ, ◌<◌, ◌-◌, ℤ, List, Some}
use Rattle.std.specs.List.{slice_get}
use Rattle.profile.specs.events.Events.{Event}
use Rattle.profile.specs.events.Confirmed.{Confirmed}
use Rattle.clash_check.specs.Draws.{IsSpanBetween}
use Rattle.clash_check.specs.declared.drawing.Wanted.{Wanted}

-- an instance that starts and ends then is wanted of a series, counted from 1
pub record IsComing (all : Confirmed) (wanted : List Wanted) (i : ℕ) (start end : ℤ) : Type 0 where
  pub counted : 0 < i
  pub series : Event
  pub at : slice_get all.series (i - 1) ≡ Some series
  pub part : Wanted
  pub wants : slice_get wanted (i - 1) ≡ Some part
  pub is : IsSpanBetween series part.from part.bound start end
