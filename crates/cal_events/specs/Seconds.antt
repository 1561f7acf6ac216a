-- The second of its day at which a series starts.
use Rattle.std.specs.Prelude.{◌≡◌, ℕ, Some}
use Rattle.profile.specs.events.EventComponents.{EventComponent}
use Rattle.profile.specs.events.EventRules.{IsOnDay}
use Rattle.profile.specs.events.Events.{Event}

-- DTSTART of its master is at that second of a day, by the clocks of its zone
abbrev pub IsSecondOf : Event → ℕ → Type 0
IsSecondOf series second = (master : EventComponent) × (series.master ≡ Some master) × (first : ℕ) × IsOnDay master.times.local first second
