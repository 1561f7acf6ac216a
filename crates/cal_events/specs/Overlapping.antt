-- What the search for the first instance that shares an instant with a span rests on.
use Rattle.std.specs.Prelude.{◌≡◌, ℕ, ◌+◌, ◌*◌, Option, Some, None, ℤ, ◌+ℤ◌, ◌-ℤ◌, ◌≤ℤ◌, unsigned_abs}
use Rattle.profile.specs.checker.Instances.{Instance, horizon}
use Rattle.profile.specs.events.ZonedTimes.{EventTimes}
use Rattle.profile.specs.events.Events.{Event}
use Rattle.profile.specs.events.Starts.{IsInstance, EndsAt}
use Rattle.cal_events.specs.MeetingComponents.{IsInEventDates}
use Rattle.cal_events.specs.declared.instances.Bound.{Bound}

-- instances of one start and one slot end then
abbrev pub HaveOneEnd : Event → Type 0
HaveOneEnd meeting = (a b : Instance) → IsInstance meeting a → IsInstance meeting b → a.start ≡ b.start → a.key.slot ≡ b.key.slot → a.end ≡ b.end

-- instances are in the dates that an event may name
abbrev pub AreDated : Event → Type 0
AreDated meeting = (a : Instance) → IsInstance meeting a → IsInEventDates a.key.slot × IsInEventDates a.start

-- no instance with these times lasts longer
abbrev pub LastAtMost : EventTimes → ℤ → Type 0
LastAtMost times seconds = (start end : ℤ) → EndsAt times start end → end ≤ℤ (start +ℤ seconds)

-- how many places are left to come at most, for a walk to end
abbrev pub slots_left : Option ℤ → ℕ
slots_left None = 300_000_000_000
slots_left (Some slot) = unsigned_abs (horizon -ℤ slot)

abbrev pub places_left : Bound → ℕ
places_left bound = 400_000_000_000 * unsigned_abs (horizon -ℤ bound.start) + slots_left bound.slot
