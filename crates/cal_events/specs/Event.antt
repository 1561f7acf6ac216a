-- What an event with its instances represents.
use Rattle.std.specs.Prelude.{◌↔◌}
use Rattle.profile.specs.checker.Instances.{Instance}
use Rattle.profile.specs.events.Events.{Event as SaidEvent}
use Rattle.profile.specs.events.Starts.{IsInstance}
use Rattle.cal_events.specs.Recurrence.{recurring_with}
use Rattle.cal_events.specs.declared.event.Event.{Event}

abbrev pub said_meeting : Event → SaidEvent
said_meeting e = recurring_with e.name e.recurrence e.overrides.items

-- both have the same instances
abbrev pub AreAlike : SaidEvent → SaidEvent → Type 0
AreAlike one other = (b : Instance) → IsInstance one b ↔ IsInstance other b

-- it has the instances of one for which this holds
pub record TakesPlaceAs (holds : SaidEvent → Type 0) (event : Event) : Type 0 where
  pub said : SaidEvent
  pub is : holds said
  pub alike : AreAlike (said_meeting event) said
