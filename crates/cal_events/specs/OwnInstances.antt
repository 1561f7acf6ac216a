-- The instances of a VEVENT by itself, as they are made.
use Rattle.std.specs.Prelude.{◌≡◌, ℤ}
use Rattle.profile.specs.checker.Instances.{Instance}
use Rattle.profile.specs.events.ZonedTimes.{clock_of}
use Rattle.profile.specs.events.EventComponents.{EventComponent}
use Rattle.profile.specs.events.Starts.{EndsAt, key_at}
use Rattle.cal_events.specs.Clocks.{IsSteady}
use Rattle.cal_events.specs.MeetingComponents.{IsInEventDates}
use Rattle.cal_events.specs.declared.instance.Single.{Single}

-- the times of an event are such as some VEVENT says
pub record IsTimely (event : EventComponent) : Type 0 where
  pub steady : IsSteady (clock_of event.times.zone)
  pub starts : IsInEventDates event.times.start

-- the instance of the event's meeting that it is
abbrev pub own_instance_at : EventComponent → Single → Instance
own_instance_at event single = record { key = key_at event single.slot; start = single.span.start; end = single.span.end }

-- it is the instance of that slot at a start
pub record IsInstanceAt (event : EventComponent) (slot start : ℤ) (single : Single) : Type 0 where
  pub slot_is : single.slot ≡ slot
  pub starts : single.span.start ≡ start
  pub ends : EndsAt event.times start single.span.end
