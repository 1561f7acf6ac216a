-- What a series represents.
use Rattle.std.specs.Prelude.{◌≡◌, ◌↔◌, ◌≤ℤ◌, ◌<ℤ◌, ℤ, true, Contains, List, Some}
use Rattle.profile.specs.checker.Instances.{Instance, horizon}
use Rattle.profile.specs.events.EventComponents.{EventComponent as Said}
use Rattle.profile.specs.events.Events.{Event as SaidEvent}
use Rattle.profile.specs.events.Properties.{first_second}
use Rattle.profile.specs.events.Starts.{IsInstance}
use Rattle.profile.specs.events.Confirmed.{alone, has_series, IsByItsRule, IsOfSeries}
use Rattle.cal_events.specs.Ruled.{IsLeftOf}
use Rattle.cal_events.specs.Event.{said_meeting}
use Rattle.cal_events.specs.declared.series.Series.{Series}

-- its master by its rule alone, as a meeting
abbrev pub series_said : Series → SaidEvent
series_said s = said_meeting s.event.value

-- this is that master
abbrev pub IsMasterOf : SaidEvent → Said → Type 0
IsMasterOf series master = series.master ≡ Some master

-- its instances are known by their starts, which are in the dates that an event may name: the slot of each is its start
pub record AreKnownByStart (series : SaidEvent) : Type 0 where
  pub slots : (b : Instance) → IsInstance series b → b.key.slot ≡ b.start
  pub dates : (b : Instance) → IsInstance series b → (first_second ≤ℤ b.start) × (b.start <ℤ horizon)
  pub one : (a b : Instance) → IsInstance series a → IsInstance series b → a.start ≡ b.start → a ≡ b

-- the series of an event by itself: its instances are those that the event's RRULE gives
pub record IsSeriesOf (event : Said) (series : SaidEvent) : Type 0 where
  pub has : has_series event ≡ true
  pub instances : (b : Instance) → IsInstance series b ↔ (IsInstance (alone event) b × IsOfSeries event b)
  pub ruled : IsByItsRule event (Contains event.exceptions) series

-- what is left of a series without its instances at these starts
pub record IsSeriesWithout (series : SaidEvent) (starts : List ℤ) (left : SaidEvent) : Type 0 where
  pub instances : (b : Instance) → IsInstance left b ↔ (IsInstance series b × (Contains starts b.start → ⊥))
  pub ruled : (own : Said) → IsMasterOf series own → IsLeftOf own (Contains starts) left
