-- Events in a room, as the code has them.
use Rattle.std.specs.Prelude.{◌≡◌, false, [], None, map, MatchOption, List, Option}
use Rattle.std.specs.List.{AllZip}
use Rattle.profile.specs.series.Zones.{Zone}
use Rattle.profile.specs.events.Properties.{BothOrNeither}
use Rattle.profile.specs.events.EventComponents.{EventComponent}
use Rattle.profile.specs.events.Confirmed.{AreApart, has_series}
use Rattle.profile.specs.events.Placed.{IsAt, IsInstantIn, IsPlaced, zone_in}
use Rattle.cal_events.specs.OwnInstances.{IsTimely, own_instance_at}
use Rattle.cal_events.specs.Series.{IsSeriesOf, series_said}
use Rattle.cal_events.specs.Times.{times_of}
use Rattle.cal_events.specs.declared.instance.Single.{Single}
use Rattle.cal_events.specs.declared.place.PlacedTimes.{PlacedTimes}
use Rattle.cal_events.specs.declared.series.Series.{Series}

-- these are the instances of an event: those that no rule gives, and those that its rule gives, if it has one
pub record AreInstancesOf (event : EventComponent) (own : List Single) (given : Option Series) : Type 0 where
  pub singles : AreApart event (map (own_instance_at event) own)
  pub series : MatchOption given (has_series event ≡ false) (λ series. IsSeriesOf event (series_said series))

-- and these those in a room of this zone
pub record AreInstancesIn (room : Option Zone) (event : EventComponent) (own : List Single) (given : Option Series) : Type 0 where
  pub placed : EventComponent
  pub is_placed : IsPlaced room event placed
  pub timely : IsTimely placed
  pub are : AreInstancesOf placed own given

-- the times of an event in a room of this zone
pub record ArePlacedTimes (room : Option Zone) (event : EventComponent) (times : PlacedTimes) : Type 0 where
  pub starts : IsInstantIn room event.times.form event.times.start (times_of times.times).start
  pub is : times_of times.times ≡ record event.times { zone = zone_in room event.times.form event.times.zone; start = (times_of times.times).start }
  pub slot : BothOrNeither (IsAt room) event.written.recurrence times.recurrence
  pub adds : AllZip (IsAt room) event.written.additions times.additions.items
  pub takes : AllZip (IsAt room) event.written.exceptions times.exceptions.items

-- the event as it is there, without its SUMMARY, who attends and how its times are written
abbrev pub unwritten : EventComponent → EventComponent
unwritten event = record event { written = record { recurrence = None; additions = []; exceptions = [] }; summary = []; attendees = [] }

pub record IsPlacedCopy (room : Option Zone) (event copy : EventComponent) : Type 0 where
  pub placed : EventComponent
  pub is_placed : IsPlaced room event placed
  pub is : copy ≡ unwritten placed
