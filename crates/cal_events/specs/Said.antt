-- That a VEVENT says when an event takes place.
use Rattle.std.specs.Prelude.{◌≡◌, ℕ, true, List, Option, is_some}
use Rattle.profile.specs.text.Trees.{Tree}
use Rattle.profile.specs.series.Rules.{Rule}
use Rattle.profile.specs.series.Zones.{Zone}
use Rattle.profile.specs.series.RoomZones.{IsRoomZone}
use Rattle.profile.specs.events.ZonedTimes.{EventTimes}
use Rattle.profile.specs.events.EventComponents.{Method, EventComponent, SaysEventComponent}
use Rattle.profile.specs.events.Placed.{SaysPlaced}

-- some VEVENT says these times and this rule, in a room of a zone that words mean
pub record AreSaidWith (times : EventTimes) (rule : Option Rule) : Type 0 where
  pub words : List ℕ
  pub room : Option Zone
  pub named : IsRoomZone words room
  pub object : Tree
  pub method : Option Method
  pub lines : List (List ℕ)
  pub event : EventComponent
  pub says : SaysPlaced room object method lines event
  pub times_are : times ≡ event.times
  pub rule_is : rule ≡ event.rule

-- some VEVENT says when the event is, as it is written. An ADD takes that as another instance than it says, without a rule
pub record IsWritten (event : EventComponent) : Type 0 where
  pub object : Tree
  pub method : Option Method
  pub lines : List (List ℕ)
  pub said : EventComponent
  pub says : SaysEventComponent object method lines said
  pub times : event.times ≡ said.times
  pub rule : event.rule ≡ said.rule
  pub additions : event.written.additions ≡ said.written.additions
  pub exceptions : event.written.exceptions ≡ said.written.exceptions
  pub slot : is_some event.rule ≡ true → event.written.recurrence ≡ said.written.recurrence
