-- What is known of the events of a message, whatever room it goes to.
use Rattle.std.specs.Prelude.{◌≡◌, ℕ, ◌<◌, true, [], List, length, All, Option, None, Some, is_some}
use Rattle.profile.specs.series.Zones.{Zone}
use Rattle.profile.specs.series.RoomZones.{IsRoomZone}
use Rattle.profile.specs.events.EventComponents.{AreOfWritten, EventComponent as SaidComponent}
use Rattle.profile.specs.events.Placed.{is_all_fixed}
use Rattle.profile.specs.rooms.Messages as rooms
use Rattle.profile.specs.rooms.Revisions as revisions
use Rattle.profile.specs.text.Values.{IsClockSeconds}
use Rattle.cal_events.specs.Component.{component_of}
use Rattle.cal_events.specs.InRoom.{AreInstancesOf}
use Rattle.cal_events.specs.Said.{IsWritten}
use Rattle.cal_events.specs.declared.component.EventComponent.{EventComponent}
use Rattle.cal_events.specs.declared.instance.Single.{Single}
use Rattle.cal_events.specs.declared.series.Series.{Series}
use Rattle.itip_messages.specs.Body.{IsReady}

-- the slot of a VEVENT
abbrev pub event_slot : EventComponent → revisions.Slot
event_slot event = rooms.slot_of (component_of event)

-- the slot can be written as a stamp
abbrev pub IsDated : revisions.Slot → Type 0
IsDated revisions.Whole = Unit {0}
IsDated (revisions.At t) = IsClockSeconds t

-- the slot of an event can, in whichever room
abbrev pub IsDatedEach : SaidComponent → Type 0
IsDatedEach event =
    (words : List ℕ) (zone : Option Zone) → IsRoomZone words zone → (slot : revisions.Slot) → rooms.IsSlotIn zone event slot → IsDated slot

-- the event without SUMMARY and who attends
abbrev pub unattended : SaidComponent → SaidComponent
unattended event = record event { summary = []; attendees = [] }

-- the instances of an event are those of one that is the same in each room; or the event is there, but for its SUMMARY and who attends
abbrev pub HaveInstances : SaidComponent → List Single → Option Series → Option EventComponent → Type 0
HaveInstances event singles series None =
    (is_all_fixed event ≡ true) × AreOfWritten event.written event.recurrence event.additions event.exceptions × AreInstancesOf event singles series
HaveInstances event singles series (Some own) = component_of own ≡ unattended event

-- these are events that a message has
pub record AreMessageEvents (events : List SaidComponent) : Type 0 where
  pub some : 0 < length events
  pub organised : All (λ event. is_some event.organiser ≡ true) events
  pub stamped : All (λ event. is_some event.stamp ≡ true) events
  pub dated : All (λ event. IsDated (rooms.slot_of event)) events
  pub dated_each : All IsDatedEach events
  pub ready : All IsReady events
  pub written : All IsWritten events
  pub instants : All (λ event. AreOfWritten event.written event.recurrence event.additions event.exceptions) events
