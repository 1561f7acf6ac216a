-- What the components of a message that was read say.
use Rattle.std.specs.Prelude.{◌≡◌, ℕ, ℤ, Bool, true, List, Contains, Option, Some, option_map}
use Rattle.std.specs.List.{list_any, AllZip}
use Rattle.std.specs.Str.{bytes_eq}
use Rattle.profile.specs.series.Zones.{Zone}
use Rattle.profile.specs.events.EventComponents.{EventComponent as SaidComponent}
use Rattle.profile.specs.events.Placed.{IsAt}
use Rattle.profile.specs.events.Properties.{BothOrNeither}
use Rattle.profile.specs.events.Messages as profile
use Rattle.profile.specs.events.Messages.{AreOfMeeting, SpellsMessage, is_to_rooms, master_in}
use Rattle.profile.specs.rooms.Messages.{own_revision}
use Rattle.profile.specs.rooms.Messages as rooms
use Rattle.profile.specs.rooms.Revisions as revisions
use Rattle.ical_values.specs.Octets.{text_octets, address_octets}
use Rattle.ical_values.specs.declared.address.Address.{Address}
use Rattle.ical_values.specs.declared.text.Text.{Text}
use Rattle.itip_order.specs.Parts.{slot_of, revision_of}
use Rattle.itip_order.specs.declared.part.Revision.{Revision}
use Rattle.cal_events.specs.Component.{method_said, time_of}
use Rattle.cal_events.specs.declared.method.Method.{Method}
use Rattle.itip_messages.specs.Body.{IsCanonical, IsReady}
use Rattle.itip_messages.specs.declared.message_component.MessageComponent.{MessageComponent}
pub use Rattle.itip_messages.specs.MessageEvents.{AreMessageEvents, HaveInstances, IsDated, IsDatedEach, event_slot, unattended}

-- the component is what an event says, whatever the METHOD
pub record SaysComponent (event : SaidComponent) (component : MessageComponent) : Type 0 where
  pub slot : slot_of component.slot ≡ rooms.slot_of event
  pub named : option_map time_of component.recurrence ≡ event.written.recurrence
  pub dated : IsDated (rooms.slot_of event)
  pub dated_each : IsDatedEach event
  pub revision : revision_of component.revision ≡ own_revision event
  pub ready : IsReady event
  pub cancelled : component.cancelled ≡ event.cancelled
  pub canonical : IsCanonical component.canonical.items event
  pub summary : text_octets component.summary ≡ event.summary
  pub attendees : component.attendees ≡ event.attendees

-- the component has those of that event
abbrev pub HasInstances : SaidComponent → MessageComponent → Type 0
HasInstances event component = HaveInstances event component.singles.items component.series component.by_room

-- the slot of a component in a room of this zone
abbrev pub IsComponentSlot : Option Zone → MessageComponent → revisions.Slot → Type 0
IsComponentSlot zone component slot =
    (instant : Option ℤ) × BothOrNeither (IsAt zone) (option_map time_of component.recurrence) instant × (slot ≡ rooms.slot_named instant)

-- a message of this method, organiser and UID, with this revision of the whole meeting in it, is that message
pub record AreOfMessage (asked : Method) (by : Address) (named : Text) (whole : Option Revision) (components : List MessageComponent) (said : profile.Message) : Type 0 where
  pub method : method_said asked ≡ said.method
  pub organiser : address_octets by ≡ said.organiser
  pub uid : text_octets named ≡ said.uid
  pub whole_is : option_map revision_of whole ≡ option_map own_revision (master_in said.events)
  pub are : AreOfMeeting said.organiser said.uid said.events
  pub organised : (event : SaidComponent) → Contains said.events event → event.organiser ≡ Some said.organiser
  pub each : AllZip SaysComponent said.events components
  -- only rooms ask for instances
  pub instances : is_to_rooms said.method ≡ true → AllZip HasInstances said.events components

-- and octets spell that
pub record AreLinesRead (asked : Method) (by : Address) (named : Text) (whole : Option Revision) (components : List MessageComponent) : Type 0 where
  pub octets : List ℕ
  pub said : profile.Message
  pub spells : SpellsMessage octets said
  pub are : AreOfMessage asked by named whole components said

-- an ATTENDEE line of the component has the room's address
abbrev pub component_names : List ℕ → MessageComponent → Bool
component_names room component = list_any (λ a. bytes_eq a.address room) component.attendees
