-- What a message that was read represents, its parts, and why one is refused.
use Rattle.std.specs.Prelude.{◌≡◌, ◌⊎◌, ℕ, ◌||◌, ◌&&◌, ◌==◌, Bool, true, false, List, length, option_map, if◌then◌else◌, Option, None, Some}
use Rattle.std.specs.List.{list_all, list_any}
use Rattle.ical_lines.specs.Fault.{RefusesBy}
use Rattle.ical_lines.specs.declared.fault.Fault.{Fault}
use Rattle.ical_tree.specs.Reading.{IsRefusalOf}
use Rattle.profile.specs.text.Lines.{is_same_name}
use Rattle.profile.specs.text.Trees.{Tree}
use Rattle.profile.specs.events.EventComponents as events
use Rattle.profile.specs.events.EventComponents.{ATTENDEE, EventComponent as SaidComponent, is_of_one, presence}
use Rattle.profile.specs.events.Messages as profile
use Rattle.profile.specs.events.Messages.{SaysMessage, SpellsMessage, MessageTextFault, has_one_attendee, is_method, is_to_rooms, method_word}
use Rattle.profile.specs.rooms.Messages.{is_cancel, raised_to}
use Rattle.profile.specs.rooms.Revisions as revisions
use Rattle.profile.specs.series.Zones.{Zone}
use Rattle.ical_values.specs.Octets.{text_octets, address_octets}
use Rattle.itip_order.specs.Parts.{revision_of}
use Rattle.cal_events.specs.Component.{method_said}
use Rattle.cal_events.specs.declared.method.Method.{Method}
use Rattle.cal_events.specs.declared.method.Method.TheVariants.{Store, Request, Add, Cancel, Reply, Refresh}
use Rattle.itip_messages.specs.declared.message.Message.{Message}
use Rattle.itip_messages.specs.declared.message_component.MessageComponent.{MessageComponent}
pub use Rattle.itip_messages.specs.Components.{AreOfMessage, HasInstances, IsComponentSlot, IsDated, SaysComponent, component_names, event_slot}

-- ---- what it says

-- it is that message
abbrev pub RepresentsMessage : Message → profile.Message → Type 0
RepresentsMessage message said = AreOfMessage message.method message.organiser message.uid message.whole message.components.items said

-- the object says a message, and it is that
abbrev pub IsMessageOf : Tree → Message → Type 0
IsMessageOf object message = (said : profile.Message) × SaysMessage object said × RepresentsMessage message said

-- the octets spell a message, and it is that
abbrev pub IsSpelled : List ℕ → Message → Type 0
IsSpelled octets message = (said : profile.Message) × SpellsMessage octets said × RepresentsMessage message said

-- the object says a message of this method with these events
abbrev pub SaysEvents : Tree → events.Method → List SaidComponent → Type 0
SaysEvents object method events =
    (organiser : List ℕ) × (uid : List ℕ) × SaysMessage object (record { method = method; organiser = organiser; uid = uid; events = events })

-- ---- what is wrong with it

-- out of memory, or a fault of the octets, of the object or of what it says
abbrev pub ReadFault : List ℕ → Fault → Type 0
ReadFault octets fault = IsRefusalOf true octets fault ⊎ RefusesBy (MessageTextFault octets) fault

-- the word of METHOD says this; no word says that a meeting is to be stored
abbrev pub IsWord : Option (List ℕ) → List ℕ → Type 0
IsWord None word = ⊥
IsWord (Some name) word = is_same_name word name ≡ true

abbrev pub IsMethodWord : List ℕ → Method → Type 0
IsMethodWord word method = IsWord (method_word (method_said method)) word

-- what is wrong with the word of a METHOD
abbrev pub WordFault : List ℕ → ℕ → Type 0
WordFault word n = (n ≡ 60) × (is_method word ≡ false)

-- METHOD asks for one attendee, and one of the events doesn't have one
abbrev pub IsNotOneEach : events.Method → List SaidComponent → ℕ → Type 0
IsNotOneEach method said n = (n ≡ 64) × (is_of_one (presence ATTENDEE (Some method)) ≡ true) × (list_all has_one_attendee said ≡ false)

-- ---- its parts for a room

-- the message cancels, and the component has no ATTENDEE line
abbrev pub cancels_for_all : Message → MessageComponent → Bool
cancels_for_all message component = is_cancel (method_said message.method) && (length component.attendees == 0)

-- the component addresses the message to a room
abbrev pub is_component_for : List ℕ → Message → MessageComponent → Bool
is_component_for room message component = component_names room component || cancels_for_all message component

-- the message is one to rooms, and a component addresses it to this one
abbrev pub is_message_for : List ℕ → Message → Bool
is_message_for room message = is_to_rooms (method_said message.method) && list_any (is_component_for room message) message.components.items

-- where it is addressed to the room, the component is a part for it: of a CANCEL one that addresses it, of another message each
abbrev pub is_part_of : Method → Bool → Bool
is_part_of Store addresses = true
is_part_of Request addresses = true
is_part_of Add addresses = true
is_part_of Cancel addresses = addresses
is_part_of Reply addresses = true
is_part_of Refresh addresses = true

abbrev pub has_part : List ℕ → Message → MessageComponent → Bool
has_part room message component = is_part_of message.method (component_names room component || (length component.attendees == 0))

-- the message cancels what the component says: by METHOD, or by STATUS
abbrev pub cancels_component : Message → MessageComponent → Bool
cancels_component message component = is_cancel (method_said message.method) || component.cancelled

-- the part that a component is for a room, where this is its slot
abbrev pub part_for : List ℕ → Message → MessageComponent → revisions.Slot → revisions.Part
part_for room message component slot = record {
  organiser = address_octets message.organiser;
  uid = text_octets message.uid;
  slot = slot;
  revision = raised_to (option_map revision_of message.whole) (revision_of component.revision);
  body = if cancels_component message component then revisions.Cancelled else (if component_names room component then revisions.Set component.canonical.items else revisions.Absent);
}

-- the part is that of the component in a room of this zone
abbrev pub IsPartFor : List ℕ → Option Zone → Message → MessageComponent → revisions.Part → Type 0
IsPartFor room zone message component part = (slot : revisions.Slot) × IsComponentSlot zone component slot × (part ≡ part_for room message component slot)
