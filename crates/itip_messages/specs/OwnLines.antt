-- The own lines of a message's VEVENT, by its slot.
use Rattle.std.specs.Prelude.{◌≡◌, ℕ, Contains, true, Option, None, Some, List, map}
use Rattle.profile.specs.text.Lines.{logical_lines, reads_as_lines}
use Rattle.profile.specs.text.Objects.{IsObject}
use Rattle.profile.specs.text.Trees.{Tree, vevents}
use Rattle.profile.specs.events.EventComponents.{Method, Store, Request, Add, Cancel, Reply, Refresh, EventComponent, SaysEventComponent}
use Rattle.profile.specs.events.Events.{as_added}
use Rattle.profile.specs.events.Messages.{Message, SaysMessage}
use Rattle.profile.specs.rooms.Messages.{slot_of}
use Rattle.profile.specs.rooms.Revisions.{Slot}

-- the slot of a VEVENT in a message of that method: in an ADD the instance of its own start (RFC 5545 3.8.4.4, RFC 5546 3.2.4)
abbrev pub slot_read : Method → EventComponent → Slot
slot_read Store event = slot_of event
slot_read Request event = slot_of event
slot_read Add event = slot_of (as_added event)
slot_read Cancel event = slot_of event
slot_read Reply event = slot_of event
slot_read Refresh event = slot_of event

-- these are the own lines of a VEVENT of the object that is of the slot
pub record AreLinesOf (object : Tree) (method : Method) (slot : Slot) (lines : List (List ℕ)) : Type 0 where
  pub there : Contains (vevents object) lines
  pub event : EventComponent
  pub says : SaysEventComponent object (Some method) lines event
  pub of_slot : slot_read method event ≡ slot

-- of the object, whose VEVENTs say these events, these lines are found: those of a VEVENT of the slot, nothing only where none is of it
abbrev pub IsFound : Tree → Method → List EventComponent → Slot → Option (List (List ℕ)) → Type 0
IsFound object method events slot None = Contains (map (slot_read method) events) slot → ⊥
IsFound object method events slot (Some lines) = AreLinesOf object method slot lines

-- the octets are one VCALENDAR, within the limits of a message, and say a message, of which these lines are found by the slot
pub record FindsLines (octets : List ℕ) (slot : Slot) (found : Option (List (List ℕ))) : Type 0 where
  pub lines : reads_as_lines true octets ≡ true
  pub tree : Tree
  pub object : IsObject true tree (logical_lines octets)
  pub message : Message
  pub says : SaysMessage tree message
  pub finds : IsFound tree message.method says.events slot found
