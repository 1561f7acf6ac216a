-- At which content line octets are refused as a message (RFC 5546 3.2).
use Rattle.std.specs.Prelude.{◌≡◌, ℕ, true, IsTrue, Contains, List, Some, codes}
use Rattle.std.specs.List.{enumerate_from}
use Rattle.profile.specs.faults.Blame.{IsAt, Numbered}
use Rattle.profile.specs.faults.First.{is_number, text_fault, text_place}
use Rattle.profile.specs.text.Lines.{logical_lines}
use Rattle.profile.specs.text.ObjectBlame.{ObjectBlame}
use Rattle.profile.specs.events.EventBlame.{EventsBlame}
use Rattle.profile.specs.events.Messages.{NamesMethod}
use Rattle.profile.specs.events.EventComponents.{Method}
use Rattle.profile.specs.events.Properties.{is_of}
use Rattle.ical_tree.specs.Tree.{ArePlaced, IsObjectOf, component_lines, component_numbered, events_in, zones_in}
use Rattle.ical_tree.specs.declared.component.Component.{Component}

-- an object is refused as a message with this number at this line
pub data MessageBlame (object : Component) : ℕ → ℕ → Type 0 where
  -- METHOD isn't supported, or occurs twice: a line of METHOD
  method : {at : ℕ} → IsAt (component_numbered object) at (λ line. is_of (codes "METHOD") line ≡ true) → MessageBlame object 60 at
  -- one of its VEVENTs is refused, as its METHOD takes them, or they together
  in_events : {n at : ℕ} (method : Method) → NamesMethod (component_lines object) method → EventsBlame (Some method) (zones_in object) (events_in object) n at
      → MessageBlame object n at
  -- a VEVENT doesn't have one attendee: the BEGIN of a VEVENT
  attendee : (event : Numbered) → Contains (events_in object) event → MessageBlame object 64 event.begun

-- octets are: their lines, what the lines spell, or the object that they spell
pub data MessageTextBlame (octets : List ℕ) : ℕ → ℕ → Type 0 where
  in_lines : {n : ℕ} → IsTrue (is_number (text_fault true octets) n) → MessageTextBlame octets n (text_place true octets)
  in_tree : {n at : ℕ} → ObjectBlame true (logical_lines octets) n at → MessageTextBlame octets n at
  in_object : {n at : ℕ} (object : Component) → IsObjectOf true object (logical_lines octets) → ArePlaced (enumerate_from 1 (logical_lines octets)) object
      → MessageBlame object n at → MessageTextBlame octets n at
