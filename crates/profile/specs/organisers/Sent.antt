-- What an organiser writes, as octets: the REQUEST and the CANCEL of a meeting that it stored (RFC 5546 3.2.2, 3.2.5). What it shows of a
-- meeting has the same form.
use Rattle.std.specs.Prelude.{◌≡◌, ℕ, ◌<◌, ◌^◌, Bool, if◌then◌else◌, List, [], ◌∷◌, ◌++◌, length, map, codes, decimal, Option, Some}
use Rattle.std.specs.Option.{option_to_list}
use Rattle.std.specs.List.{flat_map, AllZip}
use Rattle.profile.specs.text.Lines.{written}
use Rattle.profile.specs.text.Values.{WritesStamp, escaped}
use Rattle.profile.specs.events.EventComponents.{Attendee, EventComponent}
use Rattle.profile.specs.rooms.Revisions.{Slot, Revision}
use Rattle.profile.specs.rooms.Messages.{Content, IsContent, TellsSlot, slot_of, opening_lines, object_lines}
use Rattle.profile.specs.events.Messages.{counted}
use Rattle.profile.specs.rooms.Kept.{each_once, zone_texts, IsNamed, renamed}

-- ---- one VEVENT

-- STATUS, where it says that something is cancelled
abbrev pub status_lines : Bool → List (List ℕ)
status_lines cancelled = if cancelled then codes "STATUS:CANCELLED" ∷ [] else []

-- SEQUENCE and DTSTAMP
pub record TellsRevision (revision : Revision) (lines : List (List ℕ)) : Type 0 where
  pub stamp : List ℕ
  pub tells : WritesStamp stamp revision.stamp
  pub is : lines ≡ (codes "SEQUENCE:" ++ decimal revision.sequence) ∷ (codes "DTSTAMP:" ++ stamp) ∷ []

-- an event and what says when it is
abbrev pub Component : Type 0
Component = EventComponent × Content

-- the VEVENT of an event, where these are the zones of the object and each attendee has such a line
pub record IsComponentText (organiser uid : List ℕ) (revision : Revision) (zones : List (List ℕ)) (IsLine : Slot → Attendee → List ℕ → Type 0)
    (component : Component) (lines : List (List ℕ)) : Type 0 where
  pub slot : List (List ℕ)
  pub tells_slot : TellsSlot (slot_of component.0) slot
  pub dated : List (List ℕ)
  pub tells_revision : TellsRevision revision dated
  pub name : List ℕ
  pub named : IsNamed zones component.1.zone name
  pub attendees : List (List ℕ)
  pub each : AllZip (IsLine (slot_of component.0)) (counted component.0.attendees) attendees
  pub is : lines ≡ (codes "BEGIN:VEVENT" ∷ (codes "UID:" ++ escaped uid) ∷ slot) ++ dated
      ++ map (renamed (codes "DTSTART;TZID=Z") (codes "DTSTART;TZID=" ++ name)) component.1.lines
      ++ status_lines component.0.cancelled
      ++ ((codes "SUMMARY:" ++ escaped component.0.summary) ∷ (codes "ORGANIZER:" ++ organiser) ∷ attendees) ++ codes "END:VEVENT" ∷ []

-- ---- all VEVENTs of a meeting

-- the zones of these contents, each once, in order of first use
abbrev pub zones_of : List Component → List (List ℕ)
zones_of components = each_once (flat_map (λ component. option_to_list component.1.zone) components)

-- the component is this event with its content
abbrev pub IsComponentOf : EventComponent → Component → Type 0
IsComponentOf event component = (component.0 ≡ event) × IsContent component.1 event

-- the octets are an object with this METHOD, or with none: its zones, and then the VEVENTs of these events in their order. Numbers below
-- 2 ^ 64 name the zones
pub record IsMeetingText (method : Option (List ℕ)) (organiser uid : List ℕ) (revision : Revision) (IsLine : Slot → Attendee → List ℕ → Type 0)
    (events : List EventComponent) (octets : List ℕ) : Type 0 where
  pub components : List Component
  pub are : AllZip IsComponentOf events components
  pub few : length (zones_of components) < 2 ^ 64
  pub texts : List (List (List ℕ))
  pub each : AllZip (IsComponentText organiser uid revision (zones_of components) IsLine) components texts
  pub is : octets ≡ written (opening_lines method) ++ zone_texts 0 (zones_of components)
      ++ written (flat_map (λ lines. lines) texts ++ codes "END:VCALENDAR" ∷ [])

-- ---- what is sent

-- each attendee is asked to answer (RFC 5545 3.2.12, 3.2.17)
abbrev pub IsAsked : Slot → Attendee → List ℕ → Type 0
IsAsked slot attendee line = line ≡ codes "ATTENDEE;PARTSTAT=NEEDS-ACTION;RSVP=TRUE:" ++ attendee.address

-- the octets are the REQUEST of a meeting with these events
abbrev pub IsRequest : List ℕ → List ℕ → Revision → List EventComponent → List ℕ → Type 0
IsRequest organiser uid revision events octets = IsMeetingText (Some (codes "REQUEST")) organiser uid revision IsAsked events octets

-- the octets are a CANCEL of the whole meeting to these: with STATUS where it is called off, without where they are only taken out of it
pub record IsCancel (organiser uid : List ℕ) (revision : Revision) (called_off : Bool) (to : List (List ℕ)) (octets : List ℕ) : Type 0 where
  pub dated : List (List ℕ)
  pub tells_revision : TellsRevision revision dated
  pub is : octets ≡ written (object_lines (Some (codes "CANCEL")) ((codes "BEGIN:VEVENT" ∷ (codes "UID:" ++ escaped uid) ∷ []) ++ dated
      ++ status_lines called_off ++ ((codes "ORGANIZER:" ++ organiser) ∷ map (λ address. codes "ATTENDEE:" ++ address) to) ++ codes "END:VEVENT" ∷ []))
