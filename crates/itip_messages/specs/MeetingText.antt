-- What is written of a meeting, as what was read of it represents events.
use Rattle.std.specs.Prelude.{◌≡◌, ◌++◌, ◌∷◌, [], ℕ, List, Option, codes, map}
use Rattle.std.specs.Option.{option_to_list}
use Rattle.std.specs.List.{flat_map, AllZip}
use Rattle.profile.specs.text.Lines.{folded, written}
use Rattle.profile.specs.text.Values.{escaped}
use Rattle.profile.specs.events.EventComponents.{EventComponent}
use Rattle.profile.specs.events.EventComponents as events
use Rattle.profile.specs.rooms.Revisions as revisions
use Rattle.profile.specs.organisers.Sent.{IsMeetingText, IsRequest, IsCancel, IsComponentText, TellsRevision, status_lines}
use Rattle.ical_values.specs.Octets.{text_octets, address_octets}
use Rattle.itip_order.specs.Parts.{revision_of}
use Rattle.itip_messages.specs.BodyText.{content_in}
use Rattle.itip_messages.specs.Components.{SaysComponent}
use Rattle.itip_messages.specs.Zones.{with_zones}
use Rattle.itip_messages.specs.declared.message_component.MessageComponent.{MessageComponent}
use Rattle.itip_messages.specs.declared.meeting_text.MeetingText.{MeetingText}
use Rattle.itip_messages.specs.declared.cancel.Cancel.{Cancel}

-- the components of a meeting represent these events
abbrev pub AreWritten : MeetingText → List EventComponent → Type 0
AreWritten meeting events = AllZip SaysComponent events meeting.components.now

-- one line was written, and it is such a one
abbrev pub WritesLine : (List ℕ → Type 0) → List ℕ → List ℕ → Type 0
WritesLine IsLine old new = (line : List ℕ) × IsLine line × (new ≡ old ++ folded line)

-- octets are an object of a meeting with this METHOD, or with none, whose attendees have such lines
abbrev pub IsTextOf : Option (List ℕ) → (revisions.Slot → events.Attendee → List ℕ → Type 0) → MeetingText → List ℕ → Type 0
IsTextOf method IsLine meeting octets =
    (said : List EventComponent) → AreWritten meeting said
    → IsMeetingText method (address_octets meeting.organiser.now) (text_octets meeting.uid.now) (revision_of meeting.revision) IsLine said octets

-- the zone that a component needs
abbrev pub zone_in : MessageComponent → List (List ℕ)
zone_in component = option_to_list (content_in component.canonical.items).zone

-- the lines are the VEVENT of a component of the meeting, whichever event it represents, where these are the zones
abbrev pub IsWrittenComponent : (revisions.Slot → events.Attendee → List ℕ → Type 0) → MeetingText → List (List ℕ) → MessageComponent → List (List ℕ) → Type 0
IsWrittenComponent IsLine meeting zones component lines =
    (event : EventComponent) → SaysComponent event component
    → IsComponentText (address_octets meeting.organiser.now) (text_octets meeting.uid.now) (revision_of meeting.revision) zones IsLine (event, content_in component.canonical.items) lines

-- the zone of a component is after the zones if it is new; and new is old and after it, written, its VEVENT
pub record WritesComponent (IsLine : revisions.Slot → events.Attendee → List ℕ → Type 0) (meeting : MeetingText) (component : MessageComponent)
    (zones_old zones_new : List (List ℕ)) (old new : List ℕ) : Type 0 where
  pub zones : zones_new ≡ with_zones zones_old (zone_in component)
  pub lines : List (List ℕ)
  pub event : IsWrittenComponent IsLine meeting zones_new component lines
  pub is : new ≡ old ++ written lines

-- the same for one component after another
pub record WritesComponents (IsLine : revisions.Slot → events.Attendee → List ℕ → Type 0) (meeting : MeetingText) (components : List MessageComponent)
    (zones_old zones_new : List (List ℕ)) (old new : List ℕ) : Type 0 where
  pub zones : zones_new ≡ with_zones zones_old (flat_map zone_in components)
  pub texts : List (List (List ℕ))
  pub each : AllZip (IsWrittenComponent IsLine meeting zones_new) components texts
  pub is : new ≡ old ++ written (flat_map (λ lines. lines) texts)

abbrev pub IsRequestOf : MeetingText → List ℕ → Type 0
IsRequestOf meeting octets =
    (said : List EventComponent) → AreWritten meeting said
    → IsRequest (address_octets meeting.organiser.now) (text_octets meeting.uid.now) (revision_of meeting.revision) said octets

abbrev pub IsCancelOf : Cancel → List ℕ → Type 0
IsCancelOf cancel octets =
    IsCancel (address_octets cancel.organiser.now) (text_octets cancel.uid.now) (revision_of cancel.revision) cancel.called_off (map address_octets cancel.to.now) octets

-- a line for each of these addresses
abbrev pub attendee_lines : List (List ℕ) → List (List ℕ)
attendee_lines addresses = map (λ address. codes "ATTENDEE:" ++ address) addresses

-- the lines of the VEVENT of a CANCEL
pub record IsCancelEvent (cancel : Cancel) (lines : List (List ℕ)) : Type 0 where
  pub dated : List (List ℕ)
  pub tells_revision : TellsRevision (revision_of cancel.revision) dated
  pub is : lines ≡ (codes "BEGIN:VEVENT" ∷ (codes "UID:" ++ escaped (text_octets cancel.uid.now)) ∷ []) ++ dated ++ status_lines cancel.called_off
      ++ ((codes "ORGANIZER:" ++ address_octets cancel.organiser.now) ∷ attendee_lines (map address_octets cancel.to.now)) ++ codes "END:VEVENT" ∷ []
