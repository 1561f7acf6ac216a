-- What a store makes, as what was read of it says.
use Rattle.std.specs.Prelude.{◌≡◌, ℕ, ◌+◌, Bool, true, false, ◌&&◌, ◌||◌, max, List, [], ◌∷◌, ◌++◌, Option, None, Some}
use Rattle.std.specs.List.{list_any}
use Rattle.std.specs.Str.{bytes_eq}
use Rattle.ical_values.specs.Octets.{address_octets, text_octets}
use Rattle.profile.specs.events.EventComponents.{Attendee, EventComponent}
use Rattle.profile.specs.organisers.Organisers.{Sent, Sends, Stored}
use Rattle.profile.specs.organisers.Sent.{IsCancel, IsRequest}
use Rattle.itip_order.specs.Parts.{revision_of}
use Rattle.itip_order.specs.declared.part.Slot.{Slot}
use Rattle.itip_order.specs.declared.part.Slot.TheVariants.{Whole, At}
use Rattle.itip_messages.specs.declared.meeting_text.MeetingText.{MeetingText}
use Rattle.itip_messages.specs.declared.message_component.MessageComponent.{MessageComponent}
use Rattle.itip_order.specs.declared.part.Revision.{Revision}
use Rattle.itip_messages.specs.declared.message.Message.{Message}
use Rattle.organiser_books.specs.declared.meeting.StoredMeeting.{StoredMeeting}
use Rattle.organiser_books.specs.Attending.{gone_among, lists_of, names, sent_among, AreAttending}

-- the greatest SEQUENCE of these components
abbrev pub own_in : List MessageComponent → ℕ
own_in [] = 0
own_in (component ∷ components) = max component.revision.sequence (own_in components)

-- the SEQUENCE of what is sent after a last store
abbrev pub sequence_then : Option StoredMeeting → List MessageComponent → ℕ
sequence_then None components = own_in components
sequence_then (Some last) components = max (own_in components) (last.revision.sequence + 1)

-- the component cancels the whole meeting
abbrev pub is_whole_slot : Slot → Bool
is_whole_slot Whole = true
is_whole_slot (At instant) = false

abbrev pub cancels_whole : MessageComponent → Bool
cancels_whole component = is_whole_slot component.slot && component.cancelled

abbrev pub calls_off : List MessageComponent → Bool
calls_off components = list_any cancels_whole components

-- the store of a meeting that is written, with what was made of it
abbrev pub stored_of : MeetingText → List EventComponent → List ℕ → Stored
stored_of meeting events object = record { uid = text_octets meeting.uid.now; events = events; revision = revision_of meeting.revision; object = object; told = [] }

-- an object that is sent to these, where there are some
abbrev pub sent_to : List (List ℕ) → List ℕ → List Sent
sent_to [] octets = []
sent_to (first ∷ others) octets = record { to = first ∷ others; octets = octets } ∷ []

-- what is made and sent, to these and to those who are gone, of a meeting that is called off or isn't
abbrev pub SendsTo : Bool → List ℕ → Stored → List (List ℕ) → List (List ℕ) → List Sent → Type 0
SendsTo true organiser stored to gone sent =
    IsCancel organiser stored.uid stored.revision true (to ++ gone) stored.object × Sends (λ octets. octets ≡ stored.object) (to ++ gone) sent
SendsTo false organiser stored to gone sent =
    (requests : List Sent) × (cancels : List Sent)
    × IsRequest organiser stored.uid stored.revision stored.events stored.object
    × Sends (λ octets. octets ≡ stored.object) to requests
    × Sends (IsCancel organiser stored.uid stored.revision false gone) gone cancels × (sent ≡ requests ++ cancels)

-- the attendees of a last store, where there is one
abbrev pub LastAttends : List (List Attendee) → Option StoredMeeting → Type 0
LastAttends lists None = lists ≡ []
LastAttends lists (Some last) = AreAttending lists last.attending.entries

-- the address is one of the attendees, and it was sent messages or no longer is
abbrev pub is_told_by : Bool → List ℕ → List (List Attendee) → List (List Attendee) → List ℕ → Bool
is_told_by called_off organiser before lists address =
    list_any (names address) lists
    && (list_any (bytes_eq address) (sent_among organiser lists) || list_any (bytes_eq address) (gone_among called_off organiser before lists))

-- what is made of these events by an object that is stored with this revision
abbrev pub SendsObject : List ℕ → Message → Revision → List EventComponent → List (List Attendee) → List ℕ → List Sent → Type 0
SendsObject organiser object revision events before octets sent =
    SendsTo (calls_off object.components.items) (address_octets object.organiser)
    (record { uid = text_octets object.uid; events = events; revision = revision_of revision; object = octets; told = [] })
    (sent_among organiser (lists_of object.components.items))
    (gone_among (calls_off object.components.items) organiser before (lists_of object.components.items)) sent
