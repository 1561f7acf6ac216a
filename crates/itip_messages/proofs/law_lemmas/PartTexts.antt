-- What is known of the texts of a part of a message: they are those of content lines, as they are read.
-- Behind one_content, refreshes_are_heard, replies_are_heard.
use Rattle.std.proofs.Common.{◌≡◌, ◌∙◌, ℕ, ℤ, ◌<◌, ◌^◌, Bool, true, false, List, [], ◌∷◌, codes, Option, Some, None, inl, inr, refl, sym, subst, arith}
use Rattle.std.specs.Prelude.{if◌then◌else◌, option_map}
use Rattle.std.specs.Ordering.{is_lt}
use Rattle.std.proofs.lemmas.List.Elements.{All-contains}
use Rattle.std.specs.List.{AllZip, Contains}
use Rattle.std.specs.Str.{bytes_eq}
use Rattle.std.proofs.lemmas.Slice.Eq.{bytes_eq-Decides}
use Rattle.profile.specs.text.Lines.{line_value, line_param, logical_lines}
use Rattle.profile.specs.text.Trees.{Tree, vevents}
use Rattle.profile.specs.text.Values.{IsAddress, IsUid, lower_case}
use Rattle.profile.specs.events.EventComponents.{Method, Store, Request, Add, Cancel, Reply, Refresh, EventComponent, SaysEventComponent, SaysSequence, IsAttendee, bars_recurrence}
use Rattle.profile.specs.events.Events.{as_added, taken_by, is_master}
use Rattle.profile.specs.events.ZonedTimes.{SaysTimes, EventTimes, clock_of}
use Rattle.profile.specs.events.Placed.{IsAt}
use Rattle.profile.specs.series.RoomZones.{IsRoomZone}
use Rattle.profile.specs.series.Zones.{IsOneMeaning, Zone}
use Rattle.std.proofs.lemmas.Option.{same_Some}
use Rattle.profile.specs.events.Properties.{Says, BothOrNeither, OccursAtMostOnce, IsAddressLine, IsUidLine, IsSequenceLine, is_of, lines_named}
use Rattle.profile.specs.events.Messages as events
use Rattle.profile.specs.rooms.Messages.{Content, IsPart, cancels, own_revision, raised_to, names_room}
use Rattle.profile.specs.events.Messages.{SpellsMessage, is_to_rooms, master_in}
use Rattle.profile.specs.rooms.Revisions.{Part, Revision, revision_cmp}
use Rattle.itip_order.proofs.Lists.{in_head, in_tail, filter_at, any_at}
use Rattle.ical_lines.proofs.CleanLines.{IsClean}
use Rattle.ical_values.proofs.Addresses.{lower_twice}
use Rattle.cal_events.specs.MeetingComponents.{IsInEventDates}
use Rattle.cal_events.proofs.shared_lemmas.InOneOrder.{of_mapped}
use Rattle.cal_events.proofs.shared_lemmas.InRooms.{slot_in_dates, start_in_dates}
use Rattle.cal_events.proofs.shared_lemmas.OneInstance.{event_sound}
use Rattle.cal_events.proofs.shared_lemmas.SeriesLemmas.{zip_back}
use Rattle.itip_messages.specs.Body.{IsReady}
use Rattle.itip_messages.specs.Law.{IsTextAddress, IsTextValue}
use Rattle.itip_messages.proofs.message_lemmas.KnownEvents.{of_message}
use Rattle.itip_messages.proofs.shared_lemmas.CleanText.{text_address}
use Rattle.itip_messages.proofs.shared_lemmas.CleanUids.{text_value}
use Rattle.itip_messages.proofs.shared_lemmas.EventLines.{clean_value, vevent_among}
use Rattle.itip_messages.proofs.shared_lemmas.ObjectTree.{Lines}
use Rattle.itip_messages.proofs.shared_lemmas.OwnWhen.{EventFacts, event_facts}
use Rattle.itip_messages.proofs.shared_lemmas.ZonedStarts.{IsSaid, form_said}

-- octets ask the room, in some zone, for the part, with this content: they spell a message to rooms, and it is that of one of its events
pub record IsAsked (room : List ℕ) (content : Content) (part : Part) : Type 0 where
  pub zone : Option Zone
  pub octets : List ℕ
  pub given : events.Message
  pub spells : SpellsMessage octets given
  pub event : EventComponent
  pub to_rooms : is_to_rooms given.method ≡ true
  pub among : Contains given.events event
  pub is_part : IsPart room zone given event content part

-- ---- what the lines of the message say

-- the line of a value that is there
record Given {V : Type 0} (R : List ℕ → V → Type 0) (lines : Lines) (value : V) : Type 0 where
  line : List ℕ
  present : Contains lines line
  is : R line value

given : {V : Type 0} (name : List ℕ) (needed : Bool) (R : List ℕ → V → Type 0) (lines : Lines) (value : V) → Says name needed R lines (Some value) → Given R lines value
given name needed R lines value s = of_line s.line s.once s.is
  where
    of_line : (line : Option (List ℕ)) → OccursAtMostOnce name lines line → BothOrNeither R line (Some value) → Given R lines value
    of_line None once is = absurd is
    of_line (Some line) once is = record {
      line = line;
      present = (filter_at (is_of name) lines line (subst (λ (l : Lines). Contains l line) (sym once) (in_head line []))).0;
      is = is;
    }

small_sequence : (lines : Lines) (n : ℕ) → SaysSequence lines n → n < 2 ^ 31
small_sequence lines n (None, s, e) = omega (arith, e)
small_sequence lines n (Some m, s, e) = let g = given (codes "SEQUENCE") false IsSequenceLine lines m s in omega (arith, e, g.is.3)

-- what the lines of a VEVENT of a message say of an event, however its method takes it
pub record SaysTaken (object : Tree) (method : Method) (lines : Lines) (event : EventComponent) : Type 0 where
  pub organiser : Says (codes "ORGANIZER") true IsAddressLine lines event.organiser
  pub uid : Says (codes "UID") true IsUidLine lines (Some event.uid)
  pub sequence : SaysSequence lines event.sequence
  pub attendees : AllZip IsAttendee (lines_named (codes "ATTENDEE") lines) event.attendees
  -- the zone of its start is one that some VTIMEZONE says
  pub zone : IsSaid event.times.zone
  pub facts : is_to_rooms method ≡ true → cancels method event ≡ false → EventFacts event (bars_recurrence (Some method))
  -- the instance that it is of in a room is in the dates that an event may name
  pub dated : (words : List ℕ) (zone : Option Zone) → IsRoomZone words zone → (t : ℤ) → BothOrNeither (IsAt zone) event.written.recurrence (Some t) → IsInEventDates t
  -- a local time means one instant on its clocks
  pub meaning : IsOneMeaning (clock_of event.times.zone)

zone_said : (may_lack : Bool) (object : Tree) (lines : Lines) (times : EventTimes) → SaysTimes may_lack object lines times → IsSaid times.zone
zone_said may_lack object lines times (inl t) = form_said object (line_param (codes "TZID") t.line) (line_value t.line) times.form times.zone times.local t.says.1
zone_said may_lack object lines times (inr lacks) = subst IsSaid (sym lacks.1.zone) tt

as_said : (object : Tree) (method : Method) (lines : Lines) (event : EventComponent) → SaysEventComponent object (Some method) lines event → SaysTaken object method lines event
as_said object method lines event s = record {
  organiser = s.organiser;
  uid = s.uid;
  sequence = s.sequence;
  attendees = s.attendees;
  zone = zone_said _ object lines event.times s.times;
  facts = event_facts object method lines event s;
  dated = λ words zone gives t at. slot_in_dates words zone gives object (Some method) lines event s (Some t) t at refl;
  meaning = (event_sound object lines event s).steady.meaning;
}

-- what is known of an event is known of it as an instance that is added
facts_added : (event : EventComponent) → EventFacts event true → EventFacts (as_added event) true
facts_added event f = record { unzoned = f.unzoned; means = f.means; dated = f.dated; suits = f.suits; most = f.most; added_in = f.added_in; few_added = f.few_added; few_taken = f.few_taken; single = λ h. f.single refl; once = λ h. f.once refl; recurs = f.recurs }

when_added : (object : Tree) (lines : Lines) (event : EventComponent) → SaysEventComponent object (Some Add) lines event → SaysTaken object Add lines (as_added event)
when_added object lines event s = record {
  organiser = s.organiser;
  uid = s.uid;
  sequence = s.sequence;
  attendees = s.attendees;
  zone = zone_said _ object lines event.times s.times;
  facts = λ to h. facts_added event (event_facts object Add lines event s to h);
  dated = λ words zone gives t at. start_in_dates words zone gives object (Some Add) lines event s t at;
  meaning = (event_sound object lines event s).steady.meaning;
}

abbrev SaidIn : Tree → Method → List Lines → EventComponent → Type 0
SaidIn object method vs event = (lines : Lines) × Contains vs lines × SaysTaken object method lines event

taken_said : (object : Tree) (method : Method) (vs : List Lines) (events : List EventComponent) (e : EventComponent) → AllZip (SaysEventComponent object (Some method)) vs events → Contains (taken_by (Some method) events) e → SaidIn object method vs e
taken_said object Store vs events e z c = let found = zip_back (SaysEventComponent object (Some Store)) vs events e z c in (found.0, found.1, as_said object Store found.0 e found.2)
taken_said object Request vs events e z c = let found = zip_back (SaysEventComponent object (Some Request)) vs events e z c in (found.0, found.1, as_said object Request found.0 e found.2)
taken_said object Cancel vs events e z c = let found = zip_back (SaysEventComponent object (Some Cancel)) vs events e z c in (found.0, found.1, as_said object Cancel found.0 e found.2)
taken_said object Reply vs events e z c = let found = zip_back (SaysEventComponent object (Some Reply)) vs events e z c in (found.0, found.1, as_said object Reply found.0 e found.2)
taken_said object Refresh vs events e z c = let found = zip_back (SaysEventComponent object (Some Refresh)) vs events e z c in (found.0, found.1, as_said object Refresh found.0 e found.2)
taken_said object Add vs events e z c =
    let x = of_mapped as_added events e c in
    let found = zip_back (SaysEventComponent object (Some Add)) vs events x.0 z x.1 in
    (found.0, found.1, subst (SaysTaken object Add found.0) x.2 (when_added object found.0 x.0 found.2))

-- the lines of a VEVENT of a message, whose values are clean
pub record Message (method : Method) (event : EventComponent) : Type 0 where
  pub object : Tree
  pub lines : Lines
  pub says : SaysTaken object method lines event
  pub clean : (line : List ℕ) → Contains lines line → IsClean (line_value line)
  pub ready : IsReady event

pub message_of : (octets : List ℕ) (given : events.Message) (spells : SpellsMessage octets given) (event : EventComponent) → Contains given.events event → Message given.method event
message_of octets given spells event c =
    let s = spells.says in
    let found = taken_said spells.tree given.method (vevents spells.tree) s.events event s.says (subst (λ (l : List EventComponent). Contains l event) s.taken c) in
    record {
      object = spells.tree;
      lines = found.0;
      says = found.2;
      clean = λ line l. clean_value true octets line spells.lines (vevent_among true spells.tree (logical_lines octets) found.0 spells.object found.1 line l);
      ready = All-contains IsReady given.events event (of_message spells.tree given s).ready c;
    }

-- what is known of the organiser, the UID and the number of a part
pub record Named (part : Part) : Type 0 where
  pub organiser : IsTextAddress part.organiser
  pub lower : lower_case part.organiser ≡ part.organiser
  pub uid : IsTextValue part.uid
  pub is_uid : IsUid part.uid
  pub small : part.revision.sequence < 2 ^ 31

small_later : (t : Bool) (a b : Revision) → a.sequence < 2 ^ 31 → b.sequence < 2 ^ 31 → (if t then b else a).sequence < 2 ^ 31
small_later true a b m n = n
small_later false a b m n = m

small_raised : (o : Option EventComponent) (own : Revision) → own.sequence < 2 ^ 31 → ((w : EventComponent) → o ≡ Some w → w.sequence < 2 ^ 31) → (raised_to (option_map own_revision o) own).sequence < 2 ^ 31
small_raised None own m f = m
small_raised (Some w) own m f = small_later (is_lt (revision_cmp own (own_revision w))) own (own_revision w) m (f w refl)

-- the event for the whole meeting is one of them
master_among : (events : List EventComponent) (w : EventComponent) → master_in events ≡ Some w → Contains events w
master_among [] w e = absurd (cc)
master_among (x ∷ events) w e = by (is_master x) e (λ f. master_among events w f)
  where
    by : (b : Bool) → (if b then Some x else master_in events) ≡ Some w → (master_in events ≡ Some w → Contains events w) → Contains (x ∷ events) w
    by true e rest = subst (λ (y : EventComponent). Contains (x ∷ events) y) (same_Some x w e) (in_head x events)
    by false e rest = in_tail x events w (rest e)

pub named : (room : List ℕ) (content : Content) (part : Part) → IsAsked room content part → Named part
named room content part a =
    let m = message_of a.octets a.given a.spells a.event a.among in
    let o = given (codes "ORGANIZER") true IsAddressLine m.lines part.organiser (subst (λ (x : Option (List ℕ)). Says (codes "ORGANIZER") true IsAddressLine m.lines x) a.is_part.organiser m.says.organiser) in
    let u = given (codes "UID") true IsUidLine m.lines a.event.uid m.says.uid in
    let is : part.organiser ≡ lower_case (line_value o.line) = o.is.1 in
    record {
      organiser = subst IsTextAddress (sym is) (text_address (line_value o.line) o.is.0 (m.clean o.line o.present).utf8);
      lower = subst (λ (x : List ℕ). lower_case x ≡ x) (sym is) (lower_twice (line_value o.line));
      uid = subst IsTextValue (sym (a.is_part.uid ∙ u.is.0)) (text_value (line_value u.line) (m.clean u.line u.present));
      is_uid = subst IsUid (sym a.is_part.uid) u.is.1;
      small = subst (λ (r : Revision). r.sequence < 2 ^ 31) (sym a.is_part.revision)
          (small_raised (master_in a.given.events) (own_revision a.event) (small_of a.event a.among) (λ w is. small_of w (master_among a.given.events w is)));
    }
  where
    small_of : (w : EventComponent) → Contains a.given.events w → w.sequence < 2 ^ 31
    small_of w c = let m = message_of a.octets a.given a.spells w c in small_sequence m.lines w.sequence m.says.sequence

-- what is known of the room's address: an attendee of the message has it
pub record IsRoom (room : List ℕ) : Type 0 where
  pub text : IsTextAddress room
  pub lower : lower_case room ≡ room

-- an event of a message has it as an attendee
pub named_room : (room : List ℕ) {method : Method} {event : EventComponent} → Message method event → names_room room event ≡ true → IsRoom room
named_room room {event = event} m named =
    let found = any_at (λ x. bytes_eq x.address room) event.attendees named in
    let line = zip_back IsAttendee (lines_named (codes "ATTENDEE") m.lines) event.attendees found.0 m.says.attendees found.1 in
    let present = (filter_at (is_of (codes "ATTENDEE")) m.lines line.0 line.1).0 in
    let value = line_value line.0 in
    let address : IsAddress value = line.2.address.0 in
    let is : room ≡ lower_case value = sym ((bytes_eq-Decides found.0.address room).0 found.2) ∙ line.2.address.1 in
    record {
      text = subst IsTextAddress (sym is) (text_address value address (m.clean line.0 present).utf8);
      lower = subst (λ (x : List ℕ). lower_case x ≡ x) (sym is) (lower_twice value);
    }

pub asked_room : (room : List ℕ) (content : Content) (part : Part) (a : IsAsked room content part) → names_room room a.event ≡ true → IsRoom room
asked_room room content part a named = named_room room (message_of a.octets a.given a.spells a.event a.among) named
