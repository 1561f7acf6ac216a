-- What the text of a meeting shows: the events of its last store with the answers that are seen; and a room whose acceptance is seen has booked
-- what it was sent. Behind schedules_hold.
use Rattle.std.proofs.Common.{◌≡◌, ◌∙◌, ℕ, Bool, true, false, List, [], ◌∷◌, Option, None, Some, refl, sym, ap, subst}
use Rattle.std.specs.Prelude.{Contains, option_map, unwrap_or}
use Rattle.std.specs.List.{AllZip, find}
use Rattle.std.specs.Str.{bytes_eq}
use Rattle.std.proofs.lemmas.Bool.{true≢false}
use Rattle.std.proofs.lemmas.Slice.Eq.{bytes_eq-Decides}
use Rattle.profile.specs.checker.Calendars.{IsCalendarText, SayEventsIn}
use Rattle.profile.specs.events.Confirmed.{AreApart, AreOfRule}
use Rattle.profile.specs.events.EventComponents.{Accepted, Attendee, Declined, Delegated, EventComponent, NeedsAction, Participation, SaysEventComponent, Tentative, has_accepted, is_accepted}
use Rattle.profile.specs.events.Messages.{AreOfMeeting, counted}
use Rattle.profile.specs.events.Placed.{IsPlaced, SaysPlaced}
use Rattle.profile.specs.organisers.Organisers.{IsSeenOf, ShowsSeen, Stored, is_attendee, last_store}
use Rattle.profile.specs.organisers.Sent.{IsMeetingText}
use Rattle.profile.specs.rooms.Messages.{names_room, slot_of}
use Rattle.profile.specs.series.Zones.{Zone}
use Rattle.profile.specs.streams.Schedules.{IsText}
use Rattle.profile.specs.streams.Streams.{AsksFor, Hosted, HostedOrganiser}
use Rattle.profile.specs.streams.Worlds.{World}
use Rattle.profile.specs.text.Lines.{logical_lines, reads_as_lines}
use Rattle.profile.specs.text.Trees.{Tree, vevents}
use Rattle.cal_events.proofs.shared_lemmas.SeriesLemmas.{zip_back}
use Rattle.itip_messages.specs.SentLaw.{HasAnswered, IsSaidAgain, IsSentAs}
use Rattle.itip_messages.proofs.sent_law_lemmas.SentEvents.{counted_among}
use Rattle.itip_order.proofs.Lists.{any_from}
use Rattle.sched_laws.proofs.law_lemmas.Booked.{IsBookedFor, booked_for}
use Rattle.sched_laws.proofs.law_lemmas.ClaimFacts.{claim_facts, found_among}
use Rattle.sched_laws.proofs.law_lemmas.Invariant.{AreNamedFixed, IsNamedFixed, IsSound}
use Rattle.sched_laws.proofs.law_lemmas.StoredSlots.{one_of_slot, stored_fixed}
use Rattle.sched_laws.proofs.law_lemmas.Stores.{last_among}
use Rattle.sched_laws.specs.Law.{Laws}

-- ---- what a text shows

-- the events of the last store of a meeting, with the answers that are seen, and of no others
pub record IsShownText (world : World) (octets : List ℕ) : Type 0 where
  pub host : HostedOrganiser
  pub hosted : Contains world.organisers host
  pub uid : List ℕ
  pub stored : Stored
  pub last : last_store uid host.book ≡ Some stored
  pub shown : List EventComponent
  pub each : AllZip (IsSaidAgain (HasAnswered host.book stored) stored.revision) stored.events shown
  pub lines : reads_as_lines false octets ≡ true
  pub own_tree : Tree
  pub object : IsCalendarText own_tree octets
  pub says : AllZip (SaysEventComponent own_tree None) (vevents own_tree) shown
  pub only : (zone : Option Zone) (tree : Tree) (events : List EventComponent) → IsCalendarText tree octets → SayEventsIn zone tree events → AllZip (IsPlaced zone) shown events

-- what lines say in a room is what they say, placed there
placed_each : Laws → (zone : Option Zone) (tree : Tree) (lines : List (List (List ℕ))) (said placed : List EventComponent) → AllZip (SaysEventComponent tree None) lines said
    → AllZip (SaysPlaced zone tree None) lines placed → AllZip (IsPlaced zone) said placed
placed_each laws z object [] [] [] says there = tt
placed_each laws z object [] [] (p ∷ placed) says there = absurd there
placed_each laws z object [] (s ∷ said) placed says there = absurd says
placed_each laws z object (l ∷ lines) [] placed says there = absurd says
placed_each laws z object (l ∷ lines) (s ∷ said) [] says there = absurd there
placed_each laws z object (l ∷ lines) (s ∷ said) (p ∷ placed) says there =
    let (event, same, is) = there.0 in (
      subst (λ (e : EventComponent). IsPlaced z e p) (laws.event object None l event s same says.0) is,
      placed_each laws z object lines said placed says.1 there.1,
    )

pub shown_text : Laws → (rooms organisers : List (List ℕ)) (world : World) → IsSound rooms organisers world → (octets : List ℕ) → IsText world octets → IsShownText world octets
shown_text laws rooms organisers world sound octets text =
    let host = text.organiser in
    let (stored, last, is) = text.shown in
    let (among, of) = last_among text.uid host.book stored last in
    let store = sound.stores host text.hosted stored among in
    let meeting = λ (organiser uid : List ℕ). IsMeetingText None organiser uid stored.revision (ShowsSeen host.book stored) stored.events octets in
    let made = subst (λ (organiser : List ℕ). meeting organiser store.said.uid) (sym store.of_organiser) (subst (meeting host.address) (sym of ∙ store.of_uid) is) in
    let calendar = laws.shown_text store.read store.said host.book stored octets store.spells store.store store.events store.small made in
    record {
      host = host;
      hosted = text.hosted;
      uid = text.uid;
      stored = stored;
      last = last;
      shown = calendar.shown;
      each = calendar.each;
      lines = calendar.lines;
      own_tree = calendar.tree;
      object = calendar.object;
      says = calendar.says;
      only = λ zone tree events object says.
          let same : tree ≡ calendar.tree = laws.tree 7 7 (logical_lines octets) tree calendar.tree object.spelled calendar.object.spelled in
          placed_each laws zone calendar.tree (vevents calendar.tree) calendar.shown events calendar.says (subst (λ (t : Tree). SayEventsIn zone t events) same says);
    }

-- ---- who has accepted

accepted_only : (answer : Participation) → is_accepted answer ≡ true → answer ≡ Accepted
accepted_only Accepted e = refl
accepted_only NeedsAction e = absurd (true≢false (sym e))
accepted_only Tentative e = absurd (true≢false (sym e))
accepted_only Delegated e = absurd (true≢false (sym e))
accepted_only Declined e = absurd (true≢false (sym e))

-- one of the attendees
record HasAccepting (room : List ℕ) (attendees : List Attendee) : Type 0 where
  attendee : Attendee
  among : Contains attendees attendee
  address : attendee.address ≡ room
  answer : attendee.participation ≡ Accepted

accepting : (room : List ℕ) (event : EventComponent) → has_accepted room event ≡ true → HasAccepting room event.attendees
accepting room event = by (find (λ a. bytes_eq a.address room) event.attendees) refl
  where
    by : (found : Option Attendee) → find (λ a. bytes_eq a.address room) event.attendees ≡ found
        → unwrap_or (option_map is_accepted (option_map (λ (a : Attendee). a.participation) found)) false ≡ true → HasAccepting room event.attendees
    by None f e = absurd (true≢false (sym e))
    by (Some a) f e =
        let (among, test) = found_among (λ (a : Attendee). bytes_eq a.address room) event.attendees a f in
        record { attendee = a; among = among; address = (bytes_eq-Decides a.address room).0 test; answer = accepted_only a.participation e }

-- an event that shows a room's acceptance names it, and its acceptance is seen
pub record IsSeenAccepting (world : World) (octets : List ℕ) (text : IsShownText world octets) (room : List ℕ) (event : EventComponent) : Type 0 where
  pub named : is_attendee room text.stored.events ≡ true
  pub seen : IsSeenOf text.host.book text.stored (slot_of event) room Accepted

pub seen_accepting : (world : World) (octets : List ℕ) (text : IsShownText world octets) (room : List ℕ) (event said : EventComponent) → Contains text.stored.events event
    → IsSaidAgain (HasAnswered text.host.book text.stored) text.stored.revision event said → has_accepted room said ≡ true → IsSeenAccepting world octets text room event
seen_accepting world octets text room event said among again accepted =
    let by = accepting room said accepted in
    let IsSuch : Attendee → Attendee → Type 0 = HasAnswered text.host.book text.stored (slot_of event) in
    let (attendee, counts, (answer, seen, is)) = zip_back IsSuch (counted event.attendees) said.attendees by.attendee again.attendees by.among in
    let address : attendee.address ≡ room = sym (ap (λ (a : Attendee). a.address) is) ∙ by.address in
    let answers : answer ≡ Accepted = sym (ap (λ (a : Attendee). a.participation) is) ∙ by.answer in
    let names : names_room room event ≡ true =
    any_from (λ (a : Attendee). bytes_eq a.address room) event.attendees attendee (counted_among event.attendees attendee counts) ((bytes_eq-Decides attendee.address room).1 address) in
    record {
      named = any_from (names_room room) text.stored.events event among names;
      seen = subst (IsSeenOf text.host.book text.stored (slot_of event) room) answers
          (subst (λ (a : List ℕ). IsSeenOf text.host.book text.stored (slot_of event) a answer) address seen);
    }

-- ---- what such an event is of

-- the event is one of the last store, in a slot that the room has booked, and what the room was asked there is what was sent of it, as that is in the
-- zone of the room
pub record IsOfBooked (world : World) (octets : List ℕ) (text : IsShownText world octets) (room : Hosted) (said : EventComponent) : Type 0 where
  pub event : EventComponent
  pub among : Contains text.stored.events event
  pub fixed : IsNamedFixed event
  pub again : IsSaidAgain (HasAnswered text.host.book text.stored) text.stored.revision event said
  pub named : is_attendee room.address text.stored.events ≡ true
  pub booked : IsBookedFor text.host.address text.stored room (slot_of event)
  pub asked : EventComponent
  pub sent : IsSentAs text.stored.revision event asked
  pub placed : EventComponent
  pub is_placed : IsPlaced room.zone asked placed
  pub singles : AreApart placed booked.answer.claim.singles
  pub series : AreOfRule placed booked.answer.claim.series

-- the events of a store are of one meeting, and name their instances by fixed times
pub record IsOfStored (stored : Stored) : Type 0 where
  pub organiser : List ℕ
  pub uid : List ℕ
  pub are : AreOfMeeting organiser uid stored.events
  pub fixed : AreNamedFixed stored.events

pub stored_meeting : (rooms organisers : List (List ℕ)) (world : World) → IsSound rooms organisers world → (octets : List ℕ) (text : IsShownText world octets) → IsOfStored text.stored
stored_meeting rooms organisers world sound octets text =
    let store = sound.stores text.host text.hosted text.stored (last_among text.uid text.host.book text.stored text.last).0 in
    record {
      organiser = store.said.organiser;
      uid = store.said.uid;
      are = subst (AreOfMeeting store.said.organiser store.said.uid) (sym store.events) store.spells.says.are;
      fixed = stored_fixed text.host.address text.stored store;
    }

pub of_booked : Laws → (rooms organisers : List (List ℕ)) (world : World) → IsSound rooms organisers world → (octets : List ℕ) (text : IsShownText world octets)
    → (room : Hosted) → Contains world.rooms room → (said : EventComponent) → Contains text.shown said → has_accepted room.address said ≡ true → IsOfBooked world octets text room said
of_booked laws rooms organisers world sound octets text room there said c accepted =
    let (event, among, again) = zip_back (IsSaidAgain (HasAnswered text.host.book text.stored) text.stored.revision) text.stored.events text.shown said text.each c in
    let seen = seen_accepting world octets text room.address event said among again accepted in
    let booked = booked_for laws rooms organisers world sound text.host text.hosted room there text.uid text.stored text.last seen.named (slot_of event) seen.seen in
    let claim = booked.answer.claim in
    let facts = claim_facts text.host.address text.stored room.address room.zone claim booked.of_store in
    let meeting = stored_meeting rooms organisers world sound octets text in
    let same : facts.event ≡ event = one_of_slot meeting.organiser meeting.uid text.stored.events meeting.fixed meeting.are facts.event event facts.among among (sym facts.of_slot ∙ booked.of_slot) in
    let asks = subst (λ (set : Bool). AsksFor set room.zone facts.said claim) booked.set facts.is.asks in
    record {
      event = event;
      among = among;
      fixed = meeting.fixed event among;
      again = again;
      named = seen.named;
      booked = booked;
      asked = facts.said;
      sent = subst (λ (e : EventComponent). IsSentAs text.stored.revision e facts.said) same facts.again;
      placed = asks.0;
      is_placed = asks.1;
      singles = asks.2;
      series = asks.3;
    }
