-- A store keeps what holds in a world: what it sends says the store, and nothing that was heard before is of its SEQUENCE. Behind
-- schedules_hold.
use Rattle.std.proofs.Common.{◌≡◌, ◌∙◌, ◌⊎◌, ℕ, ℤ, ◌<◌, Bool, true, false, cond, List, [], ◌∷◌, ◌++◌, map, Option, Some, None, inl, inr, refl, sym, ap, subst, arith}
use Rattle.std.specs.Prelude.{Contains, ◌^◌}
use Rattle.std.specs.Str.{bytes_eq}
use Rattle.std.specs.List.{AllZip}
use Rattle.std.proofs.lemmas.Bool.{cases_lt, true≢false}
use Rattle.std.proofs.lemmas.List.{map-append}
use Rattle.std.proofs.lemmas.List.Elements.{Contains-append_cases}
use Rattle.std.proofs.lemmas.Slice.Eq.{bytes_eq-Decides}
use Rattle.profile.specs.events.EventComponents.{Attendee, EventComponent, Method, Request, Store}
use Rattle.profile.specs.events.Messages.{Message, SpellsMessage}
use Rattle.profile.specs.organisers.Organisers.{Heard, IsStore, OrganiserBook, Sends, SendsStore, Sent, spent, Stored, gone_from, is_attendee, is_called_off, last_events, last_store, most_sequence, scheduled_in, sequence_after}
use Rattle.profile.specs.organisers.Sent.{IsCancel, IsRequest}
use Rattle.profile.specs.rooms.Revisions.{Revision}
use Rattle.profile.specs.streams.Streams.{Hosted, HostedOrganiser, ServesMessage, ServesMethod}
use Rattle.profile.specs.streams.Worlds.{World, OrganiserSends, OrganiserTakes}
use Rattle.itip_messages.specs.SentLaw.{IsSentAddress, IsSentAs, IsSentName, cancel_message, request_of}
use Rattle.cal_events.proofs.shared_lemmas.InOneOrder.{cons_pairs}
use Rattle.itip_order.proofs.Lists.{in_cons, in_head, none_in_nil}
use Rattle.sched_laws.proofs.law_lemmas.Growing.{IsChanged, WorldGrows, changed, organiser_sends, room_itself, same_addresses, still_given, still_heard, still_sent, still_taken}
use Rattle.sched_laws.proofs.law_lemmas.Invariant.{IsCancelMessage, IsHeardBy, IsRequestOf, IsSentIn, IsSound, IsStoreOf, OfStore, Rises, a_cancel, a_request}
use Rattle.sched_laws.specs.Law.{Laws}
use Rattle.sched_laws.proofs.law_lemmas.StoredSlots.{stored_fixed}
use Rattle.sched_laws.proofs.law_lemmas.RoomReplies.{not_too_long}
use Rattle.sched_laws.proofs.law_lemmas.Stores.{gone_scheduled, gone_unnamed, last_among, scheduled_named, sequence_rises}

-- ---- what is sent

-- the octets that are sent are such, and there is someone whom they are sent to
record IsSentTo (IsSuch : List ℕ → Type 0) (to : List (List ℕ)) (octets : List ℕ) : Type 0 where
  first : List ℕ
  more : List (List ℕ)
  are : to ≡ first ∷ more
  such : IsSuch octets

sent_to : (IsSuch : List ℕ → Type 0) (to : List (List ℕ)) (sent : List Sent) (octets : List ℕ) → Sends IsSuch to sent
    → Contains (map (λ one. one.octets) sent) octets → IsSentTo IsSuch to octets
sent_to IsSuch [] sent octets none c = absurd (none_in_nil octets (subst (λ (all : List Sent). Contains (map (λ one. one.octets) all) octets) none c))
sent_to IsSuch (first ∷ more) sent octets (made, such, is) c =
    elim (in_cons made [] octets (subst (λ (all : List Sent). Contains (map (λ one. one.octets) all) octets) is c)) [
      | inl same ↦ record { first = first; more = more; are = refl; such = subst IsSuch same such }
      | inr none ↦ absurd (none_in_nil octets none)
    ]

-- ---- what octets that were sent of a store say

record SaysStore (organiser : List ℕ) (stored : Stored) (octets : List ℕ) (said : Message) : Type 0 where
  of_organiser : said.organiser ≡ organiser
  of_uid : said.uid ≡ stored.uid
  is : ((said.method ≡ Request) × IsRequestOf octets said stored) ⊎ IsCancelMessage said stored

module _ (laws : Laws) (object : List ℕ) (message : Message) (spells : SpellsMessage object message) (store : message.method ≡ Store)
    (stored : Stored) (of_uid : stored.uid ≡ message.uid) (events : stored.events ≡ message.events) (small : stored.revision.sequence < 2 ^ 31) where
  name : IsSentName message.organiser stored.uid stored.revision
  name = subst (λ (uid : List ℕ). IsSentName message.organiser uid stored.revision) (sym of_uid) (laws.name object message stored.revision spells store small)

  as_stored : IsStoreOf message.organiser stored
  as_stored = record {
    read = object;
    said = message;
    spells = spells;
    store = store;
    of_organiser = refl;
    of_uid = of_uid;
    events = events;
    small = small;
  }

  cancel_said : (called_off : Bool) (to : List (List ℕ)) (octets : List ℕ) (said : Message)
      → ((address : List ℕ) → Contains to address → IsSentAddress address)
      → ((room : List ℕ) → Contains to room → is_called_off stored.events ≡ false → is_attendee room stored.events ≡ false)
      → IsSentTo (IsCancel message.organiser stored.uid stored.revision called_off to) to octets
      → SpellsMessage octets said → SaysStore message.organiser stored octets said
  cancel_said called_off to octets said addresses gone sent is =
      let Cancels : List (List ℕ) → Message = cancel_message message.organiser stored.uid stored.revision called_off in
      let back = laws.cancel message.organiser stored.uid stored.revision called_off to octets name addresses sent.such (not_too_long octets said is) in
      let same : Cancels to ≡ said = laws.one_message octets (Cancels to) said back is in
      record {
        of_organiser = ap (λ (m : Message). m.organiser) (sym same);
        of_uid = ap (λ (m : Message). m.uid) (sym same);
        is = inr (record {
          called_off = called_off;
          first = sent.first;
          more = sent.more;
          is = subst (λ (m : Message). m ≡ cancel_message m.organiser m.uid stored.revision called_off (sent.first ∷ sent.more)) same (ap Cancels sent.are);
          gone = λ alive room c. gone room (subst (λ (all : List (List ℕ)). Contains all room) (sym sent.are) c) alive;
        });
      }

  request_said : (octets : List ℕ) (said : Message) → is_called_off stored.events ≡ false
      → IsRequest message.organiser stored.uid stored.revision stored.events stored.object → octets ≡ stored.object
      → SpellsMessage octets said → SaysStore message.organiser stored octets said
  request_said octets said alive made as_made is =
      let asked = subst (IsRequest message.organiser message.uid stored.revision message.events) (sym as_made)
      (subst (λ (all : List EventComponent). IsRequest message.organiser message.uid stored.revision all stored.object) events
      (subst (λ (uid : List ℕ). IsRequest message.organiser uid stored.revision stored.events stored.object) of_uid made)) in
      let back = laws.request object message stored.revision octets spells store small asked (not_too_long octets said is) in
      let same : request_of message.organiser message.uid back.sent ≡ said = laws.one_message octets (request_of message.organiser message.uid back.sent) said back.spells is in
      let each = subst (λ (all : List EventComponent). AllZip (IsSentAs stored.revision) all back.sent) (sym events) back.each in
      record {
        of_organiser = ap (λ (m : Message). m.organiser) (sym same);
        of_uid = ap (λ (m : Message). m.uid) (sym same) ∙ sym of_uid;
        is = inl (
          ap (λ (m : Message). m.method) (sym same),
          record {
            alive = alive;
            fixed = stored_fixed message.organiser stored as_stored;
            object = sym as_made;
            each = subst (λ (m : Message). AllZip (IsSentAs stored.revision) stored.events m.events) same each;
          },
        );
      }

  module _ (earlier : List EventComponent)
      (addresses : (event : EventComponent) (attendee : Attendee) → Contains earlier event → Contains event.attendees attendee → IsSentAddress attendee.address) where
    scheduled_now : (address : List ℕ) → Contains (scheduled_in message.organiser stored.events) address → IsSentAddress address
    scheduled_now address c =
        let named = scheduled_named message.organiser stored.events address c in
        let among = subst (λ (all : List EventComponent). Contains all named.event) events named.among in
        subst IsSentAddress named.is (laws.attendees object message named.event named.attendee spells store among named.line)

    scheduled_then : (address : List ℕ) → Contains (scheduled_in message.organiser earlier) address → IsSentAddress address
    scheduled_then address c =
        let named = scheduled_named message.organiser earlier address c in
        subst IsSentAddress named.is (addresses named.event named.attendee named.among named.line)

    abbrev gone_now : Bool → List (List ℕ)
    gone_now called_off = gone_from called_off message.organiser earlier stored.events

    abbrev all_to : List (List ℕ)
    all_to = scheduled_in message.organiser stored.events ++ gone_now true

    all_addresses : (address : List ℕ) → Contains all_to address → IsSentAddress address
    all_addresses address c = elim (Contains-append_cases (scheduled_in message.organiser stored.events) (gone_now true) address c) [
      | inl now ↦ scheduled_now address now
      | inr gone ↦ scheduled_then address (gone_scheduled true message.organiser earlier stored.events address gone)
    ]

    sends_said : (called_off : Bool) (sent : List Sent) (octets : List ℕ) (said : Message) → is_called_off stored.events ≡ called_off
        → SendsStore called_off message.organiser stored (gone_now called_off) sent → Contains (map (λ one. one.octets) sent) octets
        → SpellsMessage octets said → SaysStore message.organiser stored octets said
    sends_said true sent octets said off (made, sends) c is =
        let to = sent_to (λ other. other ≡ stored.object) all_to sent octets sends c in
        cancel_said true all_to octets said all_addresses (λ room there alive. absurd (true≢false (sym off ∙ alive)))
        (record { first = to.first; more = to.more; are = to.are; such = subst (IsCancel message.organiser stored.uid stored.revision true all_to) (sym to.such) made })
        is
    sends_said false sent octets said off (requests, cancels, made, to_requests, to_cancels, are) c is =
        let there = subst (λ (all : List (List ℕ)). Contains all octets) (ap (map (λ (one : Sent). one.octets)) are ∙ map-append (λ (one : Sent). one.octets) requests cancels) c in
        elim (Contains-append_cases (map (λ (one : Sent). one.octets) requests) (map (λ (one : Sent). one.octets) cancels) octets there) [
          | inl request ↦
              let to = sent_to (λ other. other ≡ stored.object) (scheduled_in message.organiser stored.events) requests octets to_requests request in
              request_said octets said off made to.such is
          | inr cancel ↦
              cancel_said false (gone_now false) octets said
              (λ address gone. scheduled_then address (gone_scheduled false message.organiser earlier stored.events address gone))
              (λ room gone alive. gone_unnamed message.organiser earlier stored.events room gone)
              (sent_to (IsCancel message.organiser stored.uid stored.revision false (gone_now false)) (gone_now false) cancels octets to_cancels cancel)
              is
        ]

-- ---- the book of one who stores

store_of : (moment : ℤ) (message : Message) (before after : OrganiserBook) (objects : List (List ℕ)) → message.method ≡ Store
    → ServesMessage moment message before after objects
    → (sent : List Sent) × IsStore moment message before sent after × (objects ≡ map (λ one. one.octets) sent)
store_of moment message before after objects store s = subst (λ (method : Method). ServesMethod method moment message before after objects) store s.serves

fits : (n : ℕ) → (most_sequence < n → ⊥) → n < 2 ^ 31
fits n allowed = elim (cases_lt most_sequence n) [ inl over ↦ absurd (allowed over) | inr within ↦ omega (arith, within) ]

last_addresses : Laws → (organiser : List ℕ) (last : Option Stored) → ((stored : Stored) → last ≡ Some stored → IsStoreOf organiser stored)
    → (event : EventComponent) (attendee : Attendee) → Contains (last_events last) event → Contains event.attendees attendee → IsSentAddress attendee.address
last_addresses laws organiser None stores event attendee among line = absurd (none_in_nil event among)
last_addresses laws organiser (Some stored) stores event attendee among line =
    let s = stores stored refl in
    laws.attendees s.read s.said event attendee s.spells s.store (subst (λ (all : List EventComponent). Contains all event) s.events among) line

-- ---- a store

module _ (laws : Laws) (rooms organisers : List (List ℕ)) (organiser object : List ℕ) (moment : ℤ) (message : Message) (before after : World)
    (sound : IsSound rooms organisers before) (spells : SpellsMessage object message) (store : message.method ≡ Store)
    (sends : OrganiserSends organiser moment message before after) where
  abbrev old : HostedOrganiser
  old = sends.takes.old

  abbrev new : HostedOrganiser
  new = sends.takes.new

  takes : OrganiserTakes organiser moment message sends.sent old new
  takes = sends.takes.changes

  made : (sent : List Sent) × IsStore moment message old.book sent new.book × (sends.sent ≡ map (λ one. one.octets) sent)
  made = store_of moment message old.book new.book sends.sent store takes.serves

  abbrev stored : Stored
  stored = made.1.stored

  hosts : IsChanged before.organisers after.organisers old new
  hosts = changed (OrganiserTakes organiser moment message sends.sent) before.organisers after.organisers sends.takes

  grow : WorldGrows before after
  grow = organiser_sends organiser moment message before after sends

  sequence_is : stored.revision.sequence ≡ sequence_after (last_store message.uid old.book) message.events
  sequence_is = ap (λ (revision : Revision). revision.sequence) made.1.revision

  small : stored.revision.sequence < 2 ^ 31
  small =
      subst (λ (n : ℕ). n < 2 ^ 31) (sym sequence_is)
      (fits (sequence_after (last_store message.uid old.book) message.events) (λ over. takes.serves.allowed 72 (spent store over)))

  of_organiser : message.organiser ≡ new.address
  of_organiser = takes.named ∙ sym takes.address ∙ sym takes.same

  stored_is : IsStoreOf new.address stored
  stored_is = record {
    read = object;
    said = message;
    spells = spells;
    store = store;
    of_organiser = of_organiser;
    of_uid = made.1.of_meeting;
    events = made.1.events;
    small = small;
  }

  stored_among : Contains new.book.stores stored
  stored_among = subst (λ (book : OrganiserBook). Contains book.stores stored) (sym made.1.kept) (in_head stored old.book.stores)

  -- each earlier store of that UID has a smaller SEQUENCE
  below : (earlier : Stored) → Contains old.book.stores earlier → stored.uid ≡ earlier.uid → earlier.revision.sequence < stored.revision.sequence
  below earlier c same =
      subst (λ (n : ℕ). earlier.revision.sequence < n) (sym sequence_is)
      (sequence_rises message.uid old.book earlier message.events (sound.rises old hosts.was) c (sym same ∙ made.1.of_meeting))

  new_stores : (one : Stored) → Contains new.book.stores one → IsStoreOf new.address one
  new_stores one c = elim (in_cons stored old.book.stores one (subst (λ (book : OrganiserBook). Contains book.stores one) made.1.kept c)) [
    | inl here ↦ subst (IsStoreOf new.address) here stored_is
    | inr earlier ↦ subst (λ (address : List ℕ). IsStoreOf address one) (sym takes.same) (sound.stores old hosts.was one earlier)
  ]

  new_rises : Rises new.book.stores
  new_rises =
      subst (λ (book : OrganiserBook). Rises book.stores) (sym made.1.kept)
      (cons_pairs (λ (later earlier : Stored). later.uid ≡ earlier.uid → earlier.revision.sequence < later.revision.sequence) stored old.book.stores
      below (sound.rises old hosts.was))

  -- what was heard is of a smaller SEQUENCE than this store, where it is of its UID
  heard_below : (heard : Heard) → IsHeardBy before old heard → stored.uid ≡ heard.uid → heard.revision.sequence < stored.revision.sequence
  heard_below heard h same =
      let last = last_among heard.uid old.book h.stored h.last in
      let less = below h.stored last.0 (same ∙ sym last.1) in
      let no_later = h.sent in
      omega (arith, less, no_later)

  new_heard : (heard : Heard) → Contains new.book.replies heard → IsHeardBy after new heard
  new_heard heard c = by (bytes_eq stored.uid heard.uid) refl
    where
      was : IsHeardBy before old heard
      was = sound.heard old hosts.was heard (subst (λ (book : OrganiserBook). Contains book.replies heard) made.1.kept c)

      last_is : (b : Bool) → bytes_eq stored.uid heard.uid ≡ b → last_store heard.uid new.book ≡ cond b (Some stored) (last_store heard.uid old.book)
      last_is b e = ap (last_store heard.uid) made.1.kept ∙ ap (λ (b : Bool). cond b (Some stored) (last_store heard.uid old.book)) e

      by : (b : Bool) → bytes_eq stored.uid heard.uid ≡ b → IsHeardBy after new heard
      by true same =
          let less = heard_below heard was ((bytes_eq-Decides stored.uid heard.uid).0 same) in
          record {
            stored = stored;
            last = last_is true same;
            sent = omega (arith, less);
            accepted = λ equal. absurd (omega (arith, less, equal));
          }
      by false other = still_heard before after grow old new takes.same heard (last_is false other) was

  -- ---- what is sent

  says_store : (octets : List ℕ) (said : Message) → Contains sends.sent octets → SpellsMessage octets said → SaysStore message.organiser stored octets said
  says_store octets said c =
      let last = last_store message.uid old.book in
      let addresses = last_addresses laws old.address last (λ one is. sound.stores old hosts.was one (last_among message.uid old.book one is).0) in
      let store_sends = subst (λ (events : List EventComponent).
      SendsStore (is_called_off events) message.organiser stored (gone_from (is_called_off events) message.organiser (last_events last) events) made.0)
      (sym made.1.events) made.1.sends in
      sends_said laws object message spells store stored made.1.of_meeting made.1.events small (last_events last) addresses
      (is_called_off stored.events) made.0 octets said refl store_sends (subst (λ (all : List (List ℕ)). Contains all octets) made.2 c)

  of_stored : (octets : List ℕ) (said : Message) → SaysStore message.organiser stored octets said → (Holds : Stored → Type 0) → Holds stored
      → OfStore after.organisers said.organiser said.uid Holds
  of_stored octets said says Holds holds = record {
    host = new;
    hosted = hosts.is;
    address = sym of_organiser ∙ sym says.of_organiser;
    stored = stored;
    among = stored_among;
    of_uid = sym says.of_uid;
    holds = holds;
  }

  now_sent : (octets : List ℕ) → Contains sends.sent octets → IsSentIn after octets
  now_sent octets c said is =
      let says = says_store octets said c is in
      elim says.is [
        | inl request ↦ a_request request.0 (of_stored octets said says (IsRequestOf octets said) request.1)
        | inr cancel ↦ a_cancel (of_stored octets said says (IsCancelMessage said) cancel)
      ]

  -- ---- all that holds

  -- of each organiser, where it holds of the one who stores and of each other
  each_organiser : (Holds : HostedOrganiser → Type 0) → Holds new → ((host : HostedOrganiser) → Contains before.organisers host → Holds host)
      → (host : HostedOrganiser) → Contains after.organisers host → Holds host
  each_organiser Holds holds others host c = elim (hosts.from host c) [ inl same ↦ subst Holds (sym same) holds | inr stays ↦ others host stays ]

  was_room : (room : Hosted) → Contains after.rooms room → Contains before.rooms room
  was_room room c = subst (λ (list : List Hosted). Contains list room) sends.others c

  pub store_sound : IsSound rooms organisers after
  store_sound = record {
    rooms_are = ap (map (λ (host : Hosted). host.address)) sends.others ∙ sound.rooms_are;
    organisers_are = same_addresses (λ (host : HostedOrganiser). host.address) (OrganiserTakes organiser moment message sends.sent)
        before.organisers after.organisers sends.takes takes.same ∙ sound.organisers_are;
    in_zones = λ room c. sound.in_zones room (was_room room c);
    stores = each_organiser (λ host. (one : Stored) → Contains host.book.stores one → IsStoreOf host.address one) new_stores sound.stores;
    rises = each_organiser (λ host. Rises host.book.stores) new_rises sound.rises;
    heard = each_organiser (λ host. (heard : Heard) → Contains host.book.replies heard → IsHeardBy after host heard) new_heard
        (λ host was heard c. still_heard before after grow host host refl heard refl (sound.heard host was heard c));
    taken = λ room c part t. still_taken before after grow room.address room.zone part (sound.taken room (was_room room c) part t);
    given = λ room c answer g. still_given before after grow room room (room_itself room) answer (sound.given room (was_room room c) answer g);
    reached = λ room c. sound.reached room (was_room room c);
    sent = λ octets c. elim (Contains-append_cases before.sent sends.sent octets (subst (λ (all : List (List ℕ)). Contains all octets) sends.adds c)) [
      | inl earlier ↦ still_sent before after grow octets (sound.sent octets earlier)
      | inr now ↦ now_sent octets now
    ];
  }
