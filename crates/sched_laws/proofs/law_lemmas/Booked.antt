-- What an organiser sees accepted is booked: no part that a room took of a meeting displaces one of its last store. Behind schedules_hold.
use Rattle.std.proofs.Common.{◌≡◌, ◌∙◌, ℕ, ℤ, ◌<◌, Bool, true, false, not, ◌&&◌, cond, List, [], ◌∷◌, map, filter, Option, None, Some, is_some, inl, inr, refl, sym, ap, subst, ◌⊎◌, lt-ltb}
use Rattle.std.specs.Prelude.{◌==◌, Contains}
use Rattle.std.specs.List.{AllZip}
use Rattle.std.specs.Ordering.{int_cmp, is_eq, is_gt, is_le, ordering_reverse, ordering_then}
use Rattle.std.specs.Str.{bytes_eq}
use Rattle.std.specs.declared.cmp.Ordering.TheVariants.{Less, Equal, Greater}
use Rattle.std.proofs.lemmas.Bool.{and_from, and_parts, eqb-true, or_left, or_right, false_from_ne_true, true≢false}
use Rattle.std.proofs.lemmas.Cmp.{tied_itself}
use Rattle.std.proofs.lemmas.Option.{same_Some}
use Rattle.std.proofs.lemmas.Slice.Eq.{bytes_eq-Decides}
use Rattle.profile.specs.events.EventComponents.{Accepted, EventComponent, Request, is_accepted}
use Rattle.profile.specs.events.Events.{is_master}
use Rattle.profile.specs.events.Messages.{Message}
use Rattle.profile.specs.organisers.Organisers.{Heard, IsLatestOf, IsSeenOf, Stored, answers_store, is_attendee, is_called_off, last_store}
use Rattle.profile.specs.rooms.Messages.{Content, IsBody, IsPart, parts_for, slot_named, slot_of}
use Rattle.profile.specs.rooms.Revisions.{Absent, Body, Cancelled, Part, Revision, Set, Slot, Whole, body_cmp, implies, in_view, is_cancelled, is_greatest, is_whole, leaves_in_view, part_cmp, revision_cmp, same_place, slot_cmp, stays_beside}
use Rattle.profile.specs.rooms.Rooms.{Claim, PartAnswer, is_accept, is_set}
use Rattle.profile.specs.series.Zones.{Zone}
use Rattle.profile.specs.streams.Schedules.{HasBooked, SeenIsBooked}
use Rattle.profile.specs.streams.Streams.{Hosted, HostedOrganiser, IsClaim}
use Rattle.profile.specs.streams.Worlds.{World}
use Rattle.cal_events.proofs.shared_lemmas.InOneOrder.{in_mapped, of_filtered}
use Rattle.itip_messages.specs.SentLaw.{request_of}
use Rattle.itip_order.proofs.Lists.{all_from, any_from}
use Rattle.itip_order.proofs.Order.{is_eq_true, revision_total, slot_same}
use Rattle.itip_order.proofs.SlotEnds.{greatest_mapped}
use Rattle.itip_order.proofs.Registers.{greatest_from, implies_from, part_le_refl}
use Rattle.room_books.proofs.laws_lemmas.KeptEntries.{meeting_there, place_there}
use Rattle.sched_laws.proofs.law_lemmas.ClaimFacts.{claim_facts}
use Rattle.sched_laws.proofs.law_lemmas.Growing.{one_organiser}
use Rattle.sched_laws.proofs.law_lemmas.Invariant.{HasAccepted, IsCancelOf, IsClaimOf, IsSound}
use Rattle.sched_laws.proofs.law_lemmas.SlotParts.{one_of_claims}
use Rattle.sched_laws.proofs.law_lemmas.Stores.{IsLastOr, last_among, last_or_less}
use Rattle.sched_laws.specs.Law.{Laws}

-- ---- revisions

pub older_less : (a b : Revision) → a.sequence < b.sequence → revision_cmp a b ≡ Less
older_less a b less =
    ap (λ (t : Bool). ordering_then (cond t Less (cond (a.sequence == b.sequence) Equal Greater)) (int_cmp a.stamp b.stamp)) (lt-ltb a.sequence b.sequence less)

newer_greater : (a b : Revision) → a.sequence < b.sequence → revision_cmp b a ≡ Greater
newer_greater a b less = revision_total.antisymm b a ∙ ap ordering_reverse (older_less a b less)

-- ---- what a room took of a meeting

-- a part of the last store's REQUEST
abbrev pub OfLast : (organiser : List ℕ) → Stored → (room : List ℕ) → Option Zone → Part → Type 0
OfLast organiser stored room zone part = (claim : Claim) × (claim.part ≡ part) × IsClaimOf organiser stored room zone claim

-- or one of a lesser SEQUENCE
abbrev pub OfLastOrOlder : (organiser : List ℕ) → Stored → (room : List ℕ) → Option Zone → Part → Type 0
OfLastOrOlder organiser stored room zone part = OfLast organiser stored room zone part ⊎ (part.revision.sequence < stored.revision.sequence)

-- a CANCEL of the last store isn't for a room that this names
of_store : (organiser room : List ℕ) (zone : Option Zone) (stored other : Stored) (part : Part) → is_called_off stored.events ≡ false → is_attendee room stored.events ≡ true → IsLastOr stored other
    → OfLast organiser other room zone part ⊎ IsCancelOf organiser other room part → OfLastOrOlder organiser stored room zone part
of_store organiser room z stored other part alive named (inl same) (inl (claim, is, of)) =
    inl (claim, is, subst (λ (s : Stored). IsClaimOf organiser s room z claim) same of)
of_store organiser room z stored other part alive named (inl same) (inr cancel) =
    absurd (true≢false (sym named ∙ subst (λ (s : Stored). is_called_off s.events ≡ false → is_attendee room s.events ≡ false) same cancel.gone alive))
of_store organiser room z stored other part alive named (inr less) (inl (claim, is, of)) =
    inr (subst (λ (r : Revision). r.sequence < stored.revision.sequence) (sym (claim_facts organiser other room z claim of).of_revision ∙ ap (λ (p : Part). p.revision) is) less)
of_store organiser room z stored other part alive named (inr less) (inr cancel) =
    inr (subst (λ (p : Part). p.revision.sequence < stored.revision.sequence) (sym cancel.is) less)

-- a Whole of a store that isn't called off isn't cancelled
no_cancelled : (room : List ℕ) (event said : EventComponent) (content : Content) (body : Body) → event.cancelled ≡ false → said.cancelled ≡ event.cancelled
    → IsBody room Request said content body → is_eq (body_cmp body Cancelled) ≡ false
no_cancelled room event said content (Set octets) alive same h = refl
no_cancelled room event said content Absent alive same h = refl
no_cancelled room event said content Cancelled alive same h = absurd (true≢false (sym h.0 ∙ same ∙ alive))

whole_stays : (organiser room : List ℕ) (zone : Option Zone) (stored : Stored) (part : Part) → OfLast organiser stored room zone part → is_whole part ≡ true → is_cancelled part ≡ false
whole_stays organiser room zone stored part (claim, is, of) whole =
    let f = claim_facts organiser stored room zone claim of in
    let slot : slot_of f.event ≡ Whole = sym f.of_slot ∙ ap (λ (p : Part). p.slot) is ∙ slot_same part.slot Whole (is_eq_true (slot_cmp part.slot Whole) whole) in
    let master : is_master f.event ≡ true = master_of f.event.recurrence slot in
    let alive : f.event.cancelled ≡ false = false_from_ne_true f.event.cancelled (λ off.
    true≢false (sym (any_from (λ (event : EventComponent). is_master event && event.cancelled) stored.events f.event f.among (and_from (is_master f.event) f.event.cancelled master off)) ∙ of.alive)) in
    subst (λ (p : Part). is_cancelled p ≡ false) is (no_cancelled room f.event f.said claim.content claim.part.body alive f.again.cancelled f.is.part.body)
  where
    master_of : (recurrence : Option ℤ) → slot_named recurrence ≡ Whole → not (is_some recurrence) ≡ true
    master_of None e = refl
    master_of (Some t) e = cc

-- ---- of the last store

module _ (laws : Laws) (rooms organisers : List (List ℕ)) (world : World) (sound : IsSound rooms organisers world)
    (host : HostedOrganiser) (hosted : Contains world.organisers host) (room : Hosted) (there : Contains world.rooms room)
    (uid : List ℕ) (stored : Stored) (last : last_store uid host.book ≡ Some stored) (named : is_attendee room.address stored.events ≡ true) where
  pub of_meeting : is_called_off stored.events ≡ false → (part : Part) → Contains room.book.taken part → part.organiser ≡ host.address → part.uid ≡ uid
      → OfLastOrOlder host.address stored room.address room.zone part
  of_meeting alive part c organiser of =
      let t = sound.taken room there part c in
      let one : t.host ≡ host = one_organiser world.organisers organisers t.host host sound.organisers_are t.hosted hosted (t.address ∙ organiser) in
      let among : Contains host.book.stores t.stored = subst (λ (h : HostedOrganiser). Contains h.book.stores t.stored) one t.among in
      of_store host.address room.address room.zone stored t.stored part alive named
      (last_or_less uid host.book stored t.stored (sound.rises host hosted) last among (t.of_uid ∙ of))
      (subst (λ (o : List ℕ). OfLast o t.stored room.address room.zone part ⊎ IsCancelOf o t.stored room.address part) organiser t.holds)

  module _ (claim : Claim) (of : IsClaimOf host.address stored room.address room.zone claim) (taken : Contains room.book.taken claim.part) where
    abbrev part : Part
    part = claim.part

    organiser_is : part.organiser ≡ host.address
    organiser_is = (claim_facts host.address stored room.address room.zone claim of).of_organiser

    uid_is : part.uid ≡ uid
    uid_is = (claim_facts host.address stored room.address room.zone claim of).of_uid ∙ (last_among uid host.book stored last).1

    revision_is : part.revision ≡ stored.revision
    revision_is = (claim_facts host.address stored room.address room.zone claim of).of_revision

    -- a part of this meeting that the room took
    beside : (other : Part) → Contains room.book.taken other → (other.organiser ≡ part.organiser) × (other.uid ≡ part.uid) → OfLastOrOlder host.address stored room.address room.zone other
    beside other c (organiser, of_uid) = of_meeting of.alive other c (organiser ∙ organiser_is) (of_uid ∙ uid_is)

    older : (other : Part) → other.revision.sequence < stored.revision.sequence → other.revision.sequence < part.revision.sequence
    older other less = subst (λ (r : Revision). other.revision.sequence < r.sequence) (sym revision_is) less

    -- none of its slot is greater
    none_greater : (other : Part) → same_place other part ≡ true → OfLastOrOlder host.address stored room.address room.zone other → is_le (part_cmp other part) ≡ true
    none_greater other place (inl (own, is, d)) =
        let same : own.part ≡ part = one_of_claims laws host.address stored room.address room.zone own claim d of (ap (λ (p : Part). p.slot) is ∙ (place_there other part place).slot) in
        subst (λ (p : Part). is_le (part_cmp p part) ≡ true) (sym same ∙ is) (part_le_refl part)
    none_greater other place (inr less) =
        ap (λ o. is_le (ordering_then o (body_cmp other.body part.body))) (older_less other.revision part.revision (older other less))

    -- and each Whole leaves it in the view
    stays : (whole : Part) → is_whole whole ≡ true → OfLastOrOlder host.address stored room.address room.zone whole → stays_beside whole part ≡ true
    stays whole is (inl last_of) =
        let revision : whole.revision ≡ part.revision =
        sym (ap (λ (p : Part). p.revision) last_of.1) ∙ (claim_facts host.address stored room.address room.zone last_of.0 last_of.2).of_revision ∙ sym revision_is in
        let tied : is_eq (revision_cmp part.revision whole.revision) ≡ true = ap (λ (r : Revision). is_eq (revision_cmp part.revision r)) revision ∙ ap is_eq (tied_itself revision_total part.revision) in
        or_right _ _ (and_from _ _ tied (ap not (whole_stays host.address room.address room.zone stored whole last_of is)))
    stays whole is (inr less) = or_left _ _ (ap is_gt (newer_greater whole.revision part.revision (older whole less)))

    pub viewed : in_view room.book.taken part ≡ true
    viewed =
        let history = room.book.taken in
        and_from _ _ (greatest_from history part record {
          taken = taken;
          top = λ other c place. let p = place_there other part place in none_greater other place (beside other c (p.organiser, p.uid));
        })
        (all_from (λ whole. implies (is_greatest history whole) (leaves_in_view whole part)) history (λ whole c. implies_from _ _ (λ _.
        or_right (is_whole part) _ (implies_from _ _ (λ both. let (is, same) = and_parts _ _ both in stays whole is (beside whole c (meeting_there whole part same)))))))

-- ---- what was heard

-- a room has accepted what the last store of a meeting has for it in this slot, and that is in the view of what the room took
pub record IsBookedFor (organiser : List ℕ) (stored : Stored) (room : Hosted) (slot : Slot) : Type 0 where
  pub answer : PartAnswer
  pub given : Contains room.book.answers answer
  pub accepted : is_accept answer.outcome ≡ true
  pub of_store : IsClaimOf organiser stored room.address room.zone answer.claim
  pub of_slot : answer.claim.part.slot ≡ slot
  pub set : is_set answer.claim.part ≡ true
  pub viewed : in_view room.book.taken answer.claim.part ≡ true

-- what is seen accepted was heard so
latest_heard : (these : List Heard) → IsLatestOf these Accepted → (heard : Heard) × Contains these heard × (heard.answer ≡ Accepted)
latest_heard [] none = absurd (true≢false (ap is_accepted none))
latest_heard (first ∷ others) (heard, among, answer, latest) = (heard, among, sym answer)

-- an answer to this store, in this slot, by this attendee
record IsTo (stored : Stored) (slot : Slot) (attendee : List ℕ) (heard : Heard) : Type 0 where
  uid : heard.uid ≡ stored.uid
  attendee_is : heard.attendee ≡ attendee
  slot_is : heard.slot ≡ slot
  sequence : heard.revision.sequence ≡ stored.revision.sequence

is_to : (stored : Stored) (slot : Slot) (attendee : List ℕ) (heard : Heard) → answers_store stored slot attendee heard ≡ true → IsTo stored slot attendee heard
is_to stored slot attendee heard e =
    let u = bytes_eq heard.uid stored.uid in
    let a = bytes_eq heard.attendee attendee in
    let s = is_eq (slot_cmp heard.slot slot) in
    let n = heard.revision.sequence == stored.revision.sequence in
    let (three, numbered) = and_parts (u && a && s) n e in
    let (two, placed) = and_parts (u && a) s three in
    let (one, addressed) = and_parts u a two in
    record {
      uid = (bytes_eq-Decides heard.uid stored.uid).0 one;
      attendee_is = (bytes_eq-Decides heard.attendee attendee).0 addressed;
      slot_is = slot_same heard.slot slot (is_eq_true (slot_cmp heard.slot slot) placed);
      sequence = eqb-true heard.revision.sequence stored.revision.sequence numbered;
    }

module _ (laws : Laws) (rooms organisers : List (List ℕ)) (world : World) (sound : IsSound rooms organisers world)
    (host : HostedOrganiser) (hosted : Contains world.organisers host) (room : Hosted) (there : Contains world.rooms room)
    (uid : List ℕ) (stored : Stored) (last : last_store uid host.book ≡ Some stored) where
  accepted_there : (slot : Slot) → IsSeenOf host.book stored slot room.address Accepted → (heard : Heard) × (heard.slot ≡ slot) × HasAccepted host.address stored room heard
  accepted_there slot seen =
      let (heard, among, answer) = latest_heard (filter (answers_store stored slot room.address) host.book.replies) seen in
      let (replied, test) = of_filtered (answers_store stored slot room.address) host.book.replies heard among in
      let to = is_to stored slot room.address heard test in
      let by = sound.heard host hosted heard replied in
      let own : heard.uid ≡ uid = to.uid ∙ (last_among uid host.book stored last).1 in
      let same : by.stored ≡ stored = same_Some by.stored stored (sym by.last ∙ ap (λ (u : List ℕ). last_store u host.book) own ∙ last) in
      let sequence : heard.revision.sequence ≡ by.stored.revision.sequence = to.sequence ∙ sym (ap (λ (s : Stored). s.revision.sequence) same) in
      (heard, to.slot_is, subst (λ (s : Stored). HasAccepted host.address s room heard) same (by.accepted sequence room there (sym to.attendee_is) answer))

  pub booked_for : is_attendee room.address stored.events ≡ true → (slot : Slot) → IsSeenOf host.book stored slot room.address Accepted → IsBookedFor host.address stored room slot
  booked_for named slot seen =
      let (heard, of_slot, accepted) = accepted_there slot seen in
      let given = sound.given room there accepted.answer accepted.given in
      record {
        answer = accepted.answer;
        given = accepted.given;
        accepted = accepted.accepted;
        of_store = accepted.of_store;
        of_slot = accepted.of_slot ∙ of_slot;
        set = given.set;
        viewed = viewed laws rooms organisers world sound host hosted room there uid stored last named accepted.answer.claim accepted.of_store given.taken;
      }

-- the parts of these claims are those of the message
parts_each : (room : List ℕ) (zone : Option Zone) (message : Message) (events : List EventComponent) (claims : List Claim) → AllZip (IsClaim room zone message) events claims
    → AllZip (λ event part. (content : Content) × IsPart room zone message event content part) events (map (λ c. c.part) claims)
parts_each room z message [] [] each = tt
parts_each room z message [] (c ∷ claims) each = absurd each
parts_each room z message (e ∷ events) [] each = absurd each
parts_each room z message (e ∷ events) (c ∷ claims) each = ((c.content, each.0.part), parts_each room z message events claims each.1)

abbrev part_of : Claim → Part
part_of claim = claim.part

has_booked : (organiser uid : List ℕ) (stored : Stored) (room : Hosted) (slot : Slot) → stored.uid ≡ uid → IsBookedFor organiser stored room slot
    → HasBooked organiser uid room slot stored.object
has_booked organiser uid stored room slot of_uid b =
    let c = b.of_store in
    let message = request_of organiser stored.uid c.sent in
    record {
      message = message;
      spells = c.spells;
      request = refl;
      of_organiser = refl;
      of_uid = of_uid;
      parts = map part_of c.claims;
      are = record {
        all = map part_of c.are.all;
        each = parts_each room.address room.zone message (parts_for room.address message) c.are.all c.are.each;
        are = greatest_mapped (λ (part : Part). part) part_of c.are.all c.claims c.are.are;
      };
      part = b.answer.claim.part;
      among = in_mapped part_of c.claims b.answer.claim c.among;
      of_slot = b.of_slot;
      booked = record { viewed = b.viewed; set = b.set; answer = b.answer; given = b.given; to = refl; accepted = b.accepted };
    }

pub seen_is_booked : Laws → (rooms organisers : List (List ℕ)) (world : World) → IsSound rooms organisers world → SeenIsBooked world
seen_is_booked laws rooms organisers world sound host room hosted there uid slot (stored, last, named, seen) =
    let booked = booked_for laws rooms organisers world sound host hosted room there uid stored last named slot seen in
    record { stored = stored; last = last; has = has_booked host.address uid stored room slot (last_among uid host.book stored last).1 booked }
