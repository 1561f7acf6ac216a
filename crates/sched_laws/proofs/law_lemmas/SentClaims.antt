-- What a message that was sent claims of a room: a REQUEST what its store has for the room, a CANCEL that the whole meeting is cancelled.
-- Behind schedules_hold.
use Rattle.std.proofs.Common.{◌≡◌, ◌∙◌, ℕ, Bool, true, false, cond, List, [], ◌∷◌, filter, Option, None, Some, ℤ, inl, inr, ◌⊎◌, refl, sym, ap, subst, arith}
use Rattle.std.specs.Prelude.{Contains}
use Rattle.std.specs.Cmp.{unsigned_Decides}
use Rattle.std.specs.Str.{bytes_eq}
use Rattle.std.proofs.lemmas.Bool.{or_cases, true≢false}
use Rattle.std.proofs.lemmas.Option.{same_Some}
use Rattle.std.proofs.lemmas.Slice.Eq.{bytes_eq-Decides}
use Rattle.profile.specs.events.EventComponents.{Attendee, Cancel, EventComponent, Request}
use Rattle.profile.specs.events.Messages.{Message, SpellsMessage, is_to_rooms}
use Rattle.profile.specs.events.Placed.{IsAt}
use Rattle.profile.specs.events.Properties.{BothOrNeither}
use Rattle.profile.specs.rooms.Messages.{Content, IsBody, IsPart, IsSlotIn, is_addressed, is_part_for, names_room, parts_for, slot_named}
use Rattle.profile.specs.rooms.Revisions as revisions
use Rattle.profile.specs.rooms.Revisions.{Body, Part, Revision, Slot}
use Rattle.profile.specs.rooms.Rooms.{Claim, is_set}
use Rattle.profile.specs.series.Zones.{Zone}
use Rattle.profile.specs.streams.Streams.{AreClaims, HostedOrganiser, IsClaim}
use Rattle.profile.specs.streams.Worlds.{World}
use Rattle.cal_events.proofs.shared_lemmas.InOneOrder.{none_in, of_filtered, of_mapped}
use Rattle.itip_messages.proofs.sent_law_lemmas.CancelReads.{later_same}
use Rattle.itip_messages.specs.SentLaw.{attendee_at, cancel_event, cancel_message, cancel_part, request_of}
use Rattle.itip_order.proofs.Lists.{any_at, in_cons, none_in_nil}
use Rattle.room_books.proofs.shared_lemmas.Loops.{zip_from}
use Rattle.sched_laws.proofs.law_lemmas.ClaimFacts.{claim_facts}
use Rattle.sched_laws.proofs.law_lemmas.Invariant.{IsCancelMessage, IsCancelOf, IsClaimOf, IsRequestOf, OfStore, SaysSent, a_cancel, a_reply, a_request}

-- the claim is of a store: of its REQUEST, or of its CANCEL, which asks for nothing
pub record IsRequested (organisers : List HostedOrganiser) (room : List ℕ) (zone : Option Zone) (claim : Claim) : Type 0 where
  pub of_store : OfStore organisers claim.part.organiser claim.part.uid (λ stored. IsClaimOf claim.part.organiser stored room zone claim)

pub record IsTakenBack (organisers : List HostedOrganiser) (room : List ℕ) (claim : Claim) : Type 0 where
  pub unset : is_set claim.part ≡ false
  pub of_store : OfStore organisers claim.part.organiser claim.part.uid (λ stored. IsCancelOf claim.part.organiser stored room claim.part)

abbrev pub IsSentClaim : List HostedOrganiser → List ℕ → Option Zone → Claim → Type 0
IsSentClaim organisers room zone claim = IsRequested organisers room zone claim ⊎ IsTakenBack organisers room claim

-- ---- of a REQUEST

request_claim : (organisers : List HostedOrganiser) (octets : List ℕ) (message : Message) (room : List ℕ) (zone : Option Zone) (claims : List Claim) (claim : Claim) → message.method ≡ Request
    → OfStore organisers message.organiser message.uid (IsRequestOf octets message) → SpellsMessage octets message → AreClaims room zone message claims → Contains claims claim
    → IsRequested organisers room zone claim
request_claim organisers octets message room zone claims claim request o spells are among =
    let said = request_of message.organiser o.stored.uid message.events in
    let is : message ≡ said = λ i. record { method = request i; organiser = message.organiser; uid = sym o.of_uid i; events = message.events } in
    let claimed : IsClaimOf message.organiser o.stored room zone claim = record {
      alive = o.holds.alive;
      fixed = o.holds.fixed;
      sent = message.events;
      each = o.holds.each;
      spells = subst (λ (text : List ℕ). SpellsMessage text said) (sym o.holds.object) (subst (SpellsMessage octets) is spells);
      claims = claims;
      are = subst (λ (m : Message). AreClaims room zone m claims) is are;
      among = among;
    } in
    let facts = claim_facts message.organiser o.stored room zone claim claimed in
    record {
      of_store = record {
        host = o.host;
        hosted = o.hosted;
        address = o.address ∙ sym facts.of_organiser;
        stored = o.stored;
        among = o.among;
        of_uid = sym facts.of_uid;
        holds = subst (λ (organiser : List ℕ). IsClaimOf organiser o.stored room zone claim) (sym facts.of_organiser) claimed;
      };
    }

-- ---- of a CANCEL

part_for : (room : List ℕ) (message : Message) (event : EventComponent) → Contains (parts_for room message) event → Contains message.events event × (is_part_for room message.method event ≡ true)
part_for room message event = by (is_addressed room message)
  where
    by : (addressed : Bool) → Contains (cond addressed (filter (is_part_for room message.method) message.events) []) event → Contains message.events event × (is_part_for room message.method event ≡ true)
    by true c = of_filtered (is_part_for room message.method) message.events event c
    by false c = absurd (none_in event c)

cancelled_body : (room : List ℕ) (event : EventComponent) (content : Content) (body : Body) → IsBody room Cancel event content body → body ≡ revisions.Cancelled
cancelled_body room event content (revisions.Set octets) b = absurd (true≢false b.0)
cancelled_body room event content revisions.Absent b = absurd (true≢false b.0)
cancelled_body room event content revisions.Cancelled b = refl

module _ (organiser uid : List ℕ) (revision : Revision) (called_off : Bool) (first : List ℕ) (more : List (List ℕ)) (room : List ℕ) (zone : Option Zone) where
  abbrev event : EventComponent
  event = cancel_event organiser uid revision called_off (first ∷ more)

  -- it names those whom it is for
  cancel_names : names_room room event ≡ true → Contains (first ∷ more) room
  cancel_names names =
      let (attendee, among, same) = any_at (λ (a : Attendee). bytes_eq a.address room) event.attendees names in
      let (address, there, is) = of_mapped attendee_at (first ∷ more) attendee among in
      let equal : address ≡ room = ap (λ (a : Attendee). a.address) is ∙ (bytes_eq-Decides attendee.address room).0 same in
      subst (Contains (first ∷ more)) equal there

  cancel_for : is_part_for room Cancel event ≡ true → Contains (first ∷ more) room
  cancel_for is = elim (or_cases (names_room room event) _ is) [
    | inl names ↦ cancel_names names
    | inr empty ↦ let none = (unsigned_Decides _ 0).0 empty in absurd (omega (arith, none))
  ]

  -- it is for the whole meeting, in whatever room
  cancels_whole : (slot : Slot) → IsSlotIn zone event slot → slot ≡ revisions.Whole
  cancels_whole slot (instant, both, is) = by instant both is
    where
      by : (instant : Option ℤ) → BothOrNeither (IsAt zone) event.written.recurrence instant → slot ≡ slot_named instant → slot ≡ revisions.Whole
      by None both is = is
      by (Some t) both is = absurd both

  cancel_says : (content : Content) (part : Part) → IsPart room zone (cancel_message organiser uid revision called_off (first ∷ more)) event content part
      → part ≡ cancel_part organiser uid revision
  cancel_says content part is =
      let of_organiser = same_Some organiser part.organiser is.organiser in
      let of_revision = is.revision ∙ later_same revision in
      let body = cancelled_body room event content part.body is.body in
      let whole = cancels_whole part.slot is.slot in
      λ i. record { organiser = sym of_organiser i; uid = is.uid i; slot = whole i; revision = of_revision i; body = body i }

  cancel_claim : (claims : List Claim) (claim : Claim) → AreClaims room zone (cancel_message organiser uid revision called_off (first ∷ more)) claims → Contains claims claim
      → (claim.part ≡ cancel_part organiser uid revision) × Contains (first ∷ more) room
  cancel_claim claims claim are among =
      let message = cancel_message organiser uid revision called_off (first ∷ more) in
      let (said, there, is) = zip_from (IsClaim room zone message) (parts_for room message) are.all claim are.each (are.are.among claim among) in
      let (here, is_part) = part_for room message said there in
      let same : said ≡ event = elim (in_cons event [] said here) [ inl same ↦ sym same | inr none ↦ absurd (none_in_nil said none) ] in (
        cancel_says claim.content claim.part (subst (λ (e : EventComponent). IsPart room zone message e claim.content claim.part) same is.part),
        cancel_for (subst (λ (e : EventComponent). is_part_for room Cancel e ≡ true) same is_part),
      )

taken_back : (organisers : List HostedOrganiser) (message : Message) (room : List ℕ) (zone : Option Zone) (claims : List Claim) (claim : Claim)
    → OfStore organisers message.organiser message.uid (IsCancelMessage message) → AreClaims room zone message claims → Contains claims claim → IsTakenBack organisers room claim
taken_back organisers message room zone claims claim o are among =
    let cancel = o.holds in
    let all = subst (λ (m : Message). AreClaims room zone m claims) cancel.is are in
    let (is, named) = cancel_claim message.organiser message.uid o.stored.revision cancel.called_off cancel.first cancel.more room zone claims claim all among in
    let of_organiser = ap (λ (p : Part). p.organiser) is in
    let of_uid = ap (λ (p : Part). p.uid) is in
    record {
      unset = ap is_set is;
      of_store = record {
        host = o.host;
        hosted = o.hosted;
        address = o.address ∙ sym of_organiser;
        stored = o.stored;
        among = o.among;
        of_uid = o.of_uid ∙ sym of_uid;
        holds = record {
          is = is ∙ (λ i. cancel_part (sym of_organiser i) (sym o.of_uid i) o.stored.revision);
          gone = λ alive. cancel.gone alive room named;
        };
      };
    }

-- ---- of what was sent

pub sent_claim : (world : World) (octets : List ℕ) (message : Message) (room : List ℕ) (zone : Option Zone) (claims : List Claim) (claim : Claim) → SaysSent world octets message
    → SpellsMessage octets message → is_to_rooms message.method ≡ true → AreClaims room zone message claims → Contains claims claim → IsSentClaim world.organisers room zone claim
sent_claim world octets message room z claims claim (a_request request o) spells to_rooms are among = inl (request_claim world.organisers octets message room z claims claim request o spells are among)
sent_claim world octets message room z claims claim (a_cancel o) spells to_rooms are among = inr (taken_back world.organisers message room z claims claim o are among)
sent_claim world octets message room z claims claim (a_reply reply heard) spells to_rooms are among = absurd (true≢false (sym to_rooms ∙ ap is_to_rooms reply))
