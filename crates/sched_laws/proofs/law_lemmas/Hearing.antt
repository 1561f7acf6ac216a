-- What an organiser hears in a REPLY that was sent: a hosted room gave the answer, and an answer of the last SEQUENCE is to the last store.
-- Behind schedules_hold.
use Rattle.std.proofs.Common.{◌≡◌, ◌∙◌, ℕ, ◌≤◌, Bool, true, false, List, [], ◌∷◌, Option, Some, None, inl, inr, refl, sym, ap, subst, arith}
use Rattle.std.specs.Prelude.{Contains, nat_lt}
use Rattle.std.specs.List.{list_any}
use Rattle.std.proofs.lemmas.Bool.{false_from_ne_true, ltb-false, true≢false}
use Rattle.profile.specs.events.EventComponents.{Accepted, Attendee, EventComponent, Reply}
use Rattle.profile.specs.events.Messages.{Message, is_of_attendee}
use Rattle.profile.specs.organisers.Organisers.{Heard, OrganiserBook, StateFault, Stored, ahead, heard_in, heard_of, last_store, unknown}
use Rattle.profile.specs.rooms.Messages.{Accept, Busy, Outcome, SeriesLimit, SinglesLimit, own_revision}
use Rattle.profile.specs.rooms.Revisions.{Revision}
use Rattle.profile.specs.rooms.Rooms.{is_accept}
use Rattle.profile.specs.streams.Streams.{Hosted, HostedOrganiser}
use Rattle.profile.specs.streams.Worlds.{World}
use Rattle.itip_messages.specs.Law.{participation_answered}
use Rattle.itip_order.proofs.Lists.{any_from, in_cons, none_in_nil}
use Rattle.room_books.proofs.shared_lemmas.Pairs.{flat_at}
use Rattle.sched_laws.proofs.law_lemmas.ClaimFacts.{claim_facts}
use Rattle.sched_laws.proofs.law_lemmas.Growing.{one_organiser, one_room}
use Rattle.sched_laws.proofs.law_lemmas.Invariant.{HasAccepted, IsAnswerHeard, IsClaimOf, IsSound, SaysSent, a_cancel, a_reply, a_request}
use Rattle.sched_laws.proofs.law_lemmas.Stores.{last_or_less}

-- ---- of what was sent an organiser takes REPLYs

pub record IsReplyOf (world : World) (message : Message) : Type 0 where
  pub reply : message.method ≡ Reply
  pub heard : (heard : Heard) → Contains (heard_in message.events) heard → IsAnswerHeard world message.organiser message.uid heard

pub is_reply_of : (world : World) (octets : List ℕ) (message : Message) → SaysSent world octets message → is_of_attendee message.method ≡ true → IsReplyOf world message
is_reply_of world octets message (a_request request o) attends = absurd (true≢false (sym attends ∙ ap is_of_attendee request))
is_reply_of world octets message (a_cancel o) attends = absurd (true≢false (sym attends ∙ ap (λ (m : Message). is_of_attendee m.method) o.holds.is))
is_reply_of world octets message (a_reply reply heard) attends = record { reply = reply; heard = heard }

-- ---- it is of a meeting that the organiser stored, and of no later SEQUENCE

pub is_known : (message : Message) (book : OrganiserBook) → is_of_attendee message.method ≡ true → ((n : ℕ) → StateFault message book n → ⊥)
    → (stored : Stored) × (last_store message.uid book ≡ Some stored)
is_known message book attends allowed = by (last_store message.uid book) refl
  where
    by : (last : Option Stored) → last_store message.uid book ≡ last → (stored : Stored) × (last_store message.uid book ≡ Some stored)
    by None is = absurd (allowed 71 (unknown attends is))
    by (Some stored) is = (stored, is)

revision_heard : (event : EventComponent) (attendees : List Attendee) (heard : Heard) → Contains (heard_of event attendees) heard → heard.revision ≡ own_revision event
revision_heard event [] heard c = absurd (none_in_nil heard c)
revision_heard event (attendee ∷ others) heard c = elim (in_cons _ [] heard c) [
  | inl same ↦ ap (λ (h : Heard). h.revision) (sym same)
  | inr none ↦ absurd (none_in_nil heard none)
]

none_passes : {X : Type 0} (test : X → Bool) (xs : List X) (x : X) → (list_any test xs ≡ true → ⊥) → Contains xs x → test x ≡ false
none_passes test xs x none c = false_from_ne_true (test x) (λ passes. none (any_from test xs x c passes))

pub not_ahead : (message : Message) (book : OrganiserBook) (stored : Stored) (heard : Heard) → message.method ≡ Reply → ((n : ℕ) → StateFault message book n → ⊥)
    → last_store message.uid book ≡ Some stored → Contains (heard_in message.events) heard → heard.revision.sequence ≤ stored.revision.sequence
not_ahead message book stored heard reply allowed last c =
    let (event, among, here) = flat_at (λ (event : EventComponent). heard_of event event.attendees) message.events heard c in
    let is_ahead = λ (event : EventComponent). nat_lt stored.revision.sequence event.sequence in
    let behind = none_passes is_ahead message.events event (λ passes. allowed 71 (ahead reply stored last passes)) among in
    subst (λ (r : Revision). r.sequence ≤ stored.revision.sequence) (sym (revision_heard event event.attendees heard here)) (ltb-false stored.revision.sequence event.sequence behind)

-- ---- an answer of the last SEQUENCE is to the last store

accept_said : (outcome : Outcome) → participation_answered outcome ≡ Accepted → is_accept outcome ≡ true
accept_said Accept says = refl
accept_said (Busy a b t) says = cc
accept_said SeriesLimit says = cc
accept_said SinglesLimit says = cc

module _ (rooms organisers : List (List ℕ)) (world : World) (sound : IsSound rooms organisers world) (host : HostedOrganiser) (hosted : Contains world.organisers host)
    (uid : List ℕ) (last : Stored) (is_last : last_store uid host.book ≡ Some last) (heard : Heard) (a : IsAnswerHeard world host.address uid heard) where
  -- the store that the answer is to
  claimed_of_last : heard.revision.sequence ≡ last.revision.sequence → IsClaimOf host.address last a.room.address a.room.zone a.answer.claim
  claimed_of_last sequence =
      let part = a.answer.claim.part in
      let given = sound.given a.room a.hosted a.answer a.given in
      let o = given.of_store in
      let facts = claim_facts part.organiser o.stored a.room.address a.room.zone a.answer.claim o.holds in
      let same_host : o.host ≡ host = one_organiser world.organisers organisers o.host host sound.organisers_are o.hosted hosted (o.address ∙ a.of_organiser) in
      let among = subst (λ (h : HostedOrganiser). Contains h.book.stores o.stored) same_host o.among in
      let of_last = subst (λ (organiser : List ℕ). IsClaimOf organiser o.stored a.room.address a.room.zone a.answer.claim) a.of_organiser o.holds in
      elim (last_or_less uid host.book last o.stored (sound.rises host hosted) is_last among (o.of_uid ∙ a.of_uid)) [
        | inl same ↦ subst (λ (stored : Stored). IsClaimOf host.address stored a.room.address a.room.zone a.answer.claim) same of_last
        | inr less ↦
            let equal = ap (λ (r : Revision). r.sequence) (sym facts.of_revision) ∙ sym (ap (λ (h : Heard). h.revision.sequence) a.is) ∙ sequence in
            absurd (omega (arith, less, equal))
      ]

  pub accepted_by : heard.revision.sequence ≡ last.revision.sequence → (room : Hosted) → Contains world.rooms room → room.address ≡ heard.attendee → heard.answer ≡ Accepted
      → HasAccepted host.address last room heard
  accepted_by sequence room c attendee accepted =
      let same : a.room ≡ room = one_room world.rooms rooms a.room room sound.rooms_are a.hosted c (sym (attendee ∙ ap (λ (h : Heard). h.attendee) a.is)) in
      record {
        answer = a.answer;
        given = subst (λ (r : Hosted). Contains r.book.answers a.answer) same a.given;
        of_slot = sym (ap (λ (h : Heard). h.slot) a.is);
        accepted = accept_said a.answer.outcome (sym (ap (λ (h : Heard). h.answer) a.is) ∙ accepted);
        of_store = subst (λ (r : Hosted). IsClaimOf host.address last r.address r.zone a.answer.claim) same (claimed_of_last sequence);
      }
