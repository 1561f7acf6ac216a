-- What a claim of a store is: that of one of its events, as it was sent. Behind schedules_hold.
use Rattle.std.proofs.Common.{◌≡◌, ◌∙◌, ℕ, pos, Bool, true, false, cond, List, [], ◌∷◌, Option, Some, None, refl, sym, ap, arith}
use Rattle.std.specs.Prelude.{Contains, filter, unwrap_or}
use Rattle.std.specs.List.{find}
use Rattle.std.proofs.lemmas.Option.{same_Some}
use Rattle.profile.specs.events.EventComponents.{EventComponent}
use Rattle.profile.specs.events.Events.{is_master}
use Rattle.profile.specs.events.Messages.{Message}
use Rattle.profile.specs.organisers.Organisers.{Stored}
use Rattle.profile.specs.rooms.Messages.{is_addressed, is_part_for, later_of, own_revision, parts_for, revision_beside, slot_named, slot_of}
use Rattle.profile.specs.rooms.Revisions.{Revision}
use Rattle.profile.specs.rooms.Rooms.{Claim}
use Rattle.profile.specs.series.Zones.{Zone}
use Rattle.profile.specs.streams.Streams.{IsClaim}
use Rattle.cal_events.proofs.shared_lemmas.InOneOrder.{later, none_in, of_filtered}
use Rattle.cal_events.proofs.shared_lemmas.SeriesLemmas.{zip_back}
use Rattle.itip_messages.proofs.sent_law_lemmas.CancelReads.{later_same}
use Rattle.itip_messages.specs.SentLaw.{HasNoAnswer, IsSentAs, request_of}
use Rattle.sched_laws.proofs.law_lemmas.Invariant.{IsClaimOf, IsNamedFixed}
use Rattle.sched_laws.proofs.law_lemmas.StoredSlots.{again_fixed, slot_there}

pub record ClaimFacts (organiser : List ℕ) (stored : Stored) (room : List ℕ) (zone : Option Zone) (claim : Claim) (sent : List EventComponent) : Type 0 where
  pub event : EventComponent
  pub among : Contains stored.events event
  pub said : EventComponent
  pub said_among : Contains sent said
  pub said_fixed : IsNamedFixed said
  pub again : IsSentAs stored.revision event said
  pub is : IsClaim room zone (request_of organiser stored.uid sent) said claim
  pub of_organiser : claim.part.organiser ≡ organiser
  pub of_uid : claim.part.uid ≡ stored.uid
  pub of_slot : claim.part.slot ≡ slot_of event
  pub of_revision : claim.part.revision ≡ stored.revision

-- ---- what was found

pub found_among : {X : Type 0} (test : X → Bool) (xs : List X) (x : X) → find test xs ≡ Some x → Contains xs x × (test x ≡ true)
found_among test [] x e = cc
found_among {X} test (y ∷ ys) x e = go (test y) refl e (λ f. found_among test ys x f)
  where
    go : (b : Bool) → test y ≡ b → cond b (Some y) (find test ys) ≡ Some x → (find test ys ≡ Some x → Contains ys x × (test x ≡ true)) → Contains (y ∷ ys) x × (test x ≡ true)
    go true t f rest = let same : y ≡ x = same_Some y x f in ((0, omega arith, same), ap test (sym same) ∙ t)
    go false t f rest = let r = rest f in (later y x ys r.0, r.1)

-- ---- one revision

-- where all events are of one revision, the part of each is of it
one_revision : (events : List EventComponent) (event : EventComponent) (revision : Revision) → ((other : EventComponent) → Contains events other → own_revision other ≡ revision)
    → Contains events event → revision_beside (find is_master events) event ≡ revision
one_revision events event revision all c = by (find is_master events) refl
  where
    by : (whole : Option EventComponent) → find is_master events ≡ whole → revision_beside whole event ≡ revision
    by None e = all event c
    by (Some whole) e =
        let first = all whole (found_among is_master events whole e).0 in
        let own = all event c in
        (λ i. later_of (own i) (first i)) ∙ later_same revision

-- ---- the facts

-- what is a part is one of the events
part_among : (room : List ℕ) (message : Message) (event : EventComponent) → Contains (parts_for room message) event → Contains message.events event
part_among room message event = by (is_addressed room message)
  where
    by : (b : Bool) → Contains (cond b (filter (is_part_for room message.method) message.events) []) event → Contains message.events event
    by true c = (of_filtered (is_part_for room message.method) message.events event c).0
    by false c = absurd (none_in event c)

sent_revision : (revision : Revision) (event said : EventComponent) → IsSentAs revision event said → own_revision said ≡ revision
sent_revision revision event said s = λ i. record { sequence = s.sequence i; stamp = unwrap_or (s.stamp i) (pos 0) }

pub claim_facts : (organiser : List ℕ) (stored : Stored) (room : List ℕ) (zone : Option Zone) (claim : Claim) (c : IsClaimOf organiser stored room zone claim)
    → ClaimFacts organiser stored room zone claim c.sent
claim_facts organiser stored room zone claim c =
    let message : Message = request_of organiser stored.uid c.sent in
    let back = zip_back (IsClaim room zone message) (parts_for room message) c.are.all claim c.are.each (c.are.are.among claim c.among) in
    let said_among = part_among room message back.0 back.1 in
    let from = zip_back (IsSentAs stored.revision) stored.events c.sent back.0 c.each said_among in
    let fixed = again_fixed HasNoAnswer stored.revision from.0 back.0 from.2 (c.fixed from.0 from.1) in
    let meeting = c.spells.says.are.of_it back.0 said_among in
    let revised = λ (other : EventComponent) (d : Contains c.sent other). let f = zip_back (IsSentAs stored.revision) stored.events c.sent other c.each d in sent_revision stored.revision f.0 other f.2 in
    record {
      event = from.0;
      among = from.1;
      said = back.0;
      said_among = said_among;
      said_fixed = fixed;
      again = from.2;
      is = back.2;
      of_organiser = sym (ap (λ o. unwrap_or o []) back.2.part.organiser) ∙ ap (λ m. m.0) meeting;
      of_uid = back.2.part.uid ∙ ap (λ m. m.1) meeting;
      of_slot = slot_there zone back.0 claim.part.slot fixed back.2.part.slot ∙ ap slot_named from.2.recurrence;
      of_revision = back.2.part.revision ∙ one_revision c.sent back.0 stored.revision revised said_among;
    }
