-- A delivery keeps the invariant of a world: a room takes what an organiser sent, an organiser hears what a room answered.
-- Behind schedules_hold.
use Rattle.std.proofs.Common.{◌≡◌, ◌∙◌, ℕ, ℤ, true, List, [], ◌++◌, map, Option, inl, inr, refl, sym, ap, subst}
use Rattle.std.specs.Prelude.{Contains}
use Rattle.std.proofs.lemmas.Bool.{true≢false}
use Rattle.std.proofs.lemmas.List.Elements.{Contains-append_cases, Contains-append_right}
use Rattle.profile.specs.events.EventComponents.{Method}
use Rattle.profile.specs.events.Messages.{Message, SpellsMessage, is_of_attendee}
use Rattle.profile.specs.organisers.Organisers.{Heard, OrganiserBook, Stored, after_reply, heard_in, last_store}
use Rattle.profile.specs.rooms.Revisions.{Part}
use Rattle.profile.specs.rooms.Rooms.{Claim, Delivery, PartAnswer, answered, asked, is_set, parts_of}
use Rattle.profile.specs.series.RoomZones.{IsRoomZone}
use Rattle.profile.specs.series.Zones.{Zone}
use Rattle.profile.specs.streams.Streams.{Hosted, HostedOrganiser, IsReached, ServesMethod, TakesMessage}
use Rattle.profile.specs.streams.Worlds.{OrganiserSends, OrganiserTakes, RoomSends, RoomTakes, World}
use Rattle.cal_events.proofs.shared_lemmas.InOneOrder.{in_mapped, of_mapped}
use Rattle.itip_order.proofs.Lists.{none_in_nil}
use Rattle.room_books.proofs.laws_lemmas.Runs.{new_answer}
use Rattle.room_books.proofs.room_lemmas.Reaching.{reached_then}
use Rattle.sched_laws.proofs.law_lemmas.Growing.{IsChanged, RoomGrows, WorldGrows, changed, of_store_too, organiser_sends, room_itself, room_sends, room_takes, same_addresses, still_given, still_heard, still_sent, still_taken}
use Rattle.sched_laws.proofs.law_lemmas.Hearing.{IsReplyOf, accepted_by, is_known, is_reply_of, not_ahead}
use Rattle.sched_laws.proofs.law_lemmas.Invariant.{IsAnswerHeard, IsClaimOf, IsGiven, IsHeardBy, IsSound, IsStoreOf, IsTakenPart, OfStore, Rises, SaysSent}
use Rattle.sched_laws.specs.Law.{Laws}
use Rattle.sched_laws.proofs.law_lemmas.RoomReplies.{replies_sent}
use Rattle.sched_laws.proofs.law_lemmas.SentClaims.{IsSentClaim, sent_claim}

-- ---- to a room

part_taken : (organisers : List HostedOrganiser) (room : List ℕ) (zone : Option Zone) (claim : Claim) → IsSentClaim organisers room zone claim
    → IsTakenPart organisers room zone claim.part
part_taken organisers room z claim (inl requested) =
    of_store_too organisers claim.part.organiser claim.part.uid _ _ requested.of_store (λ stored is. inl (claim, refl, is))
part_taken organisers room z claim (inr back) =
    of_store_too organisers claim.part.organiser claim.part.uid _ _ back.of_store (λ stored is. inr is)

-- what is to take place is of a REQUEST
set_requested : (organisers : List HostedOrganiser) (room : List ℕ) (zone : Option Zone) (claim : Claim) → is_set claim.part ≡ true
    → IsSentClaim organisers room zone claim → OfStore organisers claim.part.organiser claim.part.uid (λ stored. IsClaimOf claim.part.organiser stored room zone claim)
set_requested organisers room z claim set (inl requested) = requested.of_store
set_requested organisers room z claim set (inr back) = absurd (true≢false (sym set ∙ back.unset))

module _ (laws : Laws) (rooms organisers : List (List ℕ)) (octets to : List ℕ) (moment : ℤ) (message : Message) (before after : World)
    (sound : IsSound rooms organisers before) (was_sent : Contains before.sent octets) (spells : SpellsMessage octets message) (r : RoomSends to moment message before after) where
  abbrev old : Hosted
  old = r.takes.old

  abbrev new : Hosted
  new = r.takes.new

  grow : WorldGrows before after
  grow = room_sends to moment message before after r

  hosts : IsChanged before.rooms after.rooms old new
  hosts = changed (RoomTakes to moment message r.sent) before.rooms after.rooms r.takes

  grows : RoomGrows old new
  grows = room_takes to moment message r.sent old new r.takes.changes

  takes : TakesMessage new.address new.zone moment message old.book new.book r.sent
  takes =
      let change = r.takes.changes in
      subst (λ (room : Hosted). TakesMessage room.address room.zone moment message old.book new.book r.sent) (sym change.same)
      (subst (λ (room : List ℕ). TakesMessage room old.zone moment message old.book new.book r.sent) (sym change.address) change.takes)

  in_zone : IsRoomZone new.words new.zone
  in_zone = subst (λ (room : Hosted). IsRoomZone room.words room.zone) (sym grows.same) (sound.in_zones old hosts.was)

  says : SaysSent before octets message
  says = sound.sent octets was_sent message spells

  is_sent_claim : (claim : Claim) → Contains takes.claims claim → IsSentClaim after.organisers new.address new.zone claim
  is_sent_claim claim c =
      subst (λ (hosts : List HostedOrganiser). IsSentClaim hosts new.address new.zone claim) (sym r.others)
      (sent_claim before octets message new.address new.zone takes.claims claim says spells r.takes.changes.for_rooms takes.are c)

  taken_now : (part : Part) → Contains new.book.taken part → IsTakenPart after.organisers new.address new.zone part
  taken_now part c =
      elim (Contains-append_cases old.book.taken (parts_of takes.claims) part (subst (λ (parts : List Part). Contains parts part) takes.step.taken c)) [
        | inl was ↦
            let then = sound.taken old hosts.was part was in
            still_taken before after grow new.address new.zone part (subst (λ (room : Hosted). IsTakenPart before.organisers room.address room.zone part) (sym grows.same) then)
        | inr now ↦
            let (claim, among, is) = of_mapped (λ (claim : Claim). claim.part) takes.claims part now in
            subst (IsTakenPart after.organisers new.address new.zone) is (part_taken after.organisers new.address new.zone claim (is_sent_claim claim among))
      ]

  given_now : (answer : PartAnswer) → Contains new.book.answers answer → IsGiven after.organisers new answer
  given_now answer c =
      let asked_now = asked old.book.taken new.book.taken takes.claims in
      elim (Contains-append_cases old.book.answers (answered moment takes.outcome asked_now) answer (subst (λ (answers : List PartAnswer). Contains answers answer) takes.step.answers c)) [
        | inl was ↦ still_given before after grow old new grows answer (sound.given old hosts.was answer was)
        | inr now ↦
            let is = new_answer old.book.taken new.book.taken moment takes.outcome takes.claims answer now in
            let part = in_mapped (λ (claim : Claim). claim.part) takes.claims answer.claim is.among in
            record {
              set = is.set;
              taken = subst (λ (parts : List Part). Contains parts answer.claim.part) (sym takes.step.taken) (Contains-append_right old.book.taken (parts_of takes.claims) answer.claim.part part);
              of_store = set_requested after.organisers new.address new.zone answer.claim is.set (is_sent_claim answer.claim is.among);
            }
      ]

  hosted_before : (host : HostedOrganiser) → Contains after.organisers host → Contains before.organisers host
  hosted_before host c = subst (λ (hosts : List HostedOrganiser). Contains hosts host) r.others c

  stores_now : (host : HostedOrganiser) → Contains after.organisers host → (stored : Stored) → Contains host.book.stores stored → IsStoreOf host.address stored
  stores_now host c = sound.stores host (hosted_before host c)

  reached_now : IsReached new.address new.zone new.book
  reached_now =
      let delivery : Delivery = record { claims = takes.claims; moment = moment } in
      let was = subst (λ (room : Hosted). IsReached room.address room.zone old.book) (sym grows.same) (sound.reached old hosts.was) in
      reached_then new.address new.zone old.book delivery takes.outcome new.book was (record { octets = octets; message = message; spells = spells; are = takes.are }) takes.step

  -- what holds of the room now, and held of each before, holds of each
  each_room : (P : Hosted → Type 0) → P new → ((room : Hosted) → Contains before.rooms room → P room) → (room : Hosted) → Contains after.rooms room → P room
  each_room P here others room c = elim (hosts.from room c) [ inl same ↦ subst P (sym same) here | inr there ↦ others room there ]

  pub room_sound : IsSound rooms organisers after
  room_sound = record {
    rooms_are = same_addresses (λ host. host.address) (RoomTakes to moment message r.sent) before.rooms after.rooms r.takes
        (ap (λ (host : Hosted). host.address) grows.same) ∙ sound.rooms_are;
    in_zones = each_room (λ room. IsRoomZone room.words room.zone) in_zone sound.in_zones;
    organisers_are = ap (map (λ (host : HostedOrganiser). host.address)) r.others ∙ sound.organisers_are;
    stores = stores_now;
    rises = λ host c. sound.rises host (hosted_before host c);
    heard = λ host c heard d. still_heard before after grow host host refl heard refl (sound.heard host (hosted_before host c) heard d);
    taken = each_room (λ room. (part : Part) → Contains room.book.taken part → IsTakenPart after.organisers room.address room.zone part) taken_now
        (λ room c part d. still_taken before after grow room.address room.zone part (sound.taken room c part d));
    given = each_room (λ room. (answer : PartAnswer) → Contains room.book.answers answer → IsGiven after.organisers room answer) given_now
        (λ room c answer d. still_given before after grow room room (room_itself room) answer (sound.given room c answer d));
    reached = each_room (λ room. IsReached room.address room.zone room.book) reached_now sound.reached;
    sent = λ text c. elim (Contains-append_cases before.sent r.sent text (subst (λ (all : List (List ℕ)). Contains all text) r.adds c)) [
      | inl was ↦ still_sent before after grow text (sound.sent text was)
      | inr now ↦ replies_sent laws before after new hosts.is in_zone reached_now octets message spells says moment old.book r.sent takes text now
    ];
  }

-- ---- to an organiser

module _ (laws : Laws) (rooms organisers : List (List ℕ)) (octets to : List ℕ) (moment : ℤ) (message : Message) (before after : World)
    (sound : IsSound rooms organisers before) (was_sent : Contains before.sent octets) (spells : SpellsMessage octets message)
    (attends : is_of_attendee message.method ≡ true) (s : OrganiserSends to moment message before after) where
  abbrev was : HostedOrganiser
  was = s.takes.old

  abbrev now : HostedOrganiser
  now = s.takes.new

  larger : WorldGrows before after
  larger = organiser_sends to moment message before after s

  organisers_changed : IsChanged before.organisers after.organisers was now
  organisers_changed = changed (OrganiserTakes to moment message s.sent) before.organisers after.organisers s.takes

  replied : IsReplyOf before message
  replied = is_reply_of before octets message (sound.sent octets was_sent message spells) attends

  -- it keeps what it heard, and nothing is sent
  served : (now.book ≡ after_reply message was.book) × (s.sent ≡ [])
  served = subst (λ (method : Method). ServesMethod method moment message was.book now.book s.sent) replied.reply s.takes.changes.serves.serves

  hears_now : (heard : Heard) → Contains (heard_in message.events) heard → IsHeardBy before was heard
  hears_now heard c =
      let change = s.takes.changes in
      let allowed = change.serves.allowed in
      let organiser : message.organiser ≡ was.address = change.named ∙ sym change.address in
      let known = is_known message was.book attends allowed in
      let answer = subst (λ (address : List ℕ). IsAnswerHeard before address message.uid heard) organiser (replied.heard heard c) in
      let uid : heard.uid ≡ message.uid = ap (λ (h : Heard). h.uid) answer.is ∙ answer.of_uid in
      record {
        stored = known.0;
        last = ap (λ (u : List ℕ). last_store u was.book) uid ∙ known.1;
        sent = not_ahead message was.book known.0 heard replied.reply allowed known.1 c;
        accepted = accepted_by rooms organisers before sound was organisers_changed.was message.uid known.0 known.1 heard answer;
      }

  heard_now : (heard : Heard) → Contains now.book.replies heard → IsHeardBy after now heard
  heard_now heard c =
      let same = ap (last_store heard.uid) served.0 in
      let there = subst (λ (book : OrganiserBook). Contains book.replies heard) served.0 c in
      still_heard before after larger was now s.takes.changes.same heard same (elim (Contains-append_cases (heard_in message.events) was.book.replies heard there) [
        | inl new_one ↦ hears_now heard new_one
        | inr old_one ↦ sound.heard was organisers_changed.was heard old_one
      ])

  stored_now : (stored : Stored) → Contains now.book.stores stored → IsStoreOf now.address stored
  stored_now stored c =
      subst (λ (address : List ℕ). IsStoreOf address stored) (sym s.takes.changes.same)
      (sound.stores was organisers_changed.was stored (subst (λ (book : OrganiserBook). Contains book.stores stored) served.0 c))

  rises_now : Rises now.book.stores
  rises_now = subst (λ (book : OrganiserBook). Rises book.stores) (sym served.0) (sound.rises was organisers_changed.was)

  each_organiser : (P : HostedOrganiser → Type 0) → P now → ((host : HostedOrganiser) → Contains before.organisers host → P host)
      → (host : HostedOrganiser) → Contains after.organisers host → P host
  each_organiser P here others host c = elim (organisers_changed.from host c) [ inl same ↦ subst P (sym same) here | inr there ↦ others host there ]

  room_before : (room : Hosted) → Contains after.rooms room → Contains before.rooms room
  room_before room c = subst (λ (hosts : List Hosted). Contains hosts room) s.others c

  pub organiser_sound : IsSound rooms organisers after
  organiser_sound = record {
    rooms_are = ap (map (λ (host : Hosted). host.address)) s.others ∙ sound.rooms_are;
    organisers_are = same_addresses (λ host. host.address) (OrganiserTakes to moment message s.sent) before.organisers after.organisers s.takes s.takes.changes.same ∙ sound.organisers_are;
    in_zones = λ room c. sound.in_zones room (room_before room c);
    stores = each_organiser (λ host. (stored : Stored) → Contains host.book.stores stored → IsStoreOf host.address stored) stored_now sound.stores;
    rises = each_organiser (λ host. Rises host.book.stores) rises_now sound.rises;
    heard = each_organiser (λ host. (heard : Heard) → Contains host.book.replies heard → IsHeardBy after host heard) heard_now
        (λ host c heard d. still_heard before after larger host host refl heard refl (sound.heard host c heard d));
    taken = λ room c part d. still_taken before after larger room.address room.zone part (sound.taken room (room_before room c) part d);
    given = λ room c answer d. still_given before after larger room room (room_itself room) answer (sound.given room (room_before room c) answer d);
    reached = λ room c. sound.reached room (room_before room c);
    sent = λ text c.
        let all = subst (λ (more : List (List ℕ)). Contains (before.sent ++ more) text) served.1 (subst (λ (texts : List (List ℕ)). Contains texts text) s.adds c) in
        elim (Contains-append_cases before.sent [] text all) [
          | inl there ↦ still_sent before after larger text (sound.sent text there)
          | inr none ↦ absurd (none_in_nil text none)
        ];
  }
