-- A world grows: no step takes away a host, what a room took or answered, or what an organiser stored. So what was said of sent messages, of what
-- rooms took and of what organisers heard stays so.
-- Behind schedules_hold.
use Rattle.std.proofs.Common.{◌≡◌, ◌≢◌, ◌∙◌, ℕ, ℤ, not, List, [], ◌∷◌, ◌++◌, map, filter, Option, inl, inr, refl, sym, ap, subst, arith, ◌⊎◌}
use Rattle.std.specs.Prelude.{AllPairs, Contains}
use Rattle.std.specs.Str.{bytes_eq}
use Rattle.std.proofs.lemmas.Bool.{true≢false}
use Rattle.std.proofs.lemmas.List.{map-append}
use Rattle.std.proofs.lemmas.List.Elements.{Contains-append_cases, Contains-append_left, Contains-append_right}
use Rattle.std.proofs.lemmas.List.Kept.{AllPairs-filter}
use Rattle.std.proofs.lemmas.Slice.Eq.{bytes_eq-Decides}
use Rattle.profile.specs.events.EventComponents.{Method, Store, Request, Add, Cancel, Reply, Refresh}
use Rattle.profile.specs.events.Messages.{Message}
use Rattle.profile.specs.organisers.Organisers.{Heard, OrganiserBook, Stored, last_store}
use Rattle.profile.specs.rooms.Kept.{each_once}
use Rattle.profile.specs.rooms.Revisions.{Part}
use Rattle.profile.specs.rooms.Rooms.{PartAnswer, answered, asked, parts_of}
use Rattle.profile.specs.series.Zones.{Zone}
use Rattle.profile.specs.streams.Streams.{Hosted, HostedOrganiser, ServesMethod}
use Rattle.profile.specs.streams.Worlds.{World, ChangesOne, OrganiserSends, OrganiserTakes, RoomSends, RoomTakes}
use Rattle.cal_events.proofs.shared_lemmas.InOneOrder.{cons_pairs, head_pairs, tail_pairs, mapped_pairs, of_filtered}
use Rattle.itip_order.proofs.Lists.{in_cons, in_head, in_tail, none_in_nil}
use Rattle.itip_messages.specs.Law.{answer_heard}
use Rattle.sched_laws.proofs.law_lemmas.Invariant.{OfStore, IsTakenPart, IsGiven, IsClaimOf, IsRequestOf, IsCancelMessage, IsAnswerHeard, SaysSent, a_request, a_cancel, a_reply, IsSentIn, HasAccepted, IsHeardBy}

pub record RoomGrows (old new : Hosted) : Type 0 where
  pub same : new ≡ record old { book = new.book }
  pub taken : (part : Part) → Contains old.book.taken part → Contains new.book.taken part
  pub answers : (answer : PartAnswer) → Contains old.book.answers answer → Contains new.book.answers answer

pub record OrganiserGrows (old new : HostedOrganiser) : Type 0 where
  pub address : new.address ≡ old.address
  pub stores : (stored : Stored) → Contains old.book.stores stored → Contains new.book.stores stored

-- each is there still, and each that is there was there
pub record AllGrow {Host : Type 0} (Grows : Host → Host → Type 0) (before after : List Host) : Type 0 where
  pub to : (old : Host) → Contains before old → (new : Host) × Contains after new × Grows old new
  pub from : (new : Host) → Contains after new → (old : Host) × Contains before old × Grows old new

pub record WorldGrows (before after : World) : Type 0 where
  pub rooms : AllGrow RoomGrows before.rooms after.rooms
  pub organisers : AllGrow OrganiserGrows before.organisers after.organisers

-- ---- one host of an address

once_apart : (addresses : List (List ℕ)) → AllPairs ◌≢◌ (each_once addresses)
once_apart [] = λ i j d l w. absurd (omega (arith, w))
once_apart (address ∷ addresses) =
    let others = each_once addresses in
    let differs = λ (other : List ℕ). not (bytes_eq address other) in
    cons_pairs ◌≢◌ address (filter differs others)
    (λ other c same.
    let passes = (of_filtered differs others other c).1 in
    absurd (true≢false (sym passes ∙ ap not ((bytes_eq-Decides address other).1 same))))
    (AllPairs-filter ◌≢◌ differs others (once_apart addresses))

one_of : {Host : Type 0} (address : Host → List ℕ) (hosts : List Host) (a b : Host) → AllPairs (λ x y. address x ≢ address y) hosts
    → Contains hosts a → Contains hosts b → address a ≡ address b → a ≡ b
one_of address [] a b apart here there same = absurd (none_in_nil a here)
one_of {Host} address (host ∷ hosts) a b apart here there same =
    let Differ : Host → Host → Type 0 = λ x y. address x ≢ address y in
    elim (in_cons host hosts a here) [
      | inl first ↦ elim (in_cons host hosts b there) [
        | inl second ↦ sym first ∙ second
        | inr later ↦ absurd (head_pairs Differ host b hosts apart later (ap address first ∙ same))
      ]
      | inr later ↦ elim (in_cons host hosts b there) [
        | inl second ↦ absurd (head_pairs Differ host a hosts apart later (ap address second ∙ sym same))
        | inr too ↦ one_of address hosts a b (tail_pairs Differ host hosts apart) later too same
      ]
    ]

-- hosts whose addresses are given once each: two of one address are one
pub one_host : {Host : Type 0} (address : Host → List ℕ) (hosts : List Host) (addresses : List (List ℕ)) (a b : Host)
    → map address hosts ≡ each_once addresses → Contains hosts a → Contains hosts b → address a ≡ address b → a ≡ b
one_host address hosts addresses a b are =
    one_of address hosts a b (mapped_pairs ◌≢◌ address hosts (subst (AllPairs ◌≢◌) (sym are) (once_apart addresses)))

pub one_room : (rooms : List Hosted) (addresses : List (List ℕ)) (a b : Hosted)
    → map (λ host. host.address) rooms ≡ each_once addresses → Contains rooms a → Contains rooms b → a.address ≡ b.address → a ≡ b
one_room = one_host (λ host. host.address)

pub one_organiser : (organisers : List HostedOrganiser) (addresses : List (List ℕ)) (a b : HostedOrganiser)
    → map (λ host. host.address) organisers ≡ each_once addresses → Contains organisers a → Contains organisers b → a.address ≡ b.address → a ≡ b
one_organiser = one_host (λ host. host.address)

-- ---- one host changes

-- the changed host was there, and is there now; each other that is there was there
pub record IsChanged {Host : Type 0} (before after : List Host) (old new : Host) : Type 0 where
  pub was : Contains before old
  pub is : Contains after new
  pub from : (host : Host) → Contains after host → (host ≡ new) ⊎ Contains before host
  pub to : (host : Host) → Contains before host → (host ≡ old) ⊎ Contains after host

module _ {Host : Type 0} where
  in_middle : (ahead behind : List Host) (one host : Host) → Contains (ahead ++ one ∷ behind) host → (host ≡ one) ⊎ (Contains ahead host ⊎ Contains behind host)
  in_middle ahead behind one host c = elim (Contains-append_cases ahead (one ∷ behind) host c) [
    | inl first ↦ inr (inl first)
    | inr rest ↦ elim (in_cons one behind host rest) [ inl same ↦ inl (sym same) | inr later ↦ inr (inr later) ]
  ]

  is_in_middle : (ahead behind : List Host) (one : Host) → Contains (ahead ++ one ∷ behind) one
  is_in_middle ahead behind one = Contains-append_right ahead (one ∷ behind) one (in_head one behind)

  beside : (ahead behind : List Host) (one host : Host) → Contains ahead host ⊎ Contains behind host → Contains (ahead ++ one ∷ behind) host
  beside ahead behind one host (inl first) = Contains-append_left ahead (one ∷ behind) host first
  beside ahead behind one host (inr later) = Contains-append_right ahead (one ∷ behind) host (in_tail one behind host later)

  around : (ahead behind : List Host) (one other host : Host) → Contains (ahead ++ one ∷ behind) host → (host ≡ one) ⊎ Contains (ahead ++ other ∷ behind) host
  around ahead behind one other host c = elim (in_middle ahead behind one host c) [
    | inl same ↦ inl same
    | inr rest ↦ inr (beside ahead behind other host rest)
  ]

  middle_changed : (ahead behind : List Host) (old new : Host) → IsChanged (ahead ++ old ∷ behind) (ahead ++ new ∷ behind) old new
  middle_changed ahead behind old new = record {
    was = is_in_middle ahead behind old;
    is = is_in_middle ahead behind new;
    from = around ahead behind new old;
    to = around ahead behind old new;
  }

  pub changed : (Changes : Host → Host → Type 0) (before after : List Host) (c : ChangesOne Changes before after) → IsChanged before after c.old c.new
  changed Changes before after c =
      subst (λ (list : List Host). IsChanged list after c.old c.new) (sym c.of_these)
      (subst (λ (list : List Host). IsChanged (c.ahead ++ c.old ∷ c.behind) list c.old c.new) (sym c.to_these)
      (middle_changed c.ahead c.behind c.old c.new))

  -- where the changed host grows and each other may stay, all grow
  pub changes_one : (Changes Grows : Host → Host → Type 0) (before after : List Host) → ChangesOne Changes before after
      → ((old new : Host) → Changes old new → Grows old new) → ((host : Host) → Grows host host) → AllGrow Grows before after
  changes_one Changes Grows before after c grows itself =
      let hosts = changed Changes before after c in
      record {
        to = λ old was. elim (hosts.to old was) [
          | inl same ↦ (c.new, hosts.is, subst (λ (host : Host). Grows host c.new) (sym same) (grows c.old c.new c.changes))
          | inr stays ↦ (old, stays, itself old)
        ];
        from = λ new is. elim (hosts.from new is) [
          | inl same ↦ (c.old, hosts.was, subst (Grows c.old) (sym same) (grows c.old c.new c.changes))
          | inr stays ↦ (new, stays, itself new)
        ];
      }

  pub all_same : (Grows : Host → Host → Type 0) (before after : List Host) → after ≡ before → ((host : Host) → Grows host host) → AllGrow Grows before after
  all_same Grows before after same itself = record {
    to = λ old was. (old, subst (λ (list : List Host). Contains list old) (sym same) was, itself old);
    from = λ new is. (new, subst (λ (list : List Host). Contains list new) same is, itself new);
  }

  -- its address stays, so all stay
  pub same_addresses : (address : Host → List ℕ) (Changes : Host → Host → Type 0) (before after : List Host) (c : ChangesOne Changes before after)
      → address c.new ≡ address c.old → map address after ≡ map address before
  same_addresses address Changes before after c same =
      ap (map address) c.to_these
      ∙ map-append address c.ahead (c.new ∷ c.behind)
      ∙ ap (λ (one : List ℕ). map address c.ahead ++ one ∷ map address c.behind) same
      ∙ sym (ap (map address) c.of_these ∙ map-append address c.ahead (c.old ∷ c.behind))

-- ---- each step grows a world

pub room_itself : (host : Hosted) → RoomGrows host host
room_itself host = record { same = refl; taken = λ part c. c; answers = λ answer c. c }

pub organiser_itself : (host : HostedOrganiser) → OrganiserGrows host host
organiser_itself host = record { address = refl; stores = λ stored c. c }

pub room_takes : (to : List ℕ) (moment : ℤ) (message : Message) (sent : List (List ℕ)) (old new : Hosted)
    → RoomTakes to moment message sent old new → RoomGrows old new
room_takes to moment message sent old new t =
    let step = t.takes.step in
    record {
      same = t.same;
      taken = λ part c.
          subst (λ (parts : List Part). Contains parts part) (sym step.taken)
          (Contains-append_left old.book.taken (parts_of t.takes.claims) part c);
      answers = λ answer c.
          subst (λ (answers : List PartAnswer). Contains answers answer) (sym step.answers)
          (Contains-append_left old.book.answers (answered moment t.takes.outcome (asked old.book.taken new.book.taken t.takes.claims)) answer c);
    }

stores_stay : (method : Method) (moment : ℤ) (said : Message) (before after : OrganiserBook) (objects : List (List ℕ))
    → ServesMethod method moment said before after objects → (stored : Stored) → Contains before.stores stored → Contains after.stores stored
stores_stay Store moment said before after objects (sent, s, are) stored c =
    subst (λ (book : OrganiserBook). Contains book.stores stored) (sym s.kept) (in_tail s.stored before.stores stored c)
stores_stay Reply moment said before after objects (same, are) stored c = subst (λ (book : OrganiserBook). Contains book.stores stored) (sym same) c
stores_stay Refresh moment said before after objects (last, is, same, are) stored c = subst (λ (book : OrganiserBook). Contains book.stores stored) (sym same) c
stores_stay Request moment said before after objects none stored c = absurd none
stores_stay Add moment said before after objects none stored c = absurd none
stores_stay Cancel moment said before after objects none stored c = absurd none

pub organiser_takes : (to : List ℕ) (moment : ℤ) (message : Message) (sent : List (List ℕ)) (old new : HostedOrganiser)
    → OrganiserTakes to moment message sent old new → OrganiserGrows old new
organiser_takes to moment message sent old new t =
    record { address = t.same; stores = stores_stay message.method moment message old.book new.book sent t.serves.serves }

pub room_sends : (to : List ℕ) (moment : ℤ) (message : Message) (before after : World) → RoomSends to moment message before after → WorldGrows before after
room_sends to moment message before after s = record {
  rooms = changes_one (RoomTakes to moment message s.sent) RoomGrows before.rooms after.rooms s.takes (room_takes to moment message s.sent) room_itself;
  organisers = all_same OrganiserGrows before.organisers after.organisers s.others organiser_itself;
}

pub organiser_sends : (to : List ℕ) (moment : ℤ) (message : Message) (before after : World)
    → OrganiserSends to moment message before after → WorldGrows before after
organiser_sends to moment message before after s = record {
  rooms = all_same RoomGrows before.rooms after.rooms s.others room_itself;
  organisers = changes_one (OrganiserTakes to moment message s.sent) OrganiserGrows before.organisers after.organisers s.takes
      (organiser_takes to moment message s.sent) organiser_itself;
}

-- ---- what was said stays so

-- what holds of a store holds in another way
pub of_store_too : (organisers : List HostedOrganiser) (organiser uid : List ℕ) (Holds Too : Stored → Type 0)
    → OfStore organisers organiser uid Holds → ((stored : Stored) → Holds stored → Too stored) → OfStore organisers organiser uid Too
of_store_too organisers organiser uid Holds Too o too = record {
  host = o.host;
  hosted = o.hosted;
  address = o.address;
  stored = o.stored;
  among = o.among;
  of_uid = o.of_uid;
  holds = too o.stored o.holds;
}

pub still_of_store : (before after : List HostedOrganiser) → AllGrow OrganiserGrows before after
    → (organiser uid : List ℕ) (Holds : Stored → Type 0) → OfStore before organiser uid Holds → OfStore after organiser uid Holds
still_of_store before after grow organiser uid Holds o =
    let (host, hosted, grows) = grow.to o.host o.hosted in
    record {
      host = host;
      hosted = hosted;
      address = grows.address ∙ o.address;
      stored = o.stored;
      among = grows.stores o.stored o.among;
      of_uid = o.of_uid;
      holds = o.holds;
    }

module _ (before after : World) (grow : WorldGrows before after) where
  pub still_taken : (room : List ℕ) (zone : Option Zone) (part : Part) → IsTakenPart before.organisers room zone part → IsTakenPart after.organisers room zone part
  still_taken room z part t = still_of_store before.organisers after.organisers grow.organisers part.organiser part.uid _ t

  pub still_given : (old new : Hosted) → RoomGrows old new → (answer : PartAnswer) → IsGiven before.organisers old answer → IsGiven after.organisers new answer
  still_given old new grows answer g =
      let Claimed : Hosted → Stored → Type 0 = λ room stored. IsClaimOf answer.claim.part.organiser stored room.address room.zone answer.claim in
      record {
        set = g.set;
        taken = grows.taken answer.claim.part g.taken;
        of_store = still_of_store before.organisers after.organisers grow.organisers answer.claim.part.organiser answer.claim.part.uid (Claimed new)
            (subst (λ (room : Hosted). OfStore before.organisers answer.claim.part.organiser answer.claim.part.uid (Claimed room)) (sym grows.same) g.of_store);
      }

  -- ---- sent messages

  still_answered : (organiser uid : List ℕ) (heard : Heard) → IsAnswerHeard before organiser uid heard → IsAnswerHeard after organiser uid heard
  still_answered organiser uid heard a =
      let (room, hosted, grows) = grow.rooms.to a.room a.hosted in
      record {
        room = room;
        hosted = hosted;
        answer = a.answer;
        given = grows.answers a.answer a.given;
        of_organiser = a.of_organiser;
        of_uid = a.of_uid;
        is = a.is ∙ ap (λ (host : Hosted). answer_heard host.address a.answer.claim.part a.answer.moment a.answer.outcome) (sym grows.same);
      }

  pub still_says : (octets : List ℕ) (message : Message) → SaysSent before octets message → SaysSent after octets message
  still_says octets message (a_request request o) =
      a_request request (still_of_store before.organisers after.organisers grow.organisers message.organiser message.uid (IsRequestOf octets message) o)
  still_says octets message (a_cancel o) =
      a_cancel (still_of_store before.organisers after.organisers grow.organisers message.organiser message.uid (IsCancelMessage message) o)
  still_says octets message (a_reply reply heard) =
      a_reply reply (λ one c. still_answered message.organiser message.uid one (heard one c))

  pub still_sent : (octets : List ℕ) → IsSentIn before octets → IsSentIn after octets
  still_sent octets s message spells = still_says octets message (s message spells)

  -- ---- what organisers heard

  still_accepted : (organiser : List ℕ) (stored : Stored) (heard : Heard) (old new : Hosted) → RoomGrows old new
      → HasAccepted organiser stored old heard → HasAccepted organiser stored new heard
  still_accepted organiser stored heard old new grows a = record {
    answer = a.answer;
    given = grows.answers a.answer a.given;
    of_slot = a.of_slot;
    accepted = a.accepted;
    of_store = subst (λ (room : Hosted). IsClaimOf organiser stored room.address room.zone a.answer.claim) (sym grows.same) a.of_store;
  }

  -- by an organiser of that address, where the last store of that meeting is as before
  pub still_heard : (old new : HostedOrganiser) → new.address ≡ old.address → (heard : Heard)
      → last_store heard.uid new.book ≡ last_store heard.uid old.book → IsHeardBy before old heard → IsHeardBy after new heard
  still_heard old new address heard same h = record {
    stored = h.stored;
    last = same ∙ h.last;
    sent = h.sent;
    accepted = λ sequence room hosted attendee answer.
        let (was, there, grows) = grow.rooms.from room hosted in
        let accepted = h.accepted sequence was there (sym (ap (λ (host : Hosted). host.address) grows.same) ∙ attendee) answer in
        subst (λ (organiser : List ℕ). HasAccepted organiser h.stored room heard) (sym address)
        (still_accepted old.address h.stored heard was room grows accepted);
  }
