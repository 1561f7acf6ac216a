-- What holds in a world holds in the first one, and after each step of a schedule. Behind schedules_hold.
use Rattle.std.proofs.Common.{◌≡◌, ◌∙◌, ℕ, ℤ, Bool, true, false, not, cond, List, [], ◌∷◌, map, filter, Some, inl, inr, refl, sym, ap, subst, arith}
use Rattle.std.specs.Prelude.{Contains, slice_get}
use Rattle.std.specs.Str.{bytes_eq}
use Rattle.std.proofs.lemmas.List.Elements.{All-contains}
use Rattle.std.proofs.lemmas.Option.{same_Some, slice_get_within, slice_get-get_or}
use Rattle.profile.specs.events.Messages.{Message, SpellsMessage}
use Rattle.profile.specs.organisers.Organisers.{empty_organiser}
use Rattle.profile.specs.rooms.Kept.{each_once}
use Rattle.profile.specs.series.RoomZones.{IsRoomZone}
use Rattle.profile.specs.streams.Streams.{AreInZones, Hosted, HostedOrganiser, ZonedRoom, addresses, new_room}
use Rattle.profile.specs.streams.Worlds.{World, Step, Storing, Delivering, Delivers, IsWorldStep, Plays, new_world, rooms_once}
use Rattle.cal_events.proofs.shared_lemmas.InOneOrder.{of_filtered, of_mapped}
use Rattle.itip_order.proofs.Lists.{in_cons, in_head, in_tail, none_in_nil}
use Rattle.sched_laws.proofs.law_lemmas.Delivering.{organiser_sound, room_sound}
use Rattle.sched_laws.proofs.law_lemmas.Invariant.{IsSound, Rises}
use Rattle.sched_laws.specs.Law.{Laws}
use Rattle.sched_laws.proofs.law_lemmas.Storing.{store_sound}

-- ---- the first world

abbrev new_organiser : List ℕ → HostedOrganiser
new_organiser organiser = record { address = organiser; book = empty_organiser }

rooms_named : (rooms : List ZonedRoom) → map (λ (host : Hosted). host.address) (map new_room rooms) ≡ addresses rooms
rooms_named [] = refl
rooms_named (room ∷ rooms) = ap (λ (others : List (List ℕ)). room.address ∷ others) (rooms_named rooms)

-- the addresses of those rooms that another address isn't
others_named : (address : List ℕ) (rooms : List ZonedRoom)
    → addresses (filter (λ other. not (bytes_eq address other.address)) rooms) ≡ filter (λ other. not (bytes_eq address other)) (addresses rooms)
others_named address [] = refl
others_named address (room ∷ rooms) = by (not (bytes_eq address room.address)) (others_named address rooms)
  where
    kept : List ZonedRoom
    kept = filter (λ other. not (bytes_eq address other.address)) rooms

    named : List (List ℕ)
    named = filter (λ other. not (bytes_eq address other)) (addresses rooms)

    by : (b : Bool) → addresses kept ≡ named → addresses (cond b (room ∷ kept) kept) ≡ cond b (room.address ∷ named) named
    by true same = ap (λ (others : List (List ℕ)). room.address ∷ others) same
    by false same = same

-- each address once
once_named : (rooms : List ZonedRoom) → addresses (rooms_once rooms) ≡ each_once (addresses rooms)
once_named [] = refl
once_named (room ∷ rooms) =
    ap (λ (others : List (List ℕ)). room.address ∷ others)
    (others_named room.address (rooms_once rooms) ∙ ap (filter (λ other. not (bytes_eq room.address other))) (once_named rooms))

once_from : (rooms : List ZonedRoom) (room : ZonedRoom) → Contains (rooms_once rooms) room → Contains rooms room
once_from [] room c = c
once_from (first ∷ rooms) room c =
    let differs = λ (other : ZonedRoom). not (bytes_eq first.address other.address) in
    elim (in_cons first (filter differs (rooms_once rooms)) room c) [
      | inl here ↦ subst (Contains (first ∷ rooms)) here (in_head first rooms)
      | inr later ↦ in_tail first rooms room (once_from rooms room (of_filtered differs (rooms_once rooms) room later).0)
    ]

organisers_named : (addresses : List (List ℕ))
    → map (λ (host : HostedOrganiser). host.address) (map (λ address. new_organiser address) addresses) ≡ addresses
organisers_named [] = refl
organisers_named (address ∷ addresses) = ap (λ (others : List (List ℕ)). address ∷ others) (organisers_named addresses)

module _ (rooms : List ZonedRoom) (organisers : List (List ℕ)) (zoned : AreInZones rooms) where
  abbrev first : World
  first = new_world rooms organisers

  -- of each room, where it holds of a new one
  each_room : (Holds : Hosted → Type 0) → ((room : ZonedRoom) → IsRoomZone room.words room.zone → Holds (new_room room))
      → (room : Hosted) → Contains first.rooms room → Holds room
  each_room Holds holds room c =
      let (given, among, is) = of_mapped new_room (rooms_once rooms) room c in
      subst Holds is (holds given (All-contains (λ (r : ZonedRoom). IsRoomZone r.words r.zone) rooms given zoned (once_from rooms given among)))

  each_organiser : (Holds : HostedOrganiser → Type 0) → ((address : List ℕ) → Holds (new_organiser address))
      → (host : HostedOrganiser) → Contains first.organisers host → Holds host
  each_organiser Holds holds host c =
      let (address, among, is) = of_mapped (λ (address : List ℕ). new_organiser address) (each_once organisers) host c in
      subst Holds is (holds address)

  pub new_sound : IsSound (addresses rooms) organisers (new_world rooms organisers)
  new_sound = record {
    rooms_are = rooms_named (rooms_once rooms) ∙ once_named rooms;
    in_zones = each_room (λ room. IsRoomZone room.words room.zone) (λ room named. named);
    organisers_are = organisers_named (each_once organisers);
    stores = each_organiser _ (λ address stored c. absurd (none_in_nil stored c));
    rises = each_organiser (λ host. Rises host.book.stores) (λ address i j d l w. absurd (omega (arith, w)));
    heard = each_organiser _ (λ address heard c. absurd (none_in_nil heard c));
    taken = each_room _ (λ room named part c. absurd (none_in_nil part c));
    given = each_room _ (λ room named answer c. absurd (none_in_nil answer c));
    reached = each_room _ (λ room named. record { deliveries = []; delivered = λ delivery c. absurd (none_in_nil delivery c); runs = refl });
    sent = λ octets c. absurd (none_in_nil octets c);
  }

-- ---- each step

sent_at : (sent : List (List ℕ)) (number : ℕ) (octets : List ℕ) → slice_get sent number ≡ Some octets → Contains sent octets
sent_at sent number octets e =
    let within = slice_get_within sent number octets e in
    (number, within, same_Some _ octets (sym (slice_get-get_or sent number octets within) ∙ e))

module _ (laws : Laws) (rooms organisers : List (List ℕ)) where
  delivery_sound : (octets to : List ℕ) (moment : ℤ) (message : Message) (before after : World) → IsSound rooms organisers before
      → Contains before.sent octets → SpellsMessage octets message → Delivers to moment message before after → IsSound rooms organisers after
  delivery_sound octets to moment message before after sound sent spells (inl takes) =
      room_sound laws rooms organisers octets to moment message before after sound sent spells takes
  delivery_sound octets to moment message before after sound sent spells (inr (answers, takes)) =
      organiser_sound laws rooms organisers octets to moment message before after sound sent spells answers takes

  step_sound : (step : Step) (before after : World) → IsSound rooms organisers before → IsWorldStep step before after → IsSound rooms organisers after
  step_sound (Storing organiser object moment) before after sound (inl (message, spells, store, sends)) =
      store_sound laws rooms organisers organiser object moment message before after sound spells store sends
  step_sound (Storing organiser object moment) before after sound (inr (nothing, same)) = subst (IsSound rooms organisers) (sym same) sound
  step_sound (Delivering number to moment) before after sound (inl (octets, is, inl (message, spells, delivers))) =
      delivery_sound octets to moment message before after sound (sent_at before.sent number octets is) spells delivers
  step_sound (Delivering number to moment) before after sound (inl (octets, is, inr (nothing, same))) = subst (IsSound rooms organisers) (sym same) sound
  step_sound (Delivering number to moment) before after sound (inr (none, same)) = subst (IsSound rooms organisers) (sym same) sound

  steps_sound : (steps : List Step) (before after : World) → IsSound rooms organisers before → Plays steps before after → IsSound rooms organisers after
  steps_sound [] before after sound same = subst (IsSound rooms organisers) (sym same) sound
  steps_sound (step ∷ steps) before after sound (mid, is, plays) = steps_sound steps mid after (step_sound step before mid sound is) plays

pub plays_sound : Laws → (rooms : List ZonedRoom) (organisers : List (List ℕ)) (steps : List Step) (after : World) → AreInZones rooms
    → Plays steps (new_world rooms organisers) after → IsSound (addresses rooms) organisers after
plays_sound laws rooms organisers steps after zoned =
    steps_sound laws (addresses rooms) organisers steps (new_world rooms organisers) after (new_sound rooms organisers zoned)
