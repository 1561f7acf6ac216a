-- One step of a world, from what its hosts do; and the steps of a schedule one after another.
-- Behind tell_organiser, store, deliver, effect and take of World, and played of schedules.
use Rattle.std.proofs.Common.{◌≡◌, ◌≢◌, ◌∙◌, ◌⊎◌, inl, inr, ℕ, ◌+◌, ◌<◌, ◌≤◌, ℤ, true, false, List, [], ◌∷◌, ◌++◌, length, map, take, get_or, Some, None, Contains, refl, sym, ap, subst, take_all}
use Rattle.std.specs.Prelude.{slice_get, option_map}
use Rattle.std.specs.List.{list_any}
use Rattle.std.specs.Str.{bytes_eq}
use Rattle.std.proofs.lemmas.List.{append-nil, map-append, take_more}
use Rattle.std.proofs.lemmas.Option.{slice_get-get_or, slice_get-map}
use Rattle.cal_events.specs.Component.{method_said}
use Rattle.ical_values.specs.Octets.{address_octets}
use Rattle.ical_values.specs.declared.address.Address.{Address}
use Rattle.itip_messages.specs.Message.{IsSpelled, RepresentsMessage}
use Rattle.itip_messages.specs.declared.message.Message.{Message}
use Rattle.profile.specs.events.EventComponents.{Method, Store, Request, Add, Cancel, Reply, Refresh}
use Rattle.profile.specs.events.Messages as profile
use Rattle.profile.specs.events.Messages.{is_of_attendee, is_to_rooms}
use Rattle.profile.specs.streams.Streams.{HostFault, Hosted, HostedOrganiser}
use Rattle.profile.specs.streams.Streams as streams
use Rattle.profile.specs.streams.Worlds as worlds
use Rattle.profile.specs.streams.Worlds.{ChangesOne, IsRefusedBy, IsWorldStep, Plays, Storing, Delivering, new_world, other_organiser, in_state, nobody, no_message, no_store, refused_store, no_room, no_organiser, a_store, refused_answer}
use Rattle.organiser_books.specs.Representation.{address_of}
use Rattle.organiser_books.specs.declared.organiser.Organiser.{Organiser}
use Rattle.room_books.specs.declared.room.Room.{Room}
use Rattle.sched_box.specs.Answering.{AreHosted, IsHosted, RoomsSend, octets_each, room_addresses}
use Rattle.sched_box.specs.Organising.{AreKeptBy, IsKeptBy, KeepBooks, OrganisersRefuse, OrganisersTake, organiser_addresses}
use Rattle.sched_box.specs.Schedules.{IsOrganiserOf, IsPlayed, IsRoomOf, IsUnread, IsWorldOf, IsWorldWith, LeadsOn, NobodyTakes, TakesStep, TellsOrganiser, step_said}
use Rattle.sched_box.specs.declared.schedules.Step.{Step}
use Rattle.sched_box.specs.Settings.{zoned_room}
use Rattle.sched_box.specs.declared.schedules.World.{World}
use Rattle.sched_box.specs.declared.settings.ZonedRoom.{ZonedRoom}
use Rattle.cal_events.proofs.shared_lemmas.SeriesLemmas.{zip_with}
use Rattle.sched_box.proofs.HostLemmas.{none_hosted}

-- ---- worlds that send something or nothing

sends_nothing : (world : World) (said : worlds.World) (more : List (List ℕ)) → more ≡ [] → IsWorldOf world said → IsWorldWith world more said
sends_nothing world said more none is = record {
  rooms = is.rooms;
  organisers = is.organisers;
  sent = is.sent ∙ sym (append-nil _) ∙ ap (λ list. octets_each world.sent.items ++ list) (sym none);
}

-- what was to be sent is among the messages
is_sent : (old new : World) (said : worlds.World) (more : List (List ℕ)) → new.rooms ≡ old.rooms → new.organisers ≡ old.organisers
    → octets_each new.sent.items ≡ octets_each old.sent.items ++ more → IsWorldWith old more said → IsWorldOf new said
is_sent old new said more rooms organisers sent is = record {
  rooms = subst (λ r. AreHosted r.rooms.items said.rooms) (sym rooms) is.rooms;
  organisers = subst (λ o. AreKeptBy o.organisers.items said.organisers) (sym organisers) is.organisers;
  sent = is.sent ∙ sym sent;
}

-- ---- an organiser of the address

-- the organiser that the object names is another
pub tells_other : (to : List ℕ) (moment : ℤ) (object : Message) (world : World) (more : List (List ℕ)) → more ≡ [] → address_octets object.organiser ≢ to → TellsOrganiser to moment object world world more
tells_other to moment object world more none differs said represented before is =
    (before, sends_nothing world before more none is, inr (inr (other_organiser (λ same. differs (represented.organiser ∙ same))), refl))

-- it takes the object
pub tells_taken : (to : List ℕ) (moment : ℤ) (object : Message) (old new : World) (more : List (List ℕ)) → address_octets object.organiser ≡ to
    → OrganisersTake moment object old.organisers.organisers.items new.organisers.organisers.items more → new.rooms ≡ old.rooms → new.sent ≡ old.sent → TellsOrganiser to moment object old new more
tells_taken to moment object old new more named takes rooms sent said represented before is =
    let (after, kept, one) = takes said represented before.organisers is.organisers in
    let at : said.organiser ≡ to = sym represented.organiser ∙ named in (
      record { rooms = before.rooms; organisers = after; sent = before.sent ++ more },
      record {
        rooms = subst (λ r. AreHosted r.rooms.items before.rooms) (sym rooms) is.rooms;
        organisers = kept;
        sent = ap (λ list. list ++ more) (is.sent ∙ ap (λ v. octets_each v.items) (sym sent));
      },
      inl (record { sent = more; takes = subst (λ a. ChangesOne (worlds.OrganiserTakes a moment said more) before.organisers after) at one; others = refl; adds = refl }),
    )

-- the hosts' faults are reasons why nothing happens
host_fault : (to : List ℕ) (said : profile.Message) (before : worlds.World) (n : ℕ) → said.organiser ≡ to → HostFault said before.organisers n → NobodyTakes to said before
host_fault to said before n at (streams.not_hosted none) = inl (subst (λ a. list_any (λ host. bytes_eq host.address a) before.organisers ≡ false) at none)
host_fault to said before n at (streams.in_state host among own fault) = inr (in_state host among (own ∙ at) fault)

-- it refuses the object, or isn't hosted
pub tells_refused : (to : List ℕ) (moment : ℤ) (object : Message) (old new : World) (more : List (List ℕ)) (n : ℕ) → more ≡ [] → address_octets object.organiser ≡ to
    → OrganisersRefuse object old.organisers.organisers.items n → KeepBooks old.organisers.organisers.items new.organisers.organisers.items
    → new.rooms ≡ old.rooms → new.sent ≡ old.sent → TellsOrganiser to moment object old new more
tells_refused to moment object old new more n none named refuses keep rooms sent said represented before is =
    let at : said.organiser ≡ to = sym represented.organiser ∙ named in
    let kept : IsWorldOf new before = record {
      rooms = subst (λ r. AreHosted r.rooms.items before.rooms) (sym rooms) is.rooms;
      organisers = keep before.organisers is.organisers;
      sent = is.sent ∙ ap (λ v. octets_each v.items) (sym sent);
    } in
    (before, sends_nothing new before more none kept, inr (host_fault to said before n at (refuses said represented before.organisers is.organisers), refl))

-- ---- a store

pub stores_unread : (organiser object : List ℕ) (moment : ℤ) (world : World) (more : List (List ℕ)) → more ≡ [] → IsUnread object → TakesStep (Storing organiser object moment) world world more
stores_unread organiser object moment world more none (n, fault) before is = (before, sends_nothing world before more none is, inr (no_message fault, refl))

-- what was read of the message says its METHOD
method_is : (message : Message) (said : profile.Message) (method : Method) → RepresentsMessage message said → method_said message.method ≡ method → said.method ≡ method
method_is message said method represented is = sym represented.method ∙ is

pub stores_none : (organiser object : List ℕ) (moment : ℤ) (world : World) (more : List (List ℕ)) (message : Message) → more ≡ [] → IsSpelled object message → method_said message.method ≢ Store
    → TakesStep (Storing organiser object moment) world world more
stores_none organiser object moment world more message none (said, spells, represented) differs before is =
    (before, sends_nothing world before more none is, inr (no_store said spells (λ same. differs (represented.method ∙ same)), refl))

pub stores_told : (organiser object : List ℕ) (moment : ℤ) (old new : World) (more : List (List ℕ)) (message : Message) → IsSpelled object message → method_said message.method ≡ Store
    → TellsOrganiser organiser moment message old new more → TakesStep (Storing organiser object moment) old new more
stores_told organiser object moment old new more message (said, spells, represented) kind tells before is =
    let (after, with', effect) = tells said represented before is in
    (after, with', stored said spells (method_is message said Store represented kind) after effect)
  where
    stored : (said : profile.Message) → profile.SpellsMessage object said → said.method ≡ Store → (after : worlds.World)
        → worlds.OrganiserSends organiser moment said before after ⊎ (NobodyTakes organiser said before × (after ≡ before)) → IsWorldStep (Storing organiser object moment) before after
    stored said spells kind after (inl sends) = inl (said, spells, kind, sends)
    stored said spells kind after (inr (inl none, same)) = inr (nobody none, same)
    stored said spells kind after (inr (inr refused, same)) = inr (refused_store said spells refused, same)

-- ---- a delivery

-- the message of this number
octets_at : (world : World) (said : worlds.World) (number : ℕ) → IsWorldOf world said → slice_get said.sent number ≡ option_map (λ object. object.items) (slice_get world.sent.items number)
octets_at world said number is = ap (λ list. slice_get list number) is.sent ∙ slice_get-map (λ object. object.items) world.sent.items number

pub delivers_unsent : (number : ℕ) (to : List ℕ) (moment : ℤ) (world : World) (more : List (List ℕ)) → more ≡ [] → slice_get world.sent.items number ≡ None
    → TakesStep (Delivering number to moment) world world more
delivers_unsent number to moment world more none absent before is =
    (before, sends_nothing world before more none is, inr (octets_at world before number is ∙ ap (option_map (λ object. object.items)) absent, refl))

-- the octets of this number
abbrev pub IsMessageAt : World → ℕ → List ℕ → Type 0
IsMessageAt world number octets = option_map (λ object. object.items) (slice_get world.sent.items number) ≡ Some octets

pub message_at : (world : World) (number : ℕ) (list : List _) (object : _) (octets : List ℕ) → list ≡ world.sent.items → number < length list → object ≡ get_or list number object → octets ≡ object.items
    → IsMessageAt world number octets
message_at world number list object octets same within got is =
    ap (λ sent. option_map (λ one. one.items) (slice_get sent number)) (sym same)
    ∙ ap (option_map (λ one. one.items)) (slice_get-get_or list number object within ∙ ap Some (sym got))
    ∙ ap Some (sym is)

-- what the octets do is what their delivery does
abbrev Arrives : ℕ → List ℕ → ℤ → worlds.World → worlds.World → List ℕ → Type 0
Arrives number to moment before after octets =
    ((message : profile.Message) × profile.SpellsMessage octets message × worlds.Delivers to moment message before after) ⊎ (worlds.DeliversNothing octets to before × (after ≡ before))

arrives : (number : ℕ) (to octets : List ℕ) (moment : ℤ) (world : World) (before after : worlds.World) → IsMessageAt world number octets → IsWorldOf world before → Arrives number to moment before after octets
    → IsWorldStep (Delivering number to moment) before after
arrives number to octets moment world before after at is what = inl (octets, octets_at world before number is ∙ at, what)

pub delivers_unread : (number : ℕ) (to octets : List ℕ) (moment : ℤ) (world : World) (more : List (List ℕ)) → more ≡ [] → IsMessageAt world number octets → IsUnread octets
    → TakesStep (Delivering number to moment) world world more
delivers_unread number to octets moment world more none at unread before is =
    (before, sends_nothing world before more none is, arrives number to octets moment world before before at is (inr (inl unread, refl)))

-- it is for rooms
pub delivers_to_room : (number : ℕ) (to octets : List ℕ) (moment : ℤ) (old new : World) (more : List (List ℕ)) (message : Message) → IsMessageAt old number octets → IsSpelled octets message
    → is_to_rooms (method_said message.method) ≡ true → RoomsSend to moment message old.rooms.rooms.items new.rooms.rooms.items more → new.organisers ≡ old.organisers → new.sent ≡ old.sent
    → TakesStep (Delivering number to moment) old new more
delivers_to_room number to octets moment old new more message at (said, spells, represented) for_rooms sends organisers sent before is =
    let (rooms, hosted, effect) = sends said represented before.rooms is.rooms in
    let kept : AreKeptBy new.organisers.organisers.items before.organisers = subst (λ o. AreKeptBy o.organisers.items before.organisers) (sym organisers) is.organisers in
    let sent_is : before.sent ≡ octets_each new.sent.items = is.sent ∙ ap (λ v. octets_each v.items) (sym sent) in
    let to_rooms : is_to_rooms said.method ≡ true = sym (ap is_to_rooms represented.method) ∙ for_rooms in
    delivered said spells to_rooms rooms hosted kept sent_is effect
  where
    delivered : (said : profile.Message) → profile.SpellsMessage octets said → is_to_rooms said.method ≡ true → (rooms : List Hosted) → AreHosted new.rooms.rooms.items rooms
        → AreKeptBy new.organisers.organisers.items before.organisers → before.sent ≡ octets_each new.sent.items
        → ChangesOne (worlds.RoomTakes to moment said more) before.rooms rooms ⊎ ((list_any (λ host. bytes_eq host.address to) before.rooms ≡ false) × (rooms ≡ before.rooms) × (more ≡ []))
        → (after : worlds.World) × IsWorldWith new more after × IsWorldStep (Delivering number to moment) before after
    delivered said spells to_rooms rooms hosted kept sent_is (inl one) =
        let after : worlds.World = record { rooms = rooms; organisers = before.organisers; sent = before.sent ++ more } in (
          after,
          record { rooms = hosted; organisers = kept; sent = ap (λ list. list ++ more) sent_is },
          arrives number to octets moment old before after at is (inl (said, spells, inl (record { sent = more; takes = one; others = refl; adds = refl }))),
        )
    delivered said spells to_rooms rooms hosted kept sent_is (inr (none, same, nothing)) = (
      before,
      sends_nothing new before more nothing (record { rooms = subst (AreHosted new.rooms.rooms.items) same hosted; organisers = kept; sent = sent_is }),
      arrives number to octets moment old before before at is (inr (inr (said, spells, no_room to_rooms none), refl)),
    )

-- what an attendee says isn't for rooms
not_to_rooms : (method : Method) → is_of_attendee method ≡ true → is_to_rooms method ≡ false
not_to_rooms Store h = refl
not_to_rooms Reply h = refl
not_to_rooms Refresh h = refl
not_to_rooms Request h = cc
not_to_rooms Add h = cc
not_to_rooms Cancel h = cc

-- it is what an attendee says
pub delivers_told : (number : ℕ) (to octets : List ℕ) (moment : ℤ) (old new : World) (more : List (List ℕ)) (message : Message) → IsMessageAt old number octets → IsSpelled octets message
    → is_of_attendee (method_said message.method) ≡ true → TellsOrganiser to moment message old new more → TakesStep (Delivering number to moment) old new more
delivers_told number to octets moment old new more message at (said, spells, represented) of_attendee tells before is =
    let (after, with', effect) = tells said represented before is in
    let by : is_of_attendee said.method ≡ true = sym (ap is_of_attendee represented.method) ∙ of_attendee in
    (after, with', arrives number to octets moment old before after at is (told said spells by after effect))
  where
    told : (said : profile.Message) → profile.SpellsMessage octets said → is_of_attendee said.method ≡ true → (after : worlds.World)
        → worlds.OrganiserSends to moment said before after ⊎ (NobodyTakes to said before × (after ≡ before)) → Arrives number to moment before after octets
    told said spells by after (inl sends) = inl (said, spells, inr (by, sends))
    told said spells by after (inr (inl none, same)) = inr (inr (said, spells, no_organiser (not_to_rooms said.method by) none), same)
    told said spells by after (inr (inr refused, same)) = inr (inr (said, spells, refused_answer by refused), same)

-- what is neither is a store
is_store : (method : Method) → is_to_rooms method ≡ false → is_of_attendee method ≡ false → method ≡ Store
is_store Store h k = refl
is_store Request h k = cc
is_store Add h k = cc
is_store Cancel h k = cc
is_store Reply h k = cc
is_store Refresh h k = cc

pub delivers_store : (number : ℕ) (to octets : List ℕ) (moment : ℤ) (world : World) (more : List (List ℕ)) (message : Message) → more ≡ [] → IsMessageAt world number octets → IsSpelled octets message
    → is_to_rooms (method_said message.method) ≡ false → is_of_attendee (method_said message.method) ≡ false → TakesStep (Delivering number to moment) world world more
delivers_store number to octets moment world more message none at (said, spells, represented) not_rooms not_organiser before is =
    let kind : said.method ≡ Store = method_is message said Store represented (is_store (method_said message.method) not_rooms not_organiser) in
    (before, sends_nothing world before more none is, arrives number to octets moment world before before at is (inr (inr (said, spells, a_store kind), refl)))

-- ---- one step, and all of them

pub leads_on : (step : worlds.Step) (old mid new : World) (more : List (List ℕ)) → TakesStep step old mid more → new.rooms ≡ mid.rooms → new.organisers ≡ mid.organisers
    → octets_each new.sent.items ≡ octets_each mid.sent.items ++ more → LeadsOn step old new
leads_on step old mid new more takes rooms organisers sent before is =
    let (after, with', steps) = takes before is in
    (after, is_sent mid new after more rooms organisers sent with', steps)

plays_more : (steps : List worlds.Step) (step : worlds.Step) (before mid after : worlds.World) → Plays steps before mid → IsWorldStep step mid after → Plays (steps ++ step ∷ []) before after
plays_more [] step before mid after same one = (after, subst (λ w. IsWorldStep step w after) same one, refl)
plays_more (s ∷ steps) step before mid after (next, first, rest) one = (next, first, plays_more steps step next mid after rest one)

pub played_none : (rooms : List ZonedRoom) (organisers : List Address) (world : World) → IsWorldOf world (new_world (map zoned_room rooms) (map address_octets organisers)) → IsPlayed rooms organisers [] world
played_none rooms organisers world is = record { after = new_world (map zoned_room rooms) (map address_octets organisers); plays = refl; is = is }

pub played_more : (rooms : List ZonedRoom) (organisers : List Address) (steps : List Step) (i : ℕ) (step : Step) (old new : World) → IsPlayed rooms organisers (take i steps) old → i < length steps → step ≡ get_or steps i step
    → LeadsOn (step_said step) old new → IsPlayed rooms organisers (take (i + 1) steps) new
played_more rooms organisers steps i step old new so within is leads =
    let (after, of, one) = leads so.after so.is in
    let before = new_world (map zoned_room rooms) (map address_octets organisers) in
    let all : map step_said (take (i + 1) steps) ≡ map step_said (take i steps) ++ step_said step ∷ [] =
    ap (map step_said) (take_more steps i step within) ∙ map-append step_said (take i steps) (get_or steps i step ∷ []) ∙ ap (λ s. map step_said (take i steps) ++ step_said s ∷ []) (sym is) in
    record { after = after; plays = subst (λ list. Plays list before after) (sym all) (plays_more (map step_said (take i steps)) (step_said step) before so.after after so.plays one); is = of }

pub played_all : (rooms : List ZonedRoom) (organisers : List Address) (steps : List Step) (i : ℕ) (world : World) → IsPlayed rooms organisers (take i steps) world → length steps ≤ i → IsPlayed rooms organisers steps world
played_all rooms organisers steps i world so end = subst (λ list. IsPlayed rooms organisers list world) (take_all i steps end) so

-- ---- what is looked up

pub room_of : (world : World) (to : List ℕ) (room : Room) → Contains world.rooms.rooms.items room → address_octets room.address ≡ to → (said : worlds.World) → IsWorldOf world said → IsRoomOf to room said
room_of world to room among at said is =
    let (hosted, there, has) = zip_with IsHosted world.rooms.rooms.items said.rooms room is.rooms among in
    record { hosted = hosted; among = there; at = has.at ∙ at; is = has }

pub organiser_of : (world : World) (to : List ℕ) (organiser : Organiser) → Contains world.organisers.organisers.items organiser → address_of organiser ≡ to → (said : worlds.World) → IsWorldOf world said
    → IsOrganiserOf to organiser said
organiser_of world to organiser among at said is =
    let (hosted, there, has) = zip_with IsKeptBy world.organisers.organisers.items said.organisers organiser is.organisers among in
    record { hosted = hosted; among = there; at = has.at ∙ at; is = has }

pub no_room_of : (world : World) (to : List ℕ) → list_any (bytes_eq to) (room_addresses world.rooms.rooms.items) ≡ false → (said : worlds.World) → IsWorldOf world said → worlds.has_room to said ≡ false
no_room_of world to none said is = none_hosted (λ room. address_octets room.address) (λ host. host.address) IsHosted (λ room host has. has.at) to world.rooms.rooms.items said.rooms none is.rooms

pub no_organiser_of : (world : World) (to : List ℕ) → list_any (bytes_eq to) (organiser_addresses world.organisers.organisers.items) ≡ false → (said : worlds.World) → IsWorldOf world said → worlds.has_organiser to said ≡ false
no_organiser_of world to none said is = none_hosted address_of (λ host. host.address) IsKeptBy (λ organiser host has. has.at) to world.organisers.organisers.items said.organisers none is.organisers
