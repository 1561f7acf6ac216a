-- Over a stream: each room's book is one that octets asked for, step by step.
-- Cited by served_texts_pass.
use Rattle.std.proofs.Common.{◌+◌, ℕ, ℤ, Bool, true, false, map, List, [], ◌∷◌, inl, inr, sym, subst}
use Rattle.std.specs.List.{AllByRecursion, Contains}
use Rattle.std.proofs.lemmas.List.Elements.{recursion_from_All}
use Rattle.profile.specs.events.Messages.{Message, SpellsMessage, is_to_rooms}
use Rattle.profile.specs.streams.Streams.{AreInZones, Box, Hosted, Config, StepsFor, Takes, AllTake, Answers, AllAnswers, ZonedRoom, new_box, new_room}
use Rattle.profile.specs.series.RoomZones.{IsRoomZone}
use Rattle.itip_order.proofs.Lists.{in_cons, none_in_nil}
use Rattle.room_books.proofs.laws_lemmas.KeptRuns.{KeepsAll, keeps_none, keeps_step, all_asked}

-- a room whose words mean its zone keeps what it was asked for
pub record Keeps (room : Hosted) : Type 0 where
  pub named : IsRoomZone room.words room.zone
  pub keeps : KeepsAll room.address room.zone room.book

-- what holds of each room that a box hosts
AllKeep : List Hosted → Type 0
AllKeep [] = Unit {0}
AllKeep (room ∷ rooms) = Keeps room × AllKeep rooms

take_keeps : (moment : ℤ) (message : Message) (object octets : List ℕ) (before after : Hosted) → SpellsMessage object message → Takes moment message before after octets → Keeps before → Keeps after
take_keeps moment message object octets before after s t k =
    subst Keeps (sym t.same) (record {
      named = k.named;
      keeps = keeps_step before.address before.zone before.book t.takes.claims moment t.takes.outcome after.book (all_asked before.address before.zone object message s t.takes.claims t.takes.are) t.takes.step k.keeps;
    })

all_take_keep : (moment : ℤ) (message : Message) (object octets : List ℕ) (befores afters : List Hosted) → SpellsMessage object message → AllTake moment message befores afters octets → AllKeep befores → AllKeep afters
unfolding AllKeep
all_take_keep moment message object octets [] [] s t k = tt
all_take_keep moment message object octets [] (after ∷ afters) s t k = absurd t
all_take_keep moment message object octets (before ∷ befores) [] s t k = absurd t
all_take_keep moment message object octets (before ∷ befores) (after ∷ afters) s t k =
    (take_keeps moment message object t.0 before after s t.3 k.0, all_take_keep moment message object t.1 befores afters s t.4 k.1)

step_keeps : (to_rooms : Bool) (moment : ℤ) (message : Message) (object octets : List ℕ) (before after : Box) → SpellsMessage object message → StepsFor to_rooms moment message before after octets → AllKeep before.rooms → AllKeep after.rooms
step_keeps true moment message object octets before after s t k = all_take_keep moment message object octets before.rooms after.rooms s t.0 k
step_keeps false moment message object octets before after s t k = subst AllKeep (sym t.1) k

answers_keep : (moment : ℤ) (n : ℕ) (object octets : List ℕ) (before after : Box) (refused : ℕ) → Answers moment n object before after octets refused → AllKeep before.rooms → AllKeep after.rooms
answers_keep moment n object octets before after refused a k =
    elim a [
      | inl taken ↦ step_keeps (is_to_rooms taken.0.method) moment taken.0 object octets before after taken.1 taken.2 k
      | inr fault ↦ subst (λ (box : Box). AllKeep box.rooms) (sym fault.2) k
    ]

all_answers_keep : (moment : ℤ) (n : ℕ) (objects : List (List ℕ)) (before after : Box) (octets : List ℕ) (refused : ℕ) → AllAnswers moment n objects before after octets refused → AllKeep before.rooms → AllKeep after.rooms
all_answers_keep moment n [] before after octets refused a k = subst (λ (box : Box). AllKeep box.rooms) (sym a.0) k
all_answers_keep moment n (object ∷ objects) before after octets refused a k =
    all_answers_keep moment (n + 1) objects a.0 after a.2 a.4 a.8 (answers_keep moment n object a.1 before a.0 a.3 a.7 k)

none_keep : (rooms : List ZonedRoom) → AllByRecursion (λ room. IsRoomZone room.words room.zone) rooms → AllKeep (map new_room rooms)
unfolding AllKeep
none_keep [] named = tt
none_keep (room ∷ rooms) named = (record { named = named.0; keeps = keeps_none room.address room.zone }, none_keep rooms named.1)

room_keeps : (rooms : List Hosted) (room : Hosted) → Contains rooms room → AllKeep rooms → Keeps room
unfolding AllKeep
room_keeps [] room c k = absurd (none_in_nil room c)
room_keeps (first ∷ rooms) room c k =
    elim (in_cons first rooms room c) [
      | inl here ↦ subst Keeps here k.0
      | inr there ↦ room_keeps rooms room there k.1
    ]

-- each room's book after the objects of a stream
pub served_keeps : (moment : ℤ) (hosts : Config) (n : ℕ) (objects : List (List ℕ)) (after : Box) (octets : List ℕ) (refused : ℕ) → AreInZones hosts.rooms → AllAnswers moment n objects (new_box hosts) after octets refused
    → (room : Hosted) → Contains after.rooms room → Keeps room
served_keeps moment hosts n objects after octets refused named a room c =
    room_keeps after.rooms room c
    (all_answers_keep moment n objects (new_box hosts) after octets refused a (none_keep hosts.rooms (recursion_from_All (λ room. IsRoomZone room.words room.zone) hosts.rooms named)))
