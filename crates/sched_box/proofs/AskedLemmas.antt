-- The rooms that a message isn't for: they are those whose flags stay off, and take nothing.
use Rattle.std.proofs.Common.{◌≡◌, ◌≢◌, inl, inr, ℕ, zero, suc, ◌+◌, ◌<◌, ℤ, Bool, true, false, not, ◌&&◌, ◌||◌, cond, List, [], ◌∷◌, ◌++◌, length, take, get_or, set, replicate, filter, map, Option, Some, None, IfSome, IfNone, is_some, refl, sym, ap, subst, ◌∙◌, arith, AllPairs, Result, Ok, Err, OnErr, IfOk, true≢false}
use Rattle.std.specs.List.{AllZip, list_any, position}
use Rattle.std.specs.Str.{bytes_eq}
use Rattle.std.proofs.Math.Bool.{and-false}
use Rattle.std.proofs.lemmas.Bool.{cases_lt, or_parts, false≢true}
use Rattle.std.proofs.lemmas.List.{append-nil, get_or-map, get_or-set_other, get_or-set_same, length-map, map-append, take_more}
use Rattle.std.proofs.lemmas.List.Folds.{list_any_at, list_any_more}
use Rattle.std.proofs.lemmas.List.Quantifiers.{all_pairs_push, position-Some}
use Rattle.std.proofs.lemmas.Slice.Eq.{bytes_eq-Decides}
use Rattle.ical_values.specs.declared.address.Address.{Address}
use Rattle.ical_values.specs.Octets.{address_octets}
use Rattle.cal_events.specs.declared.component.Attendee.{Attendee}
use Rattle.cal_events.specs.Component.{attendee_of, method_said}
use Rattle.itip_messages.specs.Message.{is_component_for, component_names, cancels_for_all}
use Rattle.itip_messages.specs.declared.message.Message.{Message}
use Rattle.itip_messages.specs.declared.message_component.MessageComponent.{MessageComponent}
use Rattle.itip_messages.specs.Zones.{with_zone, with_zones}
use Rattle.itip_messages.proofs.shared_lemmas.MessageLemmas.{addressed}
use Rattle.itip_messages.proofs.shared_lemmas.ZonesOnce.{with_more, zones_once}
use Rattle.profile.specs.events.Messages.{is_to_rooms}
use Rattle.profile.specs.rooms.Kept.{each_once}
use Rattle.profile.specs.events.EventComponents.{EventComponent}
use Rattle.profile.specs.events.Messages.{Message as Said}
use Rattle.profile.specs.rooms.Messages.{Accept, is_addressed, is_part_for}
use Rattle.profile.specs.rooms.Rooms.{IsStep, NotAddressed}
use Rattle.profile.specs.series.Zones.{Zone}
use Rattle.profile.specs.streams.Streams.{AreClaims, IsClaim}
use Rattle.room_books.specs.declared.room.Room.{Room}
use Rattle.sched_box.specs.Journal.{InRoom}
use Rattle.sched_box.specs.Answering.{RoomTakes}
use Rattle.sched_box.specs.Asked.{AddsAddress, LeavesOut, asks, names}
use Rattle.sched_box.proofs.HostLemmas.{any_turned, untrue}

-- ---- look-ups

-- past the end of the flags none is off
off_within : (flags : List Bool) (place : ℕ) → get_or flags place true ≡ false → place < length flags
off_within [] place off = absurd (true≢false off)
off_within (f ∷ fs) zero off = omega arith
off_within (f ∷ fs) (suc place) off = let more = off_within fs place off in omega arith

-- two places of one address are one
same_place : (xs : List (List ℕ)) → AllPairs ◌≢◌ xs → (i j : ℕ) → i < length xs → j < length xs → get_or xs i [] ≡ get_or xs j [] → i ≡ j
same_place xs differ i j within there same =
    elim (cases_lt i j) [
      | inl less ↦ absurd (differ i j [] less there same)
      | inr not_less ↦ elim (cases_lt j i) [
        | inl more ↦ absurd (differ j i [] more within (sym same))
        | inr not_more ↦ omega arith
      ]
    ]

-- the address at a place, by itself
at_place : (keys : List Address) (d : Address) (place : ℕ) → place < length keys → get_or (map address_octets keys) place [] ≡ address_octets (get_or keys place d)
at_place keys d place within = get_or-map address_octets keys place d [] within

-- where the flag is off after a look-up that found nothing, another address was looked up
pub off_none : (keys : List Address) (d : Address) (a : List ℕ) (flags : List Bool) → length flags ≡ length keys → list_any (λ key. bytes_eq a (address_octets key)) keys ≡ false
    → (place : ℕ) → get_or flags place true ≡ false → bytes_eq a (get_or (map address_octets keys) place []) ≡ false
off_none keys d a flags long none place off =
    let flagged = off_within flags place off in
    let within : place < length keys = omega (arith, flagged, long) in
    untrue _ (λ here. true≢false (sym (list_any_at (λ key. bytes_eq a (address_octets key)) keys place d within (ap (bytes_eq a) (sym (at_place keys d place within)) ∙ here)) ∙ none))

-- where it is off after one that found a place, whose flag was set, it was off before, and another address was looked up
pub off_found : (keys : List Address) (d : Address) (a : List ℕ) (flags : List Bool) (found : ℕ) → AllPairs ◌≢◌ (map address_octets keys) → length flags ≡ length keys
    → position (λ key. bytes_eq a (address_octets key)) keys ≡ Some found → (place : ℕ) → get_or (set flags found true) place true ≡ false
    → (get_or flags place true ≡ false) × (bytes_eq a (get_or (map address_octets keys) place []) ≡ false)
off_found keys d a flags found differ long is place off =
    let at = position-Some (λ key. bytes_eq a (address_octets key)) keys found d is in
    let other : place ≢ found = λ same. true≢false (sym (get_or-set_same flags found true true (omega (arith, at.0, long))) ∙ subst (λ n. get_or (set flags found true) n true ≡ false) same off) in
    let before : get_or flags place true ≡ false = sym (get_or-set_other flags found place true true other) ∙ off in
    let flagged = off_within flags place before in
    let within : place < length keys = omega (arith, flagged, long) in
    let addresses = map address_octets keys in
    let sized : length addresses ≡ length keys = length-map keys address_octets in
    let there : a ≡ get_or addresses found [] = (bytes_eq-Decides a _).0 at.1 ∙ sym (at_place keys d found at.0) in
    (before, untrue _ (λ here. other (same_place addresses differ place found (omega (arith, within, sized)) (omega (arith, at.0, sized)) (sym ((bytes_eq-Decides a _).0 here) ∙ there))))

-- what a look-up for an address finds has it
pub place_at : (keys : List Address) (address : Address) (found : Option ℕ) → found ≡ position (λ key. bytes_eq (address_octets address) (address_octets key)) keys
    → IfSome found (λ place. get_or (map address_octets keys) place [] ≡ address_octets address)
place_at keys address None is = tt
place_at keys address (Some place) is =
    let at = position-Some (λ key. bytes_eq (address_octets address) (address_octets key)) keys place address (sym is) in
    at_place keys address place at.0 ∙ sym ((bytes_eq-Decides _ _).0 at.1)

any_address : (keys : List Address) (a : List ℕ) → list_any (bytes_eq a) (map address_octets keys) ≡ list_any (λ key. bytes_eq a (address_octets key)) keys
any_address [] a = refl
any_address (key ∷ keys) a = ap (λ t. bytes_eq a (address_octets key) || t) (any_address keys a)

-- where it finds nothing, no host has it
pub no_place : (keys : List Address) (address : Address) (found : Option ℕ) → is_some found ≡ list_any (λ key. bytes_eq (address_octets address) (address_octets key)) keys
    → IfNone found (list_any (bytes_eq (address_octets address)) (map address_octets keys) ≡ false)
no_place keys address None is = any_address keys (address_octets address) ∙ sym is
no_place keys address (Some place) is = tt

-- ---- the directory

-- a host that was looked up before it was added
pub added_if : (keys newer : List Address) (x : Address) (a : List ℕ) (is_new : Bool) → address_octets x ≡ a
    → is_new ≡ not (list_any (λ key. bytes_eq (address_octets x) (address_octets key)) keys)
    → newer ≡ cond (list_any (λ key. bytes_eq (address_octets x) (address_octets key)) keys) keys (keys ++ x ∷ [])
    → AddsAddress (map address_octets keys) (map address_octets newer) a is_new
added_if keys newer x a is_new same is made =
    by (list_any (λ key. bytes_eq (address_octets x) (address_octets key)) keys) (ap (λ o. list_any (bytes_eq o) (map address_octets keys)) (sym same) ∙ any_address keys (address_octets x)) is_new is made
  where
    by : (known : Bool) → list_any (bytes_eq a) (map address_octets keys) ≡ known → (flag : Bool) → flag ≡ not known → newer ≡ cond known keys (keys ++ x ∷ [])
        → AddsAddress (map address_octets keys) (map address_octets newer) a flag
    by true e true f m = absurd (true≢false f)
    by true e false f m = (e, ap (map address_octets) m)
    by false e true f m = (e, ap (map address_octets) m ∙ map-append address_octets keys (x ∷ []) ∙ ap (λ o. map address_octets keys ++ o ∷ []) same)
    by false e false f m = absurd (true≢false (sym f))

-- so the addresses differ as before
pub added_differ : (old new : List (List ℕ)) (a : List ℕ) (is_new : Bool) → AddsAddress old new a is_new → AllPairs ◌≢◌ old → AllPairs ◌≢◌ new
added_differ old new a true (fresh, is) differ =
    subst (λ (list : List (List ℕ)). AllPairs ◌≢◌ list) (sym is)
    (all_pairs_push ◌≢◌ old a differ (λ k d l same. true≢false (sym (list_any_at (bytes_eq a) old k d l ((bytes_eq-Decides a (get_or old k d)).1 (sym same))) ∙ fresh)))
added_differ old new a false (there, is) differ = subst (λ (list : List (List ℕ)). AllPairs ◌≢◌ list) (sym is) differ

-- whatever came of adding it
pub still_differ : {E : Type 0} (r : Result Bool E) (keys newer : List Address) (x : Address) → OnErr r (newer ≡ keys)
    → IfOk r (λ is_new. newer ≡ cond (list_any (λ key. bytes_eq (address_octets x) (address_octets key)) keys) keys (keys ++ x ∷ []))
    → AllPairs ◌≢◌ (map address_octets keys) → AllPairs ◌≢◌ (map address_octets newer)
still_differ (Err e) keys newer x same made differ = subst (λ (list : List Address). AllPairs ◌≢◌ (map address_octets list)) (sym same) differ
still_differ (Ok b) keys newer x same made differ =
    let known = list_any (λ key. bytes_eq (address_octets x) (address_octets key)) keys in
    added_differ (map address_octets keys) (map address_octets newer) (address_octets x) (not known) (added_if keys newer x (address_octets x) (not known) refl refl made) differ

-- one more address
pub listed_more : (hosts : List Address) (i : ℕ) (old new : List (List ℕ)) (host : Address) (is_new : Bool) → i < length hosts → host ≡ get_or hosts i host
    → AddsAddress old new (address_octets host) is_new → old ≡ each_once (map address_octets (take i hosts)) → new ≡ each_once (map address_octets (take (i + 1) hosts))
listed_more hosts i old new host is_new within is adds are =
    let a = address_octets host in
    let before = map address_octets (take i hosts) in
    let once : with_zones [] before ≡ old = zones_once before ∙ sym are in
    let all : map address_octets (take (i + 1) hosts) ≡ before ++ a ∷ [] = ap (map address_octets) (take_more hosts i host within) ∙ map-append address_octets (take i hosts) (get_or hosts i host ∷ []) ∙ ap (λ z. before ++ z ∷ []) (sym (ap address_octets is)) in
    by is_new adds ∙ ap (λ zones. with_zone zones a) (sym once) ∙ sym (with_more [] before (a ∷ [])) ∙ zones_once (before ++ a ∷ []) ∙ ap each_once (sym all)
  where
    by : (flag : Bool) → AddsAddress old new (address_octets host) flag → new ≡ with_zone old (address_octets host)
    by true (fresh, made) = made ∙ ap (λ b. cond (not b) (old ++ address_octets host ∷ []) old) (sym (any_turned (address_octets host) old ∙ fresh))
    by false (there, made) = made ∙ ap (λ b. cond (not b) (old ++ address_octets host ∷ []) old) (sym (any_turned (address_octets host) old ∙ there))

-- ---- the loop over the attendees

-- the flags after this many attendees
pub record MarksSofar (addresses : List (List ℕ)) (attendees : List Attendee) (i : ℕ) (before after : List Bool) : Type 0 where
  pub long : length after ≡ length before
  pub marks : (test : List ℕ → Bool) → LeavesOut test addresses before → LeavesOut (λ room. test room || names (take i attendees) room) addresses after

pub marks_none : (addresses : List (List ℕ)) (attendees : List Attendee) (flags : List Bool) → MarksSofar addresses attendees 0 flags flags
marks_none addresses attendees flags = record { long = refl; marks = λ test so place off. ap (λ b. b || false) (so place off) }

-- one more attendee
pub marks_more : (addresses : List (List ℕ)) (attendees : List Attendee) (i : ℕ) (x : Attendee) (before old new : List Bool) → i < length attendees → x ≡ get_or attendees i x → length new ≡ length old
    → ((place : ℕ) → get_or new place true ≡ false → (get_or old place true ≡ false) × (bytes_eq (address_octets x.address) (get_or addresses place []) ≡ false))
    → MarksSofar addresses attendees i before old → MarksSofar addresses attendees (i + 1) before new
marks_more addresses attendees i x before old new within is same step so = record { long = same ∙ so.long; marks = more }
  where
    more : (test : List ℕ → Bool) → LeavesOut test addresses before → LeavesOut (λ room. test room || names (take (i + 1) attendees) room) addresses new
    more test had place off =
        let room = get_or addresses place [] in
        let p : Attendee → Bool = λ attendee. bytes_eq (address_octets attendee.address) room in
        let both = or_parts (test room) (names (take i attendees) room) (so.marks test had place (step place off).0) in
        let here : p (get_or attendees i x) ≡ false = sym (ap p is) ∙ (step place off).1 in
        let all : names (take (i + 1) attendees) room ≡ false = list_any_more p attendees i x within ∙ ap (λ b. b || p (get_or attendees i x)) both.1 ∙ here in
        ap (λ b. b || names (take (i + 1) attendees) room) both.0 ∙ all

-- ---- the loop over the VEVENTs

names_said : (attendees : List Attendee) (room : List ℕ) → names attendees room ≡ list_any (λ a. bytes_eq a.address room) (map attendee_of attendees)
names_said [] room = refl
names_said (x ∷ xs) room = ap (λ b. bytes_eq (address_octets x.address) room || b) (names_said xs room)

-- what the VEVENTs so far ask
abbrev pub asks_sofar : Message → List MessageComponent → List ℕ → Bool
asks_sofar message components room = list_any (is_component_for room message) components

-- the flags after this many VEVENTs
pub record AsksSofar (message : Message) (addresses : List (List ℕ)) (i : ℕ) (flags : List Bool) : Type 0 where
  pub long : length flags ≡ length addresses
  pub out : LeavesOut (asks_sofar message (take i message.components.items)) addresses flags

-- what marking the attendees of a VEVENT does
abbrev pub Marking : List (List ℕ) → List Attendee → List Bool → List Bool → Type 0
Marking addresses lines old new = (test : List ℕ → Bool) → LeavesOut test addresses old → LeavesOut (λ room. test room || names lines room) addresses new

-- one more VEVENT, which isn't for all
pub asks_more : (message : Message) (addresses : List (List ℕ)) (i : ℕ) (x : MessageComponent) (lines : List Attendee) (old new : List Bool)
    → i < length message.components.items → x ≡ get_or message.components.items i x → map attendee_of lines ≡ x.attendees → cancels_for_all message x ≡ false → length new ≡ length old
    → Marking addresses lines old new → AsksSofar message addresses i old → AsksSofar message addresses (i + 1) new
asks_more message addresses i x lines old new within is are not_all same marks so = record { long = same ∙ so.long; out = more }
  where
    more : LeavesOut (asks_sofar message (take (i + 1) message.components.items)) addresses new
    more place off =
        let room = get_or addresses place [] in
        let components = message.components.items in
        let both = or_parts (asks_sofar message (take i components) room) (names lines room) (marks (asks_sofar message (take i components)) so.out place off) in
        let named : component_names room x ≡ false = sym (names_said lines room ∙ ap (list_any (λ a. bytes_eq a.address room)) are) ∙ both.1 in
        let here : is_component_for room message (get_or components i x) ≡ false = sym (ap (is_component_for room message) is) ∙ ap (λ b. b || cancels_for_all message x) named ∙ not_all in
        list_any_more (is_component_for room message) components i x within ∙ ap (λ b. b || is_component_for room message (get_or components i x)) both.0 ∙ here

on_all : (n place : ℕ) → get_or (replicate n true) place true ≡ true
on_all zero place = refl
on_all (suc n) zero = refl
on_all (suc n) (suc place) = on_all n place

-- one more, which is for all: all flags are on
pub asks_all : (message : Message) (addresses : List (List ℕ)) (i n : ℕ) (lines : List Attendee) (old new : List Bool) → old ≡ replicate n true → length new ≡ length addresses
    → Marking addresses lines old new → AsksSofar message addresses (i + 1) new
asks_all message addresses i n lines old new on long marks = record {
  long = long;
  out = λ place off. absurd (true≢false (marks (λ _. true) (λ p o. absurd (true≢false (sym (ap (λ flags. get_or flags p true) on ∙ on_all n p) ∙ o))) place off));
}

-- where the flag is off, whatever is used for those past the end
pub off_at : (flags : List Bool) (place : ℕ) → place < length flags → get_or flags place false ≡ false → get_or flags place true ≡ false
off_at [] place within off = absurd (omega arith)
off_at (f ∷ fs) zero within off = off
off_at (f ∷ fs) (suc place) within off = off_at fs place (omega arith) off

-- ---- a room that the message isn't for

-- it has no parts, so it claims nothing
none_claimed : (room : List ℕ) (zone : Option Zone) (said : Said) → is_addressed room said ≡ false → AreClaims room zone said []
none_claimed room zone said off = record {
  all = [];
  each = subst (λ (events : List EventComponent). AllZip (IsClaim room zone said) events []) (sym (ap (λ b. cond b (filter (is_part_for room said.method) said.events) []) off)) tt;
  are = record {
    among = λ one c. c;
    greatest = λ one c. absurd (omega (arith, c.1));
    order = λ i j d l w. absurd (omega (arith, l, w));
  };
}

-- what becomes of it there
abbrev pub passed : InRoom
passed = record { kind = NotAddressed; frees = false }

-- it takes no parts, and answers nothing
pub left_out : (moment : ℤ) (message : Message) (room : Room) → asks message (address_octets room.address) ≡ false → RoomTakes moment message room room [] passed
left_out moment message room none said represented before has =
    let a = address_octets room.address in
    let off : is_addressed a said ≡ false = sym (addressed a message said represented) ∙ ap (λ b. is_to_rooms (method_said message.method) && b) none ∙ and-false _ in
    let are = subst (λ r. AreClaims r before.zone said []) (sym has.at) (none_claimed a before.zone said off) in
    let step : IsStep before.book [] moment Accept before.book = record { taken = sym (append-nil _); answers = sym (append-nil _); decided = λ some. absurd (false≢true some) } in (
      before,
      has,
      record {
        same = refl;
        sent = [];
        takes = record {
          claims = [];
          are = are;
          outcome = Accept;
          step = step;
          reply = None;
          replies = refl;
          refresh = None;
          refreshes = and-false _;
          is = refl;
        };
        is = refl;
      },
      record { claims = []; are = are; outcome = Accept; step = step; is = refl },
      record { undecided = λ t. absurd (false≢true t); freed = λ t. absurd (false≢true t); kept = λ f d b c. c },
    )
