-- Rooms or organisers: they are made, one for each address, and one is found by its address.
use Rattle.std.proofs.Common.{◌≡◌, ◌≢◌, ℕ, suc, ◌+◌, ◌<◌, ◌≤◌, Bool, true, false, not, ◌||◌, cond, List, [], ◌∷◌, ◌++◌, length, take, map, filter, get_or, refl, sym, ap, subst, ◌∙◌, take_all, arith, AllPairs, Contains, Option, Some, None, IfNone, IfSome, true≢false}
use Rattle.std.specs.List.{AllZip, list_any}
use Rattle.std.specs.Option.{IsNone}
use Rattle.std.specs.Str.{bytes_eq}
use Rattle.std.proofs.lemmas.Bool.{or_parts}
use Rattle.std.proofs.lemmas.List.Elements.{filter-append}
use Rattle.std.proofs.lemmas.List.Folds.{list_any_at}
use Rattle.std.proofs.lemmas.Slice.Eq.{bytes_eq-Decides}
use Rattle.std.proofs.lemmas.List.{append-nil, map-append, take_more}
use Rattle.ical_values.specs.Octets.{address_octets}
use Rattle.ical_values.specs.declared.address.Address.{Address}
use Rattle.profile.specs.rooms.Kept.{each_once}
use Rattle.profile.specs.streams.Streams.{Hosted, ZonedRoom, addresses, new_room}
use Rattle.profile.specs.streams.Worlds.{ChangesOne, rooms_once}
use Rattle.room_books.specs.declared.room.Room.{Room}
use Rattle.sched_box.specs.Answering.{AreHosted, IsHosted, IsMade, room_addresses}
use Rattle.sched_box.specs.Asked.{AddsAddress}
use Rattle.sched_box.specs.Settings.{zoned_room}
use Rattle.sched_box.specs.declared.settings.ZonedRoom.{ZonedRoom as OwnRoom}

-- one more
zip_push : {H K : Type 0} (Is : H → K → Type 0) (hosts : List H) (kept : List K) (host : H) (own : K) → AllZip Is hosts kept → Is host own → AllZip Is (hosts ++ host ∷ []) (kept ++ own ∷ [])
zip_push Is [] [] host own all is = (is, tt)
zip_push Is [] (k ∷ ks) host own all is = absurd all
zip_push Is (h ∷ hs) [] host own all is = absurd all
zip_push Is (h ∷ hs) (k ∷ ks) host own all is = (all.0, zip_push Is hs ks host own all.1 is)

-- hosts were made for the first addresses: each has its own, and what is kept of it is empty
pub record MadeSofar {H K : Type 0} (at : H → List ℕ) (Is : H → K → Type 0) (empty : List ℕ → K) (addresses : List Address) (i : ℕ) (hosts : List H) : Type 0 where
  pub addresses_are : map at hosts ≡ map address_octets (take i addresses)
  pub kept : AllZip Is hosts (map empty (map address_octets (take i addresses)))

pub none_made : {H K : Type 0} (at : H → List ℕ) (Is : H → K → Type 0) (empty : List ℕ → K) (addresses : List Address) (hosts : List H) → hosts ≡ [] → MadeSofar at Is empty addresses 0 hosts
none_made at Is empty addresses hosts none = subst (MadeSofar at Is empty addresses 0) (sym none) (record { addresses_are = refl; kept = tt })

pub made_more : {H K : Type 0} (at : H → List ℕ) (Is : H → K → Type 0) (empty : List ℕ → K) (addresses : List Address) (i : ℕ) (hosts newer : List H) (host : H) (d : Address)
    → MadeSofar at Is empty addresses i hosts → i < length addresses → newer ≡ hosts ++ host ∷ [] → at host ≡ address_octets (get_or addresses i d)
    → Is host (empty (address_octets (get_or addresses i d))) → MadeSofar at Is empty addresses (i + 1) newer
made_more {H} {K} at Is empty addresses i hosts newer host d so l newer_is same is =
    let last = address_octets (get_or addresses i d) in
    let front = map address_octets (take i addresses) in
    let next : map address_octets (take (i + 1) addresses) ≡ front ++ last ∷ [] = ap (map address_octets) (take_more addresses i d l) ∙ map-append address_octets (take i addresses) (get_or addresses i d ∷ []) in
    let P : List K → Type 0 = AllZip Is (hosts ++ host ∷ []) in
    subst (MadeSofar at Is empty addresses (i + 1)) (sym newer_is)
    (record {
      addresses_are = map-append at hosts (host ∷ []) ∙ ap (λ z. z ++ at host ∷ []) so.addresses_are ∙ ap (λ a. front ++ a ∷ []) same ∙ sym next;
      kept = subst P (sym (ap (map empty) next ∙ map-append empty front (last ∷ []))) (zip_push Is hosts (map empty front) host (empty last) so.kept is);
    })

pub all_made : {H K : Type 0} (at : H → List ℕ) (Is : H → K → Type 0) (empty : List ℕ → K) (addresses : List Address) (i : ℕ) (hosts : List H) → MadeSofar at Is empty addresses i hosts → length addresses ≤ i
    → (map at hosts ≡ map address_octets addresses) × AllZip Is hosts (map empty (map address_octets addresses))
all_made at Is empty addresses i hosts so end =
    let all : take i addresses ≡ addresses = take_all i addresses end in
    (so.addresses_are ∙ ap (map address_octets) all, subst (λ list. AllZip Is hosts (map empty (map address_octets list))) all so.kept)

-- ---- hosts, and what is kept of them

pub untrue : (b : Bool) → (b ≡ true → ⊥) → b ≡ false
untrue true never = absurd (never refl)
untrue false never = refl

-- where no host has the address, none of what is kept has it
pub none_hosted : {H K : Type 0} (at : H → List ℕ) (address : K → List ℕ) (Is : H → K → Type 0) → ((host : H) (own : K) → Is host own → address own ≡ at host) → (to : List ℕ) (hosts : List H) (kept : List K)
    → list_any (bytes_eq to) (map at hosts) ≡ false → AllZip Is hosts kept → list_any (λ own. bytes_eq (address own) to) kept ≡ false
none_hosted at address Is same to [] [] none all = refl
none_hosted at address Is same to [] (k ∷ ks) none all = absurd all
none_hosted at address Is same to (h ∷ hs) [] none all = absurd all
none_hosted at address Is same to (h ∷ hs) (k ∷ ks) none all =
    let both = or_parts (bytes_eq to (at h)) (list_any (bytes_eq to) (map at hs)) none in
    let other : bytes_eq (address k) to ≡ false = untrue _ (λ here. true≢false (sym ((bytes_eq-Decides to (at h)).1 (sym ((bytes_eq-Decides (address k) to).0 here) ∙ same h k all.0)) ∙ both.0)) in
    ap (λ t. t || list_any (λ own. bytes_eq (address own) to) ks) other ∙ none_hosted at address Is same to hs ks both.1 all.1

-- it isn't among their addresses
pub never_among : {A : Type 0} (found : Option A) (to : List ℕ) (addresses : List (List ℕ)) → IfNone found (list_any (bytes_eq to) addresses ≡ false) → IsNone found → Contains addresses to → ⊥
never_among (Some host) to addresses none is among = true≢false is
never_among None to addresses none is (k, l, at) = true≢false (sym (list_any_at (bytes_eq to) addresses k to l ((bytes_eq-Decides to (get_or addresses k to)).1 (sym at))) ∙ none)

-- one more host ahead of the one that changes
pub one_behind : {Host : Type 0} {Changes : Host → Host → Type 0} {before after : List Host} (host : Host) → ChangesOne Changes before after → ChangesOne Changes (host ∷ before) (host ∷ after)
one_behind host one = record {
  ahead = host ∷ one.ahead;
  behind = one.behind;
  old = one.old;
  new = one.new;
  changes = one.changes;
  of_these = ap (λ list. host ∷ list) one.of_these;
  to_these = ap (λ list. host ∷ list) one.to_these;
}

-- ---- addresses, each once

is_other : (x : List ℕ) (xs : List (List ℕ)) → ((k : ℕ) (d : List ℕ) → k < length xs → x ≢ get_or xs k d) → filter (λ other. not (bytes_eq x other)) xs ≡ xs
is_other x [] differ = refl
is_other x (y ∷ ys) differ =
    let other : bytes_eq x y ≡ false = untrue _ (λ here. differ 0 [] (omega arith) ((bytes_eq-Decides x y).0 here)) in
    ap (λ b. cond (not b) (y ∷ filter (λ other. not (bytes_eq x other)) ys) (filter (λ other. not (bytes_eq x other)) ys)) other
    ∙ ap (λ list. y ∷ list) (is_other x ys (λ k d l. differ (suc k) d (omega arith)))

-- those that differ are each once
pub once_each : (xs : List (List ℕ)) → AllPairs ◌≢◌ xs → each_once xs ≡ xs
once_each [] differ = refl
once_each (x ∷ xs) differ =
    ap (λ list. x ∷ filter (λ other. not (bytes_eq x other)) list) (once_each xs (λ i j d less within. differ (suc i) (suc j) d (omega arith) (omega arith)))
    ∙ ap (λ list. x ∷ list) (is_other x xs (λ k d l. differ 0 (suc k) d (omega arith) (omega arith)))

-- ---- rooms, of each address the first

-- the test that a room is of another address
abbrev other_room : ZonedRoom → ZonedRoom → Bool
other_room room other = not (bytes_eq room.address other.address)

-- a room is the last of these
abbrev pub is_zoned_before : List ZonedRoom → ZonedRoom → Bool
is_zoned_before rooms room = list_any (λ earlier. bytes_eq earlier.address room.address) rooms

once_last : (rooms : List ZonedRoom) (room : ZonedRoom) → rooms_once (rooms ++ room ∷ []) ≡ rooms_once rooms ++ cond (is_zoned_before rooms room) [] (room ∷ [])
once_last [] room = refl
once_last (first ∷ rooms) room =
    ap (λ list. first ∷ filter (other_room first) list) (once_last rooms room)
    ∙ ap (λ list. first ∷ list) (filter-append (other_room first) (rooms_once rooms) (cond (is_zoned_before rooms room) [] (room ∷ [])))
    ∙ ap (λ list. first ∷ (filter (other_room first) (rooms_once rooms) ++ list)) (by (bytes_eq first.address room.address) (is_zoned_before rooms room) refl)
  where
    by : (b before : Bool) → bytes_eq first.address room.address ≡ b → filter (other_room first) (cond before [] (room ∷ [])) ≡ cond (b || before) [] (room ∷ [])
    by true true e = refl
    by false true e = refl
    by true false e = ap (λ t. cond (not t) (room ∷ []) []) e
    by false false e = ap (λ t. cond (not t) (room ∷ []) []) e

-- the address is one of those that are kept exactly where one of all has it
any_kept : (first : ZonedRoom) (a : List ℕ) (rooms : List ZonedRoom) → bytes_eq a first.address ≡ false
    → list_any (bytes_eq a) (addresses (filter (other_room first) rooms)) ≡ list_any (bytes_eq a) (addresses rooms)
any_kept first a [] differs = refl
any_kept first a (x ∷ rooms) differs = by (bytes_eq first.address x.address) refl (any_kept first a rooms differs)
  where
    by : (b : Bool) → bytes_eq first.address x.address ≡ b
        → list_any (bytes_eq a) (addresses (filter (other_room first) rooms)) ≡ list_any (bytes_eq a) (addresses rooms)
        → list_any (bytes_eq a) (addresses (cond (not b) (x ∷ filter (other_room first) rooms) (filter (other_room first) rooms))) ≡ (bytes_eq a x.address || list_any (bytes_eq a) (addresses rooms))
    by true e later =
        let same : first.address ≡ x.address = (bytes_eq-Decides first.address x.address).0 e in
        later ∙ sym (ap (λ t. t || list_any (bytes_eq a) (addresses rooms)) (subst (λ y. bytes_eq a y ≡ false) same differs))
    by false e later = ap (λ t. bytes_eq a x.address || t) later

turned : (xs ys : List ℕ) → bytes_eq xs ys ≡ bytes_eq ys xs
turned xs ys = by (bytes_eq xs ys) (bytes_eq ys xs) (λ one. (bytes_eq-Decides ys xs).1 (sym ((bytes_eq-Decides xs ys).0 one))) (λ other. (bytes_eq-Decides xs ys).1 (sym ((bytes_eq-Decides ys xs).0 other)))
  where
    by : (a b : Bool) → (a ≡ true → b ≡ true) → (b ≡ true → a ≡ true) → a ≡ b
    by true b there back = sym (there refl)
    by false true there back = back refl
    by false false there back = refl

pub any_turned : (x : List ℕ) (list : List (List ℕ)) → list_any (λ other. bytes_eq other x) list ≡ list_any (bytes_eq x) list
any_turned x [] = refl
any_turned x (y ∷ list) = ap (λ t. t || list_any (λ other. bytes_eq other x) list) (turned y x) ∙ ap (λ t. bytes_eq x y || t) (any_turned x list)

any_once : (a : List ℕ) (rooms : List ZonedRoom) → list_any (bytes_eq a) (addresses (rooms_once rooms)) ≡ list_any (λ earlier. bytes_eq earlier.address a) rooms
any_once a [] = refl
any_once a (x ∷ rooms) = ap (λ t. t || list_any (bytes_eq a) (addresses (filter (other_room x) (rooms_once rooms)))) (turned a x.address) ∙ by (bytes_eq x.address a) refl (any_once a rooms)
  where
    by : (b : Bool) → bytes_eq x.address a ≡ b → list_any (bytes_eq a) (addresses (rooms_once rooms)) ≡ list_any (λ earlier. bytes_eq earlier.address a) rooms
        → (b || list_any (bytes_eq a) (addresses (filter (other_room x) (rooms_once rooms)))) ≡ (b || list_any (λ earlier. bytes_eq earlier.address a) rooms)
    by true e later = refl
    by false e later = any_kept x a (rooms_once rooms) (turned a x.address ∙ e) ∙ later

-- one more room, of a new address or not
pub once_more : (rooms : List ZonedRoom) (room : ZonedRoom) → list_any (bytes_eq room.address) (addresses (rooms_once rooms)) ≡ false → rooms_once (rooms ++ room ∷ []) ≡ rooms_once rooms ++ room ∷ []
once_more rooms room new = once_last rooms room ∙ ap (λ b. rooms_once rooms ++ cond b [] (room ∷ [])) (sym (any_once room.address rooms) ∙ new)

pub once_same : (rooms : List ZonedRoom) (room : ZonedRoom) → list_any (bytes_eq room.address) (addresses (rooms_once rooms)) ≡ true → rooms_once (rooms ++ room ∷ []) ≡ rooms_once rooms
once_same rooms room there = once_last rooms room ∙ ap (λ b. rooms_once rooms ++ cond b [] (room ∷ [])) (sym (any_once room.address rooms) ∙ there) ∙ append-nil (rooms_once rooms)

others_stay : (x : ZonedRoom) (rooms : List ZonedRoom) → ((k : ℕ) (d : List ℕ) → k < length (addresses rooms) → x.address ≢ get_or (addresses rooms) k d) → filter (other_room x) rooms ≡ rooms
others_stay x [] differ = refl
others_stay x (y ∷ ys) differ =
    let other : bytes_eq x.address y.address ≡ false = untrue _ (λ here. differ 0 [] (omega arith) ((bytes_eq-Decides x.address y.address).0 here)) in
    ap (λ b. cond (not b) (y ∷ filter (other_room x) ys) (filter (other_room x) ys)) other
    ∙ ap (λ list. y ∷ list) (others_stay x ys (λ k d l. differ (suc k) d (omega arith)))

-- rooms of different addresses are all kept
pub once_rooms : (rooms : List ZonedRoom) → AllPairs ◌≢◌ (addresses rooms) → rooms_once rooms ≡ rooms
once_rooms [] differ = refl
once_rooms (x ∷ rooms) differ =
    ap (λ list. x ∷ filter (other_room x) list) (once_rooms rooms (λ i j d less within. differ (suc i) (suc j) d (omega arith) (omega arith)))
    ∙ ap (λ list. x ∷ list) (others_stay x rooms (λ k d l. differ 0 (suc k) d (omega arith) (omega arith)))

-- ---- empty rooms

pub new_addresses : (rooms : List ZonedRoom) → map (λ host. host.address) (map new_room rooms) ≡ addresses rooms
new_addresses [] = refl
new_addresses (x ∷ rooms) = ap (λ list. x.address ∷ list) (new_addresses rooms)

-- what is kept of rooms has their addresses
pub hosted_addresses : (rooms : List Room) (kept : List Hosted) → AreHosted rooms kept → room_addresses rooms ≡ map (λ host. host.address) kept
hosted_addresses [] [] all = refl
hosted_addresses [] (k ∷ ks) all = absurd all
hosted_addresses (r ∷ rs) [] all = absurd all
hosted_addresses (r ∷ rs) (k ∷ ks) all = λ i. sym all.0.at i ∷ hosted_addresses rs ks all.1 i

pub none_in : (rooms : List Room) (listed : List (List ℕ)) → rooms ≡ [] → listed ≡ [] → IsMade rooms listed []
none_in rooms listed none nothing = record {
  hosted = subst (λ (list : List Room). AreHosted list []) (sym none) tt;
  in_order = nothing ∙ sym (ap room_addresses none);
}

-- one whose address is new
pub one_in : (olds news : List Room) (listed more : List (List ℕ)) (done : List ZonedRoom) (room : Room) (said : ZonedRoom) → IsHosted room (new_room said)
    → (is_new : Bool) → AddsAddress listed more said.address is_new → is_new ≡ true → news ≡ olds ++ room ∷ [] → IsMade olds listed done → IsMade news more (done ++ said ∷ [])
one_in olds news listed more done room said hosted is_new adds added news_is made =
    let (fresh, more_is) = subst (AddsAddress listed more said.address) added adds in
    let all = made.in_order ∙ hosted_addresses olds (map new_room (rooms_once done)) made.hosted ∙ new_addresses (rooms_once done) in
    let once = once_more done said (subst (λ list. list_any (bytes_eq said.address) list ≡ false) all fresh) in
    let P : List Hosted → Type 0 = AllZip IsHosted news in
    let Q : List Room → Type 0 = λ list. AllZip IsHosted list (map new_room (rooms_once done) ++ new_room said ∷ []) in
    record {
      hosted = subst P (sym (ap (map new_room) once ∙ map-append new_room (rooms_once done) (said ∷ []))) (subst Q (sym news_is) (zip_push IsHosted olds (map new_room (rooms_once done)) room (new_room said) made.hosted hosted));
      in_order = more_is ∙ ap (λ list. list ++ said.address ∷ []) made.in_order ∙ ap (λ a. room_addresses olds ++ a ∷ []) hosted.at
          ∙ sym (ap room_addresses news_is ∙ map-append (λ (r : Room). address_octets r.address) olds (room ∷ []));
    }

-- one whose address is there
pub one_there : (rooms : List Room) (listed more : List (List ℕ)) (done : List ZonedRoom) (said : ZonedRoom) (is_new : Bool) → AddsAddress listed more said.address is_new → is_new ≡ false
    → IsMade rooms listed done → IsMade rooms more (done ++ said ∷ [])
one_there rooms listed more done said is_new adds known made =
    let (there, same) = subst (AddsAddress listed more said.address) known adds in
    let all = made.in_order ∙ hosted_addresses rooms (map new_room (rooms_once done)) made.hosted ∙ new_addresses (rooms_once done) in
    let once = once_same done said (subst (λ list. list_any (bytes_eq said.address) list ≡ true) all there) in
    record {
      hosted = subst (λ list. AreHosted rooms (map new_room list)) (sym once) made.hosted;
      in_order = same ∙ made.in_order;
    }

-- after one more of the hosts
pub made_next : (rooms : List Room) (listed : List (List ℕ)) (hosts : List OwnRoom) (i : ℕ) (host : OwnRoom) → i < length hosts → host ≡ get_or hosts i host
    → IsMade rooms listed (map zoned_room (take i hosts) ++ zoned_room host ∷ []) → IsMade rooms listed (map zoned_room (take (i + 1) hosts))
made_next rooms listed hosts i host within is made =
    let all : map zoned_room (take (i + 1) hosts) ≡ map zoned_room (take i hosts) ++ zoned_room host ∷ [] =
    ap (map zoned_room) (take_more hosts i host within) ∙ map-append zoned_room (take i hosts) (get_or hosts i host ∷ []) ∙ ap (λ (x : OwnRoom). map zoned_room (take i hosts) ++ zoned_room x ∷ []) (sym is) in
    subst (IsMade rooms listed) (sym all) made

-- ---- clauses of what is found

pub some_of : {A : Type 0} (found : Option A) {P Q R : A → Type 0} → ((a : A) → P a → Q a → R a) → IfSome found P → IfSome found Q → IfSome found R
some_of None both p q = tt
some_of (Some a) both p q = both a p q
