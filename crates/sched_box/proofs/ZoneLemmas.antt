-- The zones of rooms: where one is found, which rooms have one, and what a text says of one.
use Rattle.std.proofs.Common.{◌≡◌, ◌∙◌, ℕ, zero, suc, ◌+◌, ◌<◌, ◌≤◌, Bool, true, false, cond, ◌||◌, ◌&&◌, List, [], ◌∷◌, ◌++◌, length, get_or, drop, map, refl, sym, ap, subst, arith, codes, Option, Some, None, unwrap_or, Contains, true≢false, drop-cons}
use Rattle.std.specs.List.{find, list_any}
use Rattle.std.specs.Option.{is_some, option_map}
use Rattle.std.specs.Str.{bytes_eq}
use Rattle.std.proofs.Math.ListN.{drop_of_length-le}
use Rattle.std.proofs.lemmas.List.{append_assoc, length-map}
use Rattle.std.proofs.lemmas.Bool.{and_parts}
use Rattle.std.proofs.lemmas.List.Elements.{All-map}
use Rattle.std.proofs.lemmas.List.Folds.{Any-from_list_any, list_any-from_Any}
use Rattle.std.proofs.lemmas.Slice.Eq.{bytes_eq-Decides}
use Rattle.ical_values.specs.Octets.{address_octets}
use Rattle.ical_values.specs.declared.address.Address.{Address}
use Rattle.ical_lines.specs.Fault.{RefusesBy}
use Rattle.ical_lines.specs.declared.fault.Fault.{Fault}
use Rattle.ical_lines.specs.declared.fault.Fault.TheVariants.{Refused}
use Rattle.ical_lines.specs.declared.fault.Refusal.{Refusal}
use Rattle.cal_zones.specs.RoomZones.{room_of, words_of}
use Rattle.cal_zones.specs.declared.room_zone.RoomZone.{RoomZone}
use Rattle.cal_zones.proofs.RoomZoneLemmas.{room_means}
use Rattle.profile.specs.series.RoomZones.{IsRoomZone, IsNoRoomZone}
use Rattle.profile.specs.streams.Streams.{AreInZones, ZonedRoom, addresses, in_utc, room_in}
use Rattle.profile.specs.text.Values.{IsAddress}
use Rattle.sched_box.specs.Settings.{SaysZone, are_of_rooms, zoned_room}
use Rattle.sched_box.specs.declared.settings.ZonedRoom.{ZonedRoom as OwnRoom}
use Rattle.sched_box.proofs.Lines.{Without, not_without, no_space, cut_at}

-- ---- which octets are in a list

pub among : (xs : List (List ℕ)) (a : List ℕ) → list_any (λ y. bytes_eq y a) xs ≡ true → Contains xs a
among xs a h =
    let found = Any-from_list_any (λ y. bytes_eq y a) xs h in
    let P : List ℕ → Type 0 = Contains xs in
    subst P ((bytes_eq-Decides found.1 a).0 found.4) (found.0, found.2, found.3)

pub found_any : (xs : List (List ℕ)) (a : List ℕ) → Contains xs a → list_any (λ y. bytes_eq y a) xs ≡ true
found_any xs a c = list_any-from_Any (λ y. bytes_eq y a) xs (c.0, a, c.1, c.2, (bytes_eq-Decides a a).1 refl)

pub any_map : (hosts : List Address) (a : List ℕ) → list_any (λ y. bytes_eq y a) (map address_octets hosts) ≡ list_any (λ h. bytes_eq (address_octets h) a) hosts
any_map [] a = refl
any_map (r ∷ rs) a = ap (λ t. bytes_eq (address_octets r) a || t) (any_map rs a)

-- ---- the room of an address

-- what these rooms have at the address
abbrev pub room_at : List ℕ → List OwnRoom → Option ZonedRoom
room_at address rooms = find (λ room. bytes_eq room.address address) (map zoned_room rooms)

-- from a place on the rooms have what all have
pub record IsLeft (address : List ℕ) (rooms : List OwnRoom) (i : ℕ) : Type 0 where
  pub same : room_at address (drop i rooms) ≡ room_at address rooms

pub all_left : (address : List ℕ) (rooms : List OwnRoom) → IsLeft address rooms 0
all_left address rooms = record { same = refl }

at_place : (rooms : List OwnRoom) (i : ℕ) (x : OwnRoom) → i < length rooms → x ≡ get_or rooms i x → drop i rooms ≡ x ∷ drop (i + 1) rooms
at_place rooms i x l is =
    let next : suc i ≡ i + 1 = omega arith in
    drop-cons rooms i x l ∙ ap (λ y. y ∷ drop (suc i) rooms) (sym is) ∙ ap (λ k. x ∷ drop k rooms) next

pub one_less : (address : List ℕ) (rooms : List OwnRoom) (i : ℕ) (x : OwnRoom) → i < length rooms → x ≡ get_or rooms i x
    → bytes_eq (address_octets x.address) address ≡ false → IsLeft address rooms i → IsLeft address rooms (i + 1)
one_less address rooms i x l is differs left = record {
  same = sym (ap (λ b. cond b (Some (zoned_room x)) (room_at address (drop (i + 1) rooms))) differs) ∙ sym (ap (room_at address) (at_place rooms i x l is)) ∙ left.same;
}

pub is_here : (address : List ℕ) (rooms : List OwnRoom) (i : ℕ) (x : OwnRoom) → i < length rooms → x ≡ get_or rooms i x
    → bytes_eq (address_octets x.address) address ≡ true → IsLeft address rooms i
    → Some (record { address = address; words = words_of x.zone; zone = room_of x.zone }) ≡ room_at address rooms
is_here address rooms i x l is ties left =
    let same : address_octets x.address ≡ address = (bytes_eq-Decides (address_octets x.address) address).0 ties in
    ap (λ a. Some (record { address = a; words = words_of x.zone; zone = room_of x.zone })) (sym same)
    ∙ sym (ap (λ b. cond b (Some (zoned_room x)) (room_at address (drop (i + 1) rooms))) ties) ∙ sym (ap (room_at address) (at_place rooms i x l is)) ∙ left.same

pub none_left : (address : List ℕ) (rooms : List OwnRoom) (i : ℕ) → length rooms ≤ i → IsLeft address rooms i → None ≡ room_at address rooms
none_left address rooms i l left = sym (ap (room_at address) (drop_of_length-le rooms l)) ∙ left.same

-- it is among the rooms
in_map : (rooms : List OwnRoom) (i : ℕ) (x : OwnRoom) → i < length rooms → x ≡ get_or rooms i x → Contains (map zoned_room rooms) (zoned_room x)
in_map rooms i x l is = (i, omega (arith, l, length-map rooms zoned_room), at rooms i l ∙ ap zoned_room (sym is))
  where
    at : (xs : List OwnRoom) (k : ℕ) → k < length xs → get_or (map zoned_room xs) k (zoned_room x) ≡ zoned_room (get_or xs k x)
    at [] k l = absurd (omega arith)
    at (y ∷ xs) zero l = refl
    at (y ∷ xs) (suc k) l = at xs k (omega arith)

pub is_among : (address : List ℕ) (rooms : List OwnRoom) (i : ℕ) (x : OwnRoom) → i < length rooms → x ≡ get_or rooms i x
    → bytes_eq (address_octets x.address) address ≡ true
    → Contains (map zoned_room rooms) (record { address = address; words = words_of x.zone; zone = room_of x.zone })
is_among address rooms i x l is ties =
    let same : address_octets x.address ≡ address = (bytes_eq-Decides (address_octets x.address) address).0 ties in
    let P : List ℕ → Type 0 = λ a. Contains (map zoned_room rooms) (record { address = a; words = words_of x.zone; zone = room_of x.zone }) in
    subst P same (in_map rooms i x l is)

-- there is a room of the address exactly where the addresses have it
found_is : (a : List ℕ) (rooms : List ZonedRoom) → is_some (find (λ room. bytes_eq room.address a) rooms) ≡ list_any (λ y. bytes_eq y a) (addresses rooms)
found_is a [] = refl
found_is a (x ∷ xs) = by (bytes_eq x.address a) (found_is a xs)
  where
    by : (b : Bool) → is_some (find (λ room. bytes_eq room.address a) xs) ≡ list_any (λ y. bytes_eq y a) (addresses xs)
        → is_some (cond b (Some x) (find (λ room. bytes_eq room.address a) xs)) ≡ (b || list_any (λ y. bytes_eq y a) (addresses xs))
    by true later = refl
    by false later = later

pub is_some_map : {X Y : Type 0} (f : X → Y) (o : Option X) → is_some (option_map f o) ≡ is_some o
is_some_map f None = refl
is_some_map f (Some x) = refl

pub some_contains : (a : List ℕ) (rooms : List ZonedRoom) → is_some (find (λ room. bytes_eq room.address a) rooms) ≡ true → Contains (addresses rooms) a
some_contains a rooms h = among (addresses rooms) a (sym (found_is a rooms) ∙ h)

pub contains_some : (a : List ℕ) (rooms : List ZonedRoom) → Contains (addresses rooms) a → is_some (find (λ room. bytes_eq room.address a) rooms) ≡ true
contains_some a rooms c = found_is a rooms ∙ found_any (addresses rooms) a c

pub none_lacks : (a : List ℕ) (rooms : List OwnRoom) → None ≡ room_at a rooms → Contains (addresses (map zoned_room rooms)) a → ⊥
none_lacks a rooms e c = true≢false (sym (contains_some a (map zoned_room rooms) c) ∙ sym (ap is_some e))

-- what is found at an address has it
at_address : (zones : List ZonedRoom) (a : List ℕ) → (room_in zones a).address ≡ a
at_address [] a = refl
at_address (x ∷ xs) a = by (bytes_eq x.address a) refl (at_address xs a)
  where
    by : (b : Bool) → bytes_eq x.address a ≡ b → (room_in xs a).address ≡ a
        → (unwrap_or (cond b (Some x) (find (λ room. bytes_eq room.address a) xs)) (in_utc a)).address ≡ a
    by true e later = (bytes_eq-Decides x.address a).0 e
    by false e later = later

pub same_addresses : (zones : List ZonedRoom) (list : List (List ℕ)) → addresses (map (room_in zones) list) ≡ list
same_addresses zones [] = refl
same_addresses zones (a ∷ list) = λ i. at_address zones a i ∷ same_addresses zones list i

pub zone_given : (zones : List OwnRoom) (a : List ℕ) (zone : RoomZone) → Some (record { address = a; words = words_of zone; zone = room_of zone }) ≡ room_at a zones
    → record { address = a; words = words_of zone; zone = room_of zone } ≡ room_in (map zoned_room zones) a
zone_given zones a zone is = ap (λ o. unwrap_or o (in_utc a)) is

pub zone_utc : (zones : List OwnRoom) (a : List ℕ) (zone : RoomZone) → None ≡ room_at a zones → words_of zone ≡ codes "+0000" → room_of zone ≡ None
    → record { address = a; words = words_of zone; zone = room_of zone } ≡ room_in (map zoned_room zones) a
zone_utc zones a zone is words own = (λ i. record { address = a; words = words i; zone = own i }) ∙ ap (λ o. unwrap_or o (in_utc a)) is

-- the words of each room mean its zone
pub in_zones : (rooms : List OwnRoom) → AreInZones (map zoned_room rooms)
in_zones rooms = All-map (λ room. IsRoomZone room.words room.zone) zoned_room rooms (λ k d l. room_means (get_or rooms k d).zone)

-- ---- each zone is of a room

pub of_rooms : (rooms : List Address) (zones : List OwnRoom) → are_of_rooms rooms zones ≡ true
    → (a : List ℕ) → Contains (addresses (map zoned_room zones)) a → Contains (map address_octets rooms) a
of_rooms rooms [] h a (k, l, e) = absurd (omega arith)
of_rooms rooms (z ∷ zones) h a (zero, l, e) =
    let P : List ℕ → Type 0 = Contains (map address_octets rooms) in
    subst P e (among (map address_octets rooms) (address_octets z.address) (any_map rooms (address_octets z.address) ∙ (and_parts _ _ h).0))
of_rooms rooms (z ∷ zones) h a (suc k, l, e) = of_rooms rooms zones (and_parts _ _ h).1 a (k, omega arith, e)

-- one that isn't
pub record IsStray (rooms : List Address) (zones : List OwnRoom) : Type 0 where
  pub address : List ℕ
  pub zoned : Contains (addresses (map zoned_room zones)) address
  pub lacks : Contains (map address_octets rooms) address → ⊥

pub stray : (rooms : List Address) (zones : List OwnRoom) → are_of_rooms rooms zones ≡ false → IsStray rooms zones
stray rooms [] h = absurd (true≢false h)
stray rooms (z ∷ zones) h = by (list_any (λ room. bytes_eq (address_octets room) (address_octets z.address)) rooms) refl h (stray rooms zones)
  where
    by : (b : Bool) → list_any (λ room. bytes_eq (address_octets room) (address_octets z.address)) rooms ≡ b → (b && are_of_rooms rooms zones) ≡ false
        → (are_of_rooms rooms zones ≡ false → IsStray rooms zones) → IsStray rooms (z ∷ zones)
    by true e h later =
        let s = later h in
        record { address = s.address; zoned = (suc s.zoned.0, omega (arith, s.zoned.1), s.zoned.2); lacks = s.lacks }
    by false e h later =
        record {
          address = address_octets z.address;
          zoned = (zero, omega arith, refl);
          lacks = λ c. true≢false (sym (sym (any_map rooms (address_octets z.address)) ∙ found_any (map address_octets rooms) (address_octets z.address) c) ∙ e);
        }

-- ---- what a text says

pub no_gap : (text : List ℕ) → Without 32 text → (room : ZonedRoom) → SaysZone text room → ⊥
no_gap text lacks room says =
    let P : List ℕ → Type 0 = Without 32 in
    not_without 32 says.0 room.words (subst P (says.1 ∙ append_assoc says.0 (codes " ") room.words) lacks)

-- a text that is cut at its first space says what its parts say
parts_say : (text address words : List ℕ) → text ≡ address ++ 32 ∷ words → Without 32 address → (room : ZonedRoom) → SaysZone text room
    → (IsAddress address) × IsRoomZone words room.zone
parts_say text address words is lacks room says =
    let both = cut_at 32 says.0 address room.words words (no_space says.0 says.2) lacks (sym (append_assoc says.0 (codes " ") room.words) ∙ sym says.1 ∙ is) in
    let P : List ℕ → Type 0 = IsAddress in
    let Q : List ℕ → Type 0 = λ w. IsRoomZone w room.zone in
    (subst P both.0 says.2, subst Q both.1 says.4)

pub bad_address : (text address words : List ℕ) → text ≡ address ++ 32 ∷ words → Without 32 address → (IsAddress address → ⊥)
    → (room : ZonedRoom) → SaysZone text room → ⊥
bad_address text address words is lacks bad room says = bad (parts_say text address words is lacks room says).0

pub bad_words : (text address words : List ℕ) → text ≡ address ++ 32 ∷ words → Without 32 address → IsNoRoomZone words
    → (room : ZonedRoom) → SaysZone text room → ⊥
bad_words text address words is lacks bad room says = bad room.zone (parts_say text address words is lacks room says).1

pub no_zone : (words : List ℕ) (f : Fault) (r : Refusal) → f ≡ Refused r → RefusesBy (λ n. (n ≡ 44) × IsNoRoomZone words) f → IsNoRoomZone words
no_zone words f r is refuses = (subst (RefusesBy (λ n. (n ≡ 44) × IsNoRoomZone words)) is refuses).1
