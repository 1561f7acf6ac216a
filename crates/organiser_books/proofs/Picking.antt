-- Attendees in memory that pass a test, and what they are in the book.
use Rattle.std.proofs.Common.{◌≡◌, ◌∙◌, ℕ, Bool, true, false, not, is_some, ◌&&◌, ◌||◌, List, [], ◌∷◌, ◌++◌, map, Option, None, Some, refl, sym, ap, subst, inl, inr}
use Rattle.std.specs.List.{filter, flat_map, list_any, Contains, IsDistinct}
use Rattle.std.specs.Map.{keys_of}
use Rattle.std.specs.Str.{bytes_eq}
use Rattle.std.specs.Cmp.{IsEquivalence, both_ways as same_tests}
use Rattle.std.proofs.lemmas.Bool.{true≢false, cases_Bool, both_ways}
use Rattle.std.proofs.lemmas.List.{map-append}
use Rattle.std.proofs.lemmas.Map.Views.{any-filter_same, lookup-from_Contains}
use Rattle.itip_order.proofs.Lists.{any_at, any_from, filter_at, filter_from, in_cons, in_head, in_tail}
use Rattle.ical_values.specs.Octets.{address_octets}
use Rattle.ical_values.specs.declared.address.Address.{Address}
use Rattle.profile.specs.events.EventComponents.{Attendee}
use Rattle.profile.specs.rooms.Kept.{each_once}
use Rattle.profile.specs.organisers.Organisers.{without}
use Rattle.organiser_books.specs.declared.attending.Attendance.{Attendance}
use Rattle.organiser_books.specs.Attending.{Entries, addresses_in, attendance_of, gone_among, gone_in, is_no_organiser, is_sent, is_sent_in, names, scheduled_among, schedules_line, sent_among, sent_in, Attends, AreAttending}
use Rattle.organiser_books.proofs.Loops.{any_flat, any_map, filter_both, filter_no, filter_of_map, filter_yes, same_filter}
use Rattle.organiser_books.proofs.Lines.{all_unnamed, same_back, same_is, same_itself}
use Rattle.organiser_books.proofs.Noting.{same_address}
use Rattle.organiser_books.proofs.Said.{known_is}

abbrev pub Entry : Type 0
Entry = Address × Attendance

octets : Entry → List ℕ
octets e = address_octets e.0

abbrev pub picked : (Entry → Bool) → Entries → List (List ℕ)
picked test entries = map (λ entry. address_octets entry.0) (filter test entries)

-- ---- one more entry

pub picked_yes : (test : Entry → Bool) (done : Entries) (e : Entry) (items more : List Address) (a : Address) → more ≡ items ++ a ∷ [] → address_octets a ≡ address_octets e.0
    → map address_octets items ≡ picked test done → test e ≡ true → map address_octets more ≡ picked test (done ++ e ∷ [])
picked_yes test done e items more a is same h t =
    ap (map address_octets) is ∙ map-append address_octets items (a ∷ []) ∙ (λ i. h i ++ same i ∷ [])
    ∙ sym (ap (map (λ (x : Entry). address_octets x.0)) (filter_yes test done e t) ∙ map-append (λ (x : Entry). address_octets x.0) (filter test done) (e ∷ []))

pub picked_no : (test : Entry → Bool) (done : Entries) (e : Entry) (items : List Address) → map address_octets items ≡ picked test done → test e ≡ false → map address_octets items ≡ picked test (done ++ e ∷ [])
picked_no test done e items h t = h ∙ sym (ap (map (λ (x : Entry). address_octets x.0)) (filter_no test done e t))

-- ---- what they are

pub same_address_laws : IsEquivalence same_address
same_address_laws = record {
  refl = λ x. same_itself (address_octets x);
  symm = λ x y. same_back (address_octets x) (address_octets y);
  congr = λ x y z e. ap (λ q. bytes_eq q (address_octets z)) (same_is (address_octets x) (address_octets y) e);
}

-- the server sends messages to those who are scheduled
pub sent_where : (lists : List (List Attendee)) (q : List ℕ) (r : Option Attendance) → Attends lists q r → is_sent_in r ≡ list_any (schedules_line q) lists
sent_where lists q None h = sym (all_unnamed q lists h)
sent_where lists q (Some a) h = h.scheduled

module _ (lists : List (List Attendee)) (es : Entries) (are : AreAttending lists es) where
  abbrev test : List ℕ → Bool
  test q = list_any (schedules_line q) lists

  pub is_sent_is : (q : List ℕ) → is_sent q es ≡ test q
  is_sent_is q = sent_where lists q (attendance_of q es) (are.each q)

  module _ (distinct : IsDistinct same_address (keys_of es)) where
    entry_sent : (e : Entry) → Contains es e → e.1.scheduled ≡ test (address_octets e.0)
    entry_sent e c =
        let found : attendance_of (address_octets e.0) es ≡ Some e.1 = lookup-from_Contains same_address_laws e.0 e.1 es distinct c in
        sym (ap is_sent_in found) ∙ is_sent_is (address_octets e.0)

    keys_are : map (λ (e : Entry). address_octets e.0) es ≡ each_once (flat_map addresses_in lists)
    keys_are = map_map es ∙ are.order
      where
        map_map : (xs : Entries) → map (λ (e : Entry). address_octets e.0) xs ≡ map address_octets (keys_of xs)
        map_map [] = refl
        map_map (x ∷ xs) = ap (λ l. address_octets x.0 ∷ l) (map_map xs)

    -- those of them who pass another test
    pub sent_and : (other : List ℕ → Bool) → map (λ (e : Entry). address_octets e.0) (filter (λ (e : Entry). e.1.scheduled && other (address_octets e.0)) es) ≡ filter other (scheduled_among lists)
    sent_and other =
        filter_of_map (λ (e : Entry). address_octets e.0) (λ e. e.1.scheduled && other (address_octets e.0)) (λ q. test q && other q) es (λ e c. ap (λ b. b && other (address_octets e.0)) (entry_sent e c))
        ∙ ap (filter (λ q. test q && other q)) keys_are ∙ sym (filter_both other test (each_once (flat_map addresses_in lists)))

-- ---- those who are gone

-- what an address that comes once is among
once_any : (q : List ℕ) (xs : List (List ℕ)) → list_any (λ y. bytes_eq y q) xs ≡ true → Contains (each_once xs) q
once_any q [] e = absurd (true≢false (sym e))
once_any q (x ∷ xs) e = by (bytes_eq x q) refl e (once_any q xs)
  where
    by : (b : Bool) → bytes_eq x q ≡ b → (b || list_any (λ y. bytes_eq y q) xs) ≡ true → (list_any (λ y. bytes_eq y q) xs ≡ true → Contains (each_once xs) q) → Contains (each_once (x ∷ xs)) q
    by true s h r = subst (Contains (each_once (x ∷ xs))) (same_is x q s) (in_head x _)
    by false s h r = in_tail x _ q (filter_from (λ o. not (bytes_eq x o)) (each_once xs) q (r h) (ap not s))

once_in : (q : List ℕ) (xs : List (List ℕ)) → Contains (each_once xs) q → Contains xs q
once_in q [] c = c
once_in q (x ∷ xs) c = elim (in_cons x (filter (λ o. not (bytes_eq x o)) (each_once xs)) q c) [
  | inl is ↦ subst (Contains (x ∷ xs)) is (in_head x xs)
  | inr later ↦ in_tail x xs q (once_in q xs (filter_at (λ o. not (bytes_eq x o)) (each_once xs) q later).0)
]

-- one who is named is among the addresses
named_flat : (lists : List (List Attendee)) (q : List ℕ) → list_any (λ y. bytes_eq y q) (flat_map addresses_in lists) ≡ list_any (names q) lists
named_flat lists q = any_flat (λ y. bytes_eq y q) addresses_in lists ∙ same_any lists
  where
    same_any : (ls : List (List Attendee)) → list_any (λ l. list_any (λ y. bytes_eq y q) (addresses_in l)) ls ≡ list_any (names q) ls
    same_any [] = refl
    same_any (l ∷ ls) = λ i. any_map (λ y. bytes_eq y q) (λ (a : Attendee). a.address) l i || same_any ls i

-- an address is among those whom the server sends messages where one of the components leaves it to the server
pub among_scheduled : (lists : List (List Attendee)) (q : List ℕ) → list_any (bytes_eq q) (scheduled_among lists) ≡ list_any (schedules_line q) lists
among_scheduled lists q = same_tests _ _
    (λ e. let r = any_at (bytes_eq q) (scheduled_among lists) e in
    subst (λ z. list_any (schedules_line z) lists ≡ true) (sym (same_is q r.0 r.2)) (filter_at (λ a. list_any (schedules_line a) lists) (each_once (flat_map addresses_in lists)) r.0 r.1).1)
    (λ e. any_from (bytes_eq q) (scheduled_among lists) q (filter_from (λ a. list_any (schedules_line a) lists) (each_once (flat_map addresses_in lists)) q (once_any q (flat_map addresses_in lists) (named e)) e) (same_itself q))
  where
    named : list_any (schedules_line q) lists ≡ true → list_any (λ y. bytes_eq y q) (flat_map addresses_in lists) ≡ true
    named e = elim (cases_Bool (list_any (names q) lists)) [
      | inl there ↦ named_flat lists q ∙ there
      | inr none ↦ absurd (both_ways _ (all_unnamed q lists none) e)
    ]

-- and among all attendees where one of them names it
pub among_named : (lists : List (List Attendee)) (q : List ℕ) → list_any (bytes_eq q) (each_once (flat_map addresses_in lists)) ≡ list_any (names q) lists
among_named lists q = same_tests _ _
    (λ e. let r = any_at (bytes_eq q) (each_once all) e in
    sym (named_flat lists q) ∙ any_from (λ y. bytes_eq y q) all r.0 (once_in r.0 all r.1) (same_back r.0 q ∙ r.2))
    (λ e. any_from (bytes_eq q) (each_once all) q (once_any q all (named_flat lists q ∙ e)) (same_itself q))
  where
    all : List (List ℕ)
    all = flat_map addresses_in lists

-- what is among those that pass a test
pub among_passing : (f : List ℕ → Bool) (q : List ℕ) (xs : List (List ℕ)) → list_any (bytes_eq q) (filter f xs) ≡ (f q && list_any (bytes_eq q) xs)
among_passing f q xs = any-filter_same (bytes_eq q) f (f q) (λ k e. ap f (sym (same_is q k e))) xs

others : List ℕ → List ℕ → Bool
others organiser q = not (bytes_eq q organiser)

-- the server sends messages to the others
pub sent_is : (organiser : List ℕ) (lists : List (List Attendee)) (es : Entries) → AreAttending lists es → IsDistinct same_address (keys_of es) → sent_in organiser es ≡ sent_among organiser lists
unfolding others
sent_is organiser lists es are distinct = sent_and lists es are distinct (others organiser)

-- whom it sends messages to, by what is in memory
pub among_sent : (organiser : List ℕ) (lists : List (List Attendee)) (es : Entries) → AreAttending lists es → (q : List ℕ) → list_any (bytes_eq q) (sent_among organiser lists) ≡ (not (bytes_eq q organiser) && is_sent q es)
unfolding others
among_sent organiser lists es are q = among_passing (others organiser) q (scheduled_among lists) ∙ ap (λ b. others organiser q && b) (among_scheduled lists q ∙ sym (is_sent_is lists es are q))

-- those of them whom a store doesn't reach
unreached : (organiser : List ℕ) (before : List (List Attendee)) (last : Entries) → AreAttending before last → IsDistinct same_address (keys_of last) → (reached : List ℕ → Bool) (to : List (List ℕ))
    → ((q : List ℕ) → (others organiser q && not (reached q)) ≡ (others organiser q && not (list_any (bytes_eq q) to)))
    → picked (λ (e : Entry). (e.1.scheduled && is_no_organiser organiser e.0) && not (reached (octets e))) last ≡ without (sent_among organiser before) to
unfolding others octets
unreached organiser before last was distinct reached to same =
    ap (map octets) (same_filter (λ (e : Entry). (e.1.scheduled && is_no_organiser organiser e.0) && not (reached (octets e))) (λ e. e.1.scheduled && (others organiser (octets e) && not (reached (octets e))))
    (λ e. grouped e.1.scheduled (others organiser (octets e)) (not (reached (octets e)))) last)
    ∙ sent_and before last was distinct (λ q. others organiser q && not (reached q))
    ∙ same_filter (λ q. others organiser q && not (reached q)) (λ q. others organiser q && not (list_any (bytes_eq q) to)) same (scheduled_among before)
    ∙ sym (filter_both (λ q. not (list_any (bytes_eq q) to)) (others organiser) (scheduled_among before))
  where
    grouped : (a b c : Bool) → ((a && b) && c) ≡ (a && (b && c))
    grouped true b c = refl
    grouped false b c = refl

pub gone_is : (called_off : Bool) (organiser : List ℕ) (before lists : List (List Attendee)) (last now : Entries) → AreAttending before last → AreAttending lists now → IsDistinct same_address (keys_of last)
    → gone_in called_off organiser last now ≡ gone_among called_off organiser before lists
unfolding others octets
gone_is true organiser before lists last now was are distinct =
    unreached organiser before last was distinct (λ q. is_sent q now) (sent_among organiser lists)
    (λ q. sym (ap (λ b. others organiser q && not b) (among_sent organiser lists now are q) ∙ once (others organiser q) (is_sent q now)))
  where
    once : (a b : Bool) → (a && not (a && b)) ≡ (a && not b)
    once true b = refl
    once false b = refl
gone_is false organiser before lists last now was are distinct =
    unreached organiser before last was distinct (λ q. is_some (attendance_of q now)) (each_once (flat_map addresses_in lists))
    (λ q. ap (λ b. others organiser q && not b) (known_is lists now q are ∙ sym (among_named lists q)))
