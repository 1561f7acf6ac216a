-- The last store of a meeting, whom its events name, and those whom a later store leaves out. Behind schedules_hold.
use Rattle.std.proofs.Common.{◌≡◌, ◌∙◌, ◌⊎◌, ℕ, ◌<◌, ◌≤◌, Bool, true, false, cond, not, List, [], ◌∷◌, filter, map, Option, Some, inl, inr, refl, sym, ap, subst, arith}
use Rattle.std.specs.Prelude.{Contains}
use Rattle.std.specs.List.{find, list_any}
use Rattle.std.specs.Str.{bytes_eq}
use Rattle.std.proofs.lemmas.Bool.{both_ways, cases_Bool, not-true}
use Rattle.std.proofs.lemmas.Option.{same_Some}
use Rattle.std.proofs.lemmas.Slice.Eq.{bytes_eq-Decides}
use Rattle.profile.specs.events.EventComponents.{Attendee, EventComponent}
use Rattle.profile.specs.organisers.Organisers.{OrganiserBook, Stored, attendees_of, gone_from, is_attendee, last_store, left_to_server, schedules, scheduled_in, sequence_after}
use Rattle.profile.specs.rooms.Kept.{each_once}
use Rattle.profile.specs.rooms.Messages.{names_room}
use Rattle.cal_events.proofs.shared_lemmas.InOneOrder.{head_pairs, in_mapped, of_mapped, tail_pairs}
use Rattle.itip_order.proofs.Lists.{any_at, any_from, filter_at, filter_from, in_cons, in_head, in_tail, none_in_nil}
use Rattle.room_books.proofs.shared_lemmas.Pairs.{flat_at, flat_from}
use Rattle.sched_laws.proofs.law_lemmas.ClaimFacts.{found_among}
use Rattle.sched_laws.proofs.law_lemmas.Invariant.{Rises}

-- ---- the last store

same_octets : (a b : List ℕ) → bytes_eq a b ≡ true → a ≡ b
same_octets a b = (bytes_eq-Decides a b).0

equal_octets : (a b : List ℕ) → a ≡ b → bytes_eq a b ≡ true
equal_octets a b = (bytes_eq-Decides a b).1

pub last_among : (uid : List ℕ) (book : OrganiserBook) (last : Stored) → last_store uid book ≡ Some last → Contains book.stores last × (last.uid ≡ uid)
last_among uid book last e =
    let f = found_among (λ (stored : Stored). bytes_eq stored.uid uid) book.stores last e in
    (f.0, same_octets last.uid uid f.1)

-- each store of that UID is the last one, or of a smaller SEQUENCE
abbrev pub IsLastOr : Stored → Stored → Type 0
IsLastOr last stored = (stored ≡ last) ⊎ (stored.revision.sequence < last.revision.sequence)

record LastOf (uid : List ℕ) (stores : List Stored) (stored : Stored) : Type 0 where
  last : Stored
  is : find (λ (other : Stored). bytes_eq other.uid uid) stores ≡ Some last
  no_later : IsLastOr last stored

last_of : (uid : List ℕ) (stores : List Stored) (stored : Stored) → Rises stores → Contains stores stored → stored.uid ≡ uid → LastOf uid stores stored
last_of uid [] stored rises c own = absurd (none_in_nil stored c)
last_of uid (first ∷ stores) stored rises c own = by (bytes_eq first.uid uid) refl (λ there. last_of uid stores stored (tail_pairs Below first stores rises) there own)
  where
    Below : Stored → Stored → Type 0
    Below later earlier = later.uid ≡ earlier.uid → earlier.revision.sequence < later.revision.sequence

    below : bytes_eq first.uid uid ≡ true → (first ≡ stored) ⊎ Contains stores stored → IsLastOr first stored
    below same (inl here) = inl (sym here)
    below same (inr later) = inr (head_pairs Below first stored stores rises later (same_octets first.uid uid same ∙ sym own))

    behind : bytes_eq first.uid uid ≡ false → (first ≡ stored) ⊎ Contains stores stored → Contains stores stored
    behind other (inl here) = absurd (both_ways _ other (equal_octets first.uid uid (ap (λ (one : Stored). one.uid) here ∙ own)))
    behind other (inr later) = later

    by : (b : Bool) → bytes_eq first.uid uid ≡ b → (Contains stores stored → LastOf uid stores stored) → LastOf uid (first ∷ stores) stored
    by true same later = record {
      last = first;
      is = ap (λ (b : Bool). cond b (Some first) (find (λ (other : Stored). bytes_eq other.uid uid) stores)) same;
      no_later = below same (in_cons first stores stored c);
    }
    by false other later =
        let rest = later (behind other (in_cons first stores stored c)) in
        record {
          last = rest.last;
          is = ap (λ (b : Bool). cond b (Some first) (find (λ (other : Stored). bytes_eq other.uid uid) stores)) other ∙ rest.is;
          no_later = rest.no_later;
        }

pub last_or_less : (uid : List ℕ) (book : OrganiserBook) (last stored : Stored) → Rises book.stores → last_store uid book ≡ Some last
    → Contains book.stores stored → stored.uid ≡ uid → IsLastOr last stored
last_or_less uid book last stored rises is c own =
    let of = last_of uid book.stores stored rises c own in
    subst (λ (one : Stored). IsLastOr one stored) (same_Some of.last last (sym of.is ∙ is)) of.no_later

no_greater : (last stored : Stored) → IsLastOr last stored → stored.revision.sequence ≤ last.revision.sequence
no_greater last stored (inl same) = subst (λ (one : Stored). stored.revision.sequence ≤ one.revision.sequence) same (omega arith)
no_greater last stored (inr less) = omega (arith, less)

above_last : (last : Stored) (events : List EventComponent) (before : ℕ) → before ≤ last.revision.sequence → before < sequence_after (Some last) events
above_last last events before most = omega (arith, most)

-- so the SEQUENCE of a new store is greater than that of each earlier one
pub sequence_rises : (uid : List ℕ) (book : OrganiserBook) (stored : Stored) (events : List EventComponent) → Rises book.stores
    → Contains book.stores stored → stored.uid ≡ uid → stored.revision.sequence < sequence_after (last_store uid book) events
sequence_rises uid book stored events rises c own =
    let of = last_of uid book.stores stored rises c own in
    subst (λ (last : Option Stored). stored.revision.sequence < sequence_after last events) (sym of.is)
    (above_last of.last events stored.revision.sequence (no_greater of.last stored of.no_later))

-- ---- whom events name

each_once_from : (xs : List (List ℕ)) (x : List ℕ) → Contains (each_once xs) x → Contains xs x
each_once_from [] x c = c
each_once_from (y ∷ ys) x c =
    let differs = λ (other : List ℕ). not (bytes_eq y other) in
    elim (in_cons y (filter differs (each_once ys)) x c) [
      | inl here ↦ subst (Contains (y ∷ ys)) here (in_head y ys)
      | inr later ↦ in_tail y ys x (each_once_from ys x (filter_at differs (each_once ys) x later).0)
    ]

each_once_to : (xs : List (List ℕ)) (x : List ℕ) → Contains xs x → Contains (each_once xs) x
each_once_to [] x c = c
each_once_to (y ∷ ys) x c = elim (in_cons y ys x c) [
  | inl here ↦ subst (Contains (each_once (y ∷ ys))) here (in_head y others)
  | inr later ↦ by (bytes_eq y x) refl (each_once_to ys x later)
]
  where
    others : List (List ℕ)
    others = filter (λ other. not (bytes_eq y other)) (each_once ys)

    by : (b : Bool) → bytes_eq y x ≡ b → Contains (each_once ys) x → Contains (each_once (y ∷ ys)) x
    by true same there = subst (Contains (each_once (y ∷ ys))) (same_octets y x same) (in_head y others)
    by false differ there = in_tail y others x (filter_from (λ other. not (bytes_eq y other)) (each_once ys) x there (ap not differ))

-- a line of one of the events has the address
pub record IsNamedIn (events : List EventComponent) (address : List ℕ) : Type 0 where
  pub event : EventComponent
  pub among : Contains events event
  pub attendee : Attendee
  pub line : Contains event.attendees attendee
  pub is : attendee.address ≡ address

pub scheduled_named : (organiser : List ℕ) (events : List EventComponent) (address : List ℕ) → Contains (scheduled_in organiser events) address → IsNamedIn events address
scheduled_named organiser events address c =
    let left = filter_at (λ other. not (bytes_eq other organiser)) (left_to_server events) address c in
    let all = filter_at (λ other. list_any (schedules other) events) (attendees_of events) address left.0 in
    let (event, among, there) = flat_at (λ (e : EventComponent). map (λ attendee. attendee.address) e.attendees) events address (each_once_from _ address all.0) in
    let (attendee, line, is) = of_mapped (λ (a : Attendee). a.address) event.attendees address there in
    record { event = event; among = among; attendee = attendee; line = line; is = is }

named_listed : (events : List EventComponent) (address : List ℕ) → is_attendee address events ≡ true → Contains (attendees_of events) address
named_listed events address named =
    let (event, among, by_line) = any_at (names_room address) events named in
    let (attendee, line, is) = any_at (λ (a : Attendee). bytes_eq a.address address) event.attendees by_line in
    let there = subst (Contains (map (λ (a : Attendee). a.address) event.attendees)) (same_octets attendee.address address is)
    (in_mapped (λ (a : Attendee). a.address) event.attendees attendee line) in
    each_once_to _ address (flat_from (λ (e : EventComponent). map (λ attendee. attendee.address) e.attendees) events event address among there)

-- ---- whom a store leaves out

-- who is left out was sent messages before,
pub gone_scheduled : (b : Bool) (organiser : List ℕ) (earlier now : List EventComponent) (address : List ℕ)
    → Contains (gone_from b organiser earlier now) address → Contains (scheduled_in organiser earlier) address
gone_scheduled true organiser earlier now address c =
    (filter_at (λ other. not (list_any (bytes_eq other) (scheduled_in organiser now))) (scheduled_in organiser earlier) address c).0
gone_scheduled false organiser earlier now address c =
    (filter_at (λ other. not (list_any (bytes_eq other) (attendees_of now))) (scheduled_in organiser earlier) address c).0

-- and isn't named now, where the meeting isn't called off
pub gone_unnamed : (organiser : List ℕ) (earlier now : List EventComponent) (address : List ℕ)
    → Contains (gone_from false organiser earlier now) address → is_attendee address now ≡ false
gone_unnamed organiser earlier now address c =
    let test = λ (other : List ℕ). not (list_any (bytes_eq other) (attendees_of now)) in
    let none = not-true _ (filter_at test (scheduled_in organiser earlier) address c).1 in
    elim (cases_Bool (is_attendee address now)) [
      | inl named ↦ absurd (both_ways _ none (any_from (bytes_eq address) (attendees_of now) address (named_listed now address named) (equal_octets address address refl)))
      | inr unnamed ↦ unnamed
    ]
