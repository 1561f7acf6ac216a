-- What a room keeps: each entry of another meeting or slot, and they claim what the book confirms.
-- Behind kept_texts_pass, kept_texts_spell, served_texts_pass.
use Rattle.std.proofs.Common.{◌≡◌, ◌≢◌, ◌∙◌, true, List, [], ◌∷◌, ◌++◌, filter, map, refl, sym, ap, subst, inl, inr}
use Rattle.std.specs.Prelude.{AllPairs}
use Rattle.std.specs.declared.cmp.Ordering.TheVariants.{Less, Equal}
use Rattle.std.specs.Ordering.{is_eq, ordering_then}
use Rattle.std.specs.List.{Contains, flat_map, AllZip}
use Rattle.std.proofs.lemmas.Bool.{both_ways}
use Rattle.std.proofs.lemmas.Cmp.{tied_itself}
use Rattle.std.proofs.lemmas.Map.Lookups.{exact_bytes}
use Rattle.profile.specs.rooms.Revisions.{Part, Slot, meeting_cmp, octets_cmp, slot_cmp, same_meeting, same_place}
use Rattle.profile.specs.rooms.Rooms.{Claim, PartAnswer, Book, is_confirmed}
use Rattle.profile.specs.rooms.Kept.{KeptComponent, Shown, Hidden, part_kept, IsKeptComponent, AreKeptOf, AreKept, first_parts}
use Rattle.cal_events.proofs.shared_lemmas.InOneOrder.{head_pairs, tail_pairs}
use Rattle.itip_order.proofs.Lists.{in_cons, in_head, none_in_nil, filter_at, filter_from}
use Rattle.itip_order.proofs.Order.{is_eq_true, then_equal, slot_total, place_total}
use Rattle.room_books.specs.Slots.{Reordered}
use Rattle.room_books.specs.Room.{Pairwise}
use Rattle.room_books.proofs.shared_lemmas.AcceptedSlots.{slot_same}
use Rattle.room_books.proofs.laws_lemmas.KeptMeetings.{Apart, firsts_apart, firsts_cover, meeting_sym, meeting_trans}
use Rattle.room_books.proofs.shared_lemmas.Loops.{zip_from, zip_to}
use Rattle.room_books.proofs.laws_lemmas.Members.{same_members}
use Rattle.room_books.proofs.shared_lemmas.Pairs.{flat_at, flat_from, map_at, map_from, pairs_append, pairs_filter, pairs_map}
use Rattle.room_books.proofs.shared_lemmas.SlotsApart.{OtherPart}

-- ---- places

-- parts of one place have one organiser, one UID and one slot
pub record SamePlace (p q : Part) : Type 0 where
  pub organiser : p.organiser ≡ q.organiser
  pub uid : p.uid ≡ q.uid
  pub slot : p.slot ≡ q.slot

pub meeting_there : (p q : Part) → same_meeting p q ≡ true → (p.organiser ≡ q.organiser) × (p.uid ≡ q.uid)
meeting_there p q e =
    let both = then_equal (octets_cmp p.organiser q.organiser) (octets_cmp p.uid q.uid) (is_eq_true _ e) in
    (exact_bytes p.organiser q.organiser both.0, exact_bytes p.uid q.uid both.1)

pub place_there : (p q : Part) → same_place p q ≡ true → SamePlace p q
place_there p q e =
    let both = then_equal (meeting_cmp p q) (slot_cmp p.slot q.slot) (is_eq_true _ e) in
    let m = meeting_there p q (ap is_eq both.0) in
    record { organiser = m.0; uid = m.1; slot = slot_same p.slot q.slot (ap is_eq both.1) }

pub place_from : (p q : Part) → SamePlace p q → same_place p q ≡ true
place_from p q s =
    (λ i. is_eq (ordering_then (ordering_then (octets_cmp (s.organiser i) q.organiser) (octets_cmp (s.uid i) q.uid)) (slot_cmp (s.slot i) q.slot))) ∙ ap is_eq (tied_itself place_total q)

pub meeting_from : (p q : Part) → p.organiser ≡ q.organiser → p.uid ≡ q.uid → same_meeting p q ≡ true
meeting_from p q o u = (λ i. is_eq (ordering_then (octets_cmp (o i) q.organiser) (octets_cmp (u i) q.uid))) ∙ same_itself_meeting q
  where
    same_itself_meeting : (q : Part) → same_meeting q q ≡ true
    same_itself_meeting q = ap is_eq (then_equal (meeting_cmp q q) (slot_cmp q.slot q.slot) (tied_itself place_total q)).0

-- ---- each entry is of another place

abbrev pub EntriesDiffer : KeptComponent → KeptComponent → Type 0
EntriesDiffer a b = SamePlace (part_kept a) (part_kept b) → ⊥

not_less : (o : Slot) → slot_cmp o o ≡ Less → ⊥
not_less o l = let e = tied_itself slot_total o in let x : Less ≡ Equal = sym l ∙ e in cc

in_order : (es : List KeptComponent) → AllPairs (λ a b. slot_cmp (part_kept a).slot (part_kept b).slot ≡ Less) es → Pairwise EntriesDiffer es
in_order [] up = tt
in_order (e ∷ es) up = (
  λ x c s.
      let less = head_pairs (λ a b. slot_cmp (part_kept a).slot (part_kept b).slot ≡ Less) e x es up c in
      not_less (part_kept x).slot (subst (λ (o : Slot). slot_cmp o (part_kept x).slot ≡ Less) s.slot less),
  in_order es (tail_pairs (λ a b. slot_cmp (part_kept a).slot (part_kept b).slot ≡ Less) e es up),
)

-- an entry is of the meeting whose first part that is
pub of_first : (book : Book) (first : Part) (entry : KeptComponent) → IsKeptComponent book first entry → same_meeting first (part_kept entry) ≡ true
of_first book first (Shown claim) k = k.of_meeting
of_first book first (Hidden part) k = k.of_meeting

meetings_apart : (book : Book) (firsts : List Part) (by : List (List KeptComponent)) → Pairwise Apart firsts → AllZip (AreKeptOf book) firsts by → Pairwise EntriesDiffer (flat_map (λ c. c) by)
meetings_apart book [] [] d z = tt
meetings_apart book [] (b ∷ by) d z = absurd z
meetings_apart book (p ∷ ps) [] d z = absurd z
meetings_apart book (p ∷ ps) (es ∷ by) d z =
    pairs_append EntriesDiffer es (flat_map (λ c. c) by) (in_order es z.0.order) (meetings_apart book ps by d.1 z.1)
    (λ x y c k s.
    let found = flat_at (λ c. c) by y k in
    let q = zip_from (AreKeptOf book) ps by found.0 z.1 found.1 in
    let of_p = of_first book p x ((z.0.exact x).0 c) in
    let of_q = of_first book q.0 y ((q.2.exact y).0 found.2) in
    both_ways _ (d.0 q.0 q.1) (meeting_trans p (part_kept y) q.0 (meeting_trans p (part_kept x) (part_kept y) of_p (meeting_from (part_kept x) (part_kept y) s.organiser s.uid)) (meeting_sym q.0 (part_kept y) of_q)))

pub entries_differ : (book : Book) (entries : List KeptComponent) → AreKept book entries → Pairwise EntriesDiffer entries
entries_differ book entries k = subst (Pairwise EntriesDiffer) (sym k.are) (meetings_apart book (first_parts book.taken) k.by_meeting (firsts_apart book.taken) k.each)

-- ---- which entries there are

-- an entry of a first part's meeting, beside which all others of it are
pub record Placed (book : Book) (entries : List KeptComponent) (entry : KeptComponent) : Type 0 where
  pub first : Part
  pub is : IsKeptComponent book first entry
  pub all : (other : KeptComponent) → IsKeptComponent book first other → Contains entries other

pub entry_placed : (book : Book) (entries : List KeptComponent) → AreKept book entries → (entry : KeptComponent) → Contains entries entry → Placed book entries entry
entry_placed book entries k entry c =
    let found = flat_at (λ c. c) k.by_meeting entry (subst (λ (l : List KeptComponent). Contains l entry) k.are c) in
    let p = zip_from (AreKeptOf book) (first_parts book.taken) k.by_meeting found.0 k.each found.1 in
    record {
      first = p.0;
      is = (p.2.exact entry).0 found.2;
      all = λ other h. subst (λ (l : List KeptComponent). Contains l other) (sym k.are) (flat_from (λ c. c) k.by_meeting found.0 other found.1 ((p.2.exact other).1 h));
    }

-- each confirmed answer is shown
pub answer_kept : (book : Book) (entries : List KeptComponent) → AreKept book entries → (a : PartAnswer) → Contains book.answers a → Contains book.taken a.claim.part → is_confirmed book.taken a ≡ true → Contains entries (Shown a.claim)
answer_kept book entries k a c known h =
    let first = firsts_cover book.taken a.claim.part known in
    let es = zip_to (AreKeptOf book) (first_parts book.taken) k.by_meeting first.0 k.each first.1 in
    let own : Contains es.0 (Shown a.claim) = (es.2.exact (Shown a.claim)).1 (record { of_meeting = first.2; answer = a; given = c; to = refl; confirms = h }) in
    subst (λ (l : List KeptComponent). Contains l (Shown a.claim)) (sym k.are) (flat_from (λ c. c) k.by_meeting es.0 (Shown a.claim) es.1 own)

-- ---- what they claim

-- the claim of an entry that is shown
abbrev pub claim_kept : KeptComponent → List Claim
claim_kept (Shown claim) = claim ∷ []
claim_kept (Hidden part) = []

abbrev pub claims_kept : List KeptComponent → List Claim
claims_kept entries = flat_map claim_kept entries

-- the claims that the book confirms
abbrev pub claims_confirmed : Book → List Claim
claims_confirmed book = map (λ (a : PartAnswer). a.claim) (filter (is_confirmed book.taken) book.answers)

pub shown_from : (entries : List KeptComponent) (claim : Claim) → Contains entries (Shown claim) → Contains (claims_kept entries) claim
shown_from entries claim c = flat_from claim_kept entries (Shown claim) claim c (in_head claim [])

pub shown_at : (entries : List KeptComponent) (claim : Claim) → Contains (claims_kept entries) claim → Contains entries (Shown claim)
shown_at entries claim c = let found = flat_at claim_kept entries claim c in of_entry found.0 found.1 found.2
  where
    of_entry : (e : KeptComponent) → Contains entries e → Contains (claim_kept e) claim → Contains entries (Shown claim)
    of_entry (Shown other) k c = elim (in_cons other [] claim c) [ inl here ↦ subst (λ (x : Claim). Contains entries (Shown x)) here k | inr none ↦ absurd (none_in_nil claim none) ]
    of_entry (Hidden part) k c = absurd (none_in_nil claim c)

places : {p q : Part} → p ≡ q → SamePlace p q
places e = record { organiser = ap (λ (x : Part). x.organiser) e; uid = ap (λ (x : Part). x.uid) e; slot = ap (λ (x : Part). x.slot) e }

-- none is claimed twice
kept_once : (entries : List KeptComponent) → Pairwise EntriesDiffer entries → Pairwise ◌≢◌ (claims_kept entries)
kept_once [] d = tt
kept_once (Shown claim ∷ entries) d = (
  λ other c same. d.0 (Shown other) (shown_at entries other c) (places (ap (λ (x : Claim). x.part) same)),
  kept_once entries d.1,
)
kept_once (Hidden part ∷ entries) d = kept_once entries d.1

apart_claims : (xs : List PartAnswer) → Pairwise OtherPart xs → Pairwise (λ a b. a.claim ≢ b.claim) xs
apart_claims [] p = tt
apart_claims (a ∷ xs) p = (λ b c same. p.0 b c (ap (λ (x : Claim). x.part) same), apart_claims xs p.1)

confirmed_once : (book : Book) → Pairwise OtherPart book.answers → Pairwise ◌≢◌ (claims_confirmed book)
confirmed_once book once =
    let xs = filter (is_confirmed book.taken) book.answers in
    pairs_map ◌≢◌ (λ (a : PartAnswer). a.claim) xs (apart_claims xs (pairs_filter OtherPart (is_confirmed book.taken) book.answers once))

-- the entries claim what the book confirms, in another order
pub claims_same : (book : Book) (entries : List KeptComponent) → AreKept book entries → ((a : PartAnswer) → Contains book.answers a → Contains book.taken a.claim.part) → Pairwise OtherPart book.answers
    → Reordered (claims_kept entries) (claims_confirmed book)
claims_same book entries are known once =
    same_members (claims_kept entries) (claims_confirmed book) (kept_once entries (entries_differ book entries are)) (confirmed_once book once)
    (λ claim c.
    let p = (entry_placed book entries are (Shown claim) (shown_at entries claim c)).is in
    subst (λ (x : Claim). Contains (claims_confirmed book) x) p.to
    (map_from (λ (a : PartAnswer). a.claim) (filter (is_confirmed book.taken) book.answers) p.answer (filter_from (is_confirmed book.taken) book.answers p.answer p.given p.confirms)))
    (λ claim c.
    let found = map_at (λ (a : PartAnswer). a.claim) (filter (is_confirmed book.taken) book.answers) claim c in
    let from = filter_at (is_confirmed book.taken) book.answers found.0 found.1 in
    subst (λ (x : Claim). Contains (claims_kept entries) x) found.2
    (shown_from entries found.0.claim (answer_kept book entries are found.0 from.0 (known found.0 from.0) from.1)))

-- what the answers to some claims give
pub of_claims : {X : Type 0} (f : Claim → List X) (xs : List PartAnswer) → flat_map f (map (λ (a : PartAnswer). a.claim) xs) ≡ flat_map (λ (a : PartAnswer). f a.claim) xs
of_claims f [] = refl
of_claims f (a ∷ xs) = ap (λ l. f a.claim ++ l) (of_claims f xs)
