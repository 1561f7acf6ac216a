-- All meetings of an organiser, by the octets of their UIDs.
use Rattle.std.proofs.Common.{◌≡◌, ◌≢◌, ◌∙◌, ℕ, ℤ, zero, suc, ◌+◌, ◌<◌, ◌≤◌, Bool, true, false, cond, List, [], ◌∷◌, ◌++◌, length, map, option_map, take, get_or, Option, None, Some, Ordering, refl, sym, ap, subst, inl, inr, arith, append_assoc, append-nil}
use denote.Ref.{Bor}
use Rattle.std.specs.Prelude.{AllPairs, Contains, find}
use Rattle.std.specs.List.{AllZip, AllByRecursion, IsDistinct, concat}
use Rattle.std.specs.List.Sorted.{IsPermutation, IsSortedBy, IsSortedByKey}
use Rattle.std.specs.Map.{keys_of, lookup}
use Rattle.std.specs.Ordering.{is_lt, is_eq, nat_cmp, ordering_reverse}
use Rattle.std.specs.Cmp.Lexicographic.{slice_cmp}
use Rattle.std.specs.Str.{bytes_eq}
use Rattle.std.specs.declared.cmp.Ordering.TheVariants.{Less, Equal, Greater}
use Rattle.std.proofs.lemmas.Bool.{cases_order, true≢false}
use Rattle.std.proofs.lemmas.Cmp.{nat_list_cmp_total}
use Rattle.std.proofs.lemmas.List.{get_or-map, length-map, map-append, take_more, take_all}
use Rattle.std.proofs.lemmas.List.Sorted.{sorted_far, ranks_by, Contains-permutation, IsPermutation-map, IsPermutation-sym}
use Rattle.std.proofs.lemmas.Map.Made.{AllPairs-from_IsDistinct}
use Rattle.std.proofs.lemmas.Map.Text.{is_eq-slice_cmp}
use Rattle.std.proofs.lemmas.Slice.Eq.{bytes_eq-Decides}
use Rattle.indexmap.specs.IndexMap.{get}
use Rattle.cal_events.proofs.shared_lemmas.Distinct.{Distinct, distinct_permutation}
use Rattle.cal_events.proofs.shared_lemmas.InOneOrder.{first_or_later, later, none_in}
use Rattle.ical_values.specs.Octets.{text_octets}
use Rattle.ical_values.specs.declared.text.Text.{Text}
use Rattle.profile.specs.events.Messages.{Message}
use Rattle.profile.specs.organisers.Organisers.{OrganiserBook, Stored, Sent, AreStored, IsShown, IsStore, ShowsMeetings, last_store}
use Rattle.organiser_books.specs.declared.meeting.StoredMeeting.{StoredMeeting}
use Rattle.organiser_books.specs.declared.organiser.Organiser.{Organiser}
use Rattle.organiser_books.specs.Representation.{AreTexts, Keeps, RepresentsAt, address_of, same_text}
use Rattle.organiser_books.specs.Showing.{AreUids, ShowsLast, octets_at}
use Rattle.organiser_books.proofs.Books.{represented_known, represented_unknown, stored_own}
use Rattle.organiser_books.proofs.Lines.{same_is, same_itself}
use Rattle.organiser_books.proofs.Loops.{walked}
use Rattle.std.proofs.lemmas.Simd.{map-map}

-- ---- stores

-- what a store adds has a text as its UID
pub stored_texts : (moment : ℤ) (said : Message) (before after : OrganiserBook) (sent : List Sent) → IsStore moment said before sent after → (uid : Text) → text_octets uid ≡ said.uid
    → AreTexts before.stores → AreTexts after.stores
stored_texts moment said before after sent is uid own texts =
    subst (λ (b : OrganiserBook). AreTexts b.stores) (sym is.kept) (λ stored among. elim (first_or_later is.stored stored before.stores among) [
      | inl same ↦ (uid, own ∙ sym is.of_meeting ∙ ap (λ (s : Stored). s.uid) same)
      | inr old ↦ texts stored old
    ])

some_is : {X : Type 0} (a b : X) → Some a ≡ Some b → a ≡ b
some_is a b e = cc

none_some : {X : Type 0} (a : X) → None ≡ Some a → ⊥
none_some a e = absurd (cc)

-- what is found is among them
found_among : (test : Stored → Bool) (stores : List Stored) (stored : Stored) → find test stores ≡ Some stored → Contains stores stored
found_among test [] stored e = absurd (none_some stored e)
found_among test (s ∷ ss) stored e = by (test s) e (found_among test ss stored)
  where
    by : (b : Bool) → cond b (Some s) (find test ss) ≡ Some stored → (find test ss ≡ Some stored → Contains ss stored) → Contains (s ∷ ss) stored
    by true g behind = (zero, omega arith, some_is s stored g)
    by false g behind = later s stored ss (behind g)

-- a UID of one of them is found
last_is_some : (stores : List Stored) (stored : Stored) → Contains stores stored → find (λ (s : Stored). bytes_eq s.uid stored.uid) stores ≡ None → ⊥
last_is_some [] stored among e = none_in stored among
last_is_some (s ∷ ss) stored among e = by (bytes_eq s.uid stored.uid) refl e (last_is_some ss stored)
  where
    by : (b : Bool) → bytes_eq s.uid stored.uid ≡ b → cond b (Some s) (find (λ (x : Stored). bytes_eq x.uid stored.uid) ss) ≡ None
        → (Contains ss stored → find (λ (x : Stored). bytes_eq x.uid stored.uid) ss ≡ None → ⊥) → ⊥
    by true f g behind = none_some s (sym g)
    by false f g behind = elim (first_or_later s stored ss among) [
      | inl same ↦ true≢false (sym (same_itself stored.uid) ∙ ap (λ (x : Stored). bytes_eq x.uid stored.uid) (sym same) ∙ f)
      | inr c ↦ behind c g
    ]

-- ---- keys

module _ {X : Type 0} where
  -- what is looked up is at a key that passes
  key_found : (test : Text → Bool) (es : List (Text × X)) (x : X) → lookup test es ≡ Some x → (key : Text) × Contains (keys_of es) key × (test key ≡ true)
  key_found test [] x e = absurd (none_some x e)
  key_found test (entry ∷ es) x e = by (test entry.0) refl e (key_found test es x)
    where
      by : (b : Bool) → test entry.0 ≡ b → cond b (Some entry.1) (lookup test es) ≡ Some x
          → (lookup test es ≡ Some x → (key : Text) × Contains (keys_of es) key × (test key ≡ true)) → (key : Text) × Contains (entry.0 ∷ keys_of es) key × (test key ≡ true)
      by true f g behind = (entry.0, (zero, omega arith, refl), f)
      by false f g behind = let (key, among, passes) = behind g in (key, later entry.0 key (keys_of es) among, passes)

  -- at a key something is found
  found_at_key : (q : Text) (es : List (Text × X)) → Contains (keys_of es) q → lookup (same_text q) es ≡ None → ⊥
  found_at_key q [] among e = none_in q among
  found_at_key q (entry ∷ es) among e = by (same_text q entry.0) refl e (found_at_key q es)
    where
      by : (b : Bool) → same_text q entry.0 ≡ b → cond b (Some entry.1) (lookup (same_text q) es) ≡ None → (Contains (keys_of es) q → lookup (same_text q) es ≡ None → ⊥) → ⊥
      by true f g behind = none_some entry.1 (sym g)
      by false f g behind = elim (first_or_later entry.0 q (keys_of es) among) [
        | inl same ↦ true≢false (sym (same_itself (text_octets q)) ∙ ap (λ (t : Text). bytes_eq (text_octets q) (text_octets t)) (sym same) ∙ f)
        | inr c ↦ behind c g
      ]

octets_among : (ks : List Text) (k : Text) → Contains ks k → Contains (map text_octets ks) (text_octets k)
octets_among [] k c = absurd (none_in k c)
octets_among (x ∷ xs) k c = elim (first_or_later x k xs c) [
  | inl same ↦ (zero, omega arith, ap text_octets same)
  | inr d ↦ later (text_octets x) (text_octets k) (map text_octets xs) (octets_among xs k d)
]

key_of_octets : (ks : List Text) (uid : List ℕ) → Contains (map text_octets ks) uid → (k : Text) × Contains ks k × (text_octets k ≡ uid)
key_of_octets [] uid c = absurd (none_in uid c)
key_of_octets (x ∷ xs) uid c = elim (first_or_later (text_octets x) uid (map text_octets xs) c) [
  | inl same ↦ (x, (zero, omega arith, refl), same)
  | inr d ↦ let (k, among, is) = key_of_octets xs uid d in (k, later x k xs among, is)
]

-- no two keys have the same octets
octets_apart : (k : Text) (ks : List Text) → AllByRecursion (λ y. same_text k y ≡ false) ks → AllByRecursion (λ y. bytes_eq (text_octets k) y ≡ false) (map text_octets ks)
octets_apart k [] all = tt
octets_apart k (x ∷ xs) all = (all.0, octets_apart k xs all.1)

octets_distinct : (ks : List Text) → IsDistinct same_text ks → IsDistinct bytes_eq (map text_octets ks)
unfolding IsDistinct
octets_distinct [] d = tt
octets_distinct (k ∷ ks) d = (octets_apart k ks d.0, octets_distinct ks d.1)

-- ---- in order

Differ : List ℕ → List ℕ → Type 0
Differ a b = a ≢ b

-- of two that differ one comes first
comes_first : (a b : List ℕ) → a ≢ b → is_lt (slice_cmp nat_cmp b a) ≡ false → slice_cmp nat_cmp a b ≡ Less
comes_first a b differ not = go (slice_cmp nat_cmp a b) refl
  where
    go : (r : Ordering) → slice_cmp nat_cmp a b ≡ r → r ≡ Less
    go Less e = refl
    go Equal e = absurd (differ (same_is a b (sym (is_eq-slice_cmp a b) ∙ ap is_eq e)))
    go Greater e = absurd (true≢false (sym (ap is_lt (nat_list_cmp_total.antisymm b a ∙ ap ordering_reverse e)) ∙ not))

octets_rise : (uids : List (Bor Text)) → IsSortedByKey octets_at (slice_cmp nat_cmp) uids → IsSortedBy (λ a b. is_lt (slice_cmp nat_cmp a b)) (map octets_at uids)
octets_rise uids up k d z w =
    let l : k + 1 < length uids = omega (arith, length-map uids octets_at) in
    let p = some_of uids (omega arith) in
    rw (get_or-map octets_at uids k p d (omega arith), get_or-map octets_at uids (k + 1) p d l) (up k p z l)
  where
    some_of : (us : List (Bor Text)) → 0 < length us → Bor Text
    some_of [] h = absurd (omega arith)
    some_of (u ∷ us) h = u

pub in_order : (ks : List Text) (uids : List (Bor Text)) → IsDistinct same_text ks → IsPermutation (map text_octets ks) (map octets_at uids)
    → IsSortedByKey octets_at (slice_cmp nat_cmp) uids → AllPairs (λ a b. slice_cmp nat_cmp a b ≡ Less) (map octets_at uids)
unfolding Differ
in_order ks uids distinct same up i j d less within =
    let xs = map text_octets ks in
    let ys = map octets_at uids in
    let pairs : AllPairs Differ xs = AllPairs-from_IsDistinct bytes_eq-Decides xs (octets_distinct ks distinct) in
    let each : Distinct Differ xs = λ a b e la lb ne eq. elim (cases_order a b) [
      | inl equal ↦ ne equal
      | inr w ↦ elim w [ inl lt ↦ pairs a b e lt lb eq | inr lt ↦ pairs b a e lt la (sym eq) ]
    ] in
    let turned : Distinct Differ ys = distinct_permutation Differ xs ys same each in
    comes_first (get_or ys i d) (get_or ys j d) (turned i j d (omega (arith, less, within)) within (λ e. omega (arith, less, e)))
    (sorted_far (λ a b. is_lt (slice_cmp nat_cmp a b)) (ranks_by nat_list_cmp_total (λ (a : List ℕ). a)) ys (octets_rise uids up) i j d (omega (arith, less)) within)

-- ---- all of them

module _ (organiser : Organiser) (book : OrganiserBook) (keeps : Keeps organiser book) where
  abbrev keys : List Text
  keys = keys_of organiser.meetings.entries

  -- the last store of a key
  last_of_key : (k : Text) → Contains keys k → (stored : Stored) × (last_store (text_octets k) book ≡ Some stored)
  last_of_key k among = by (get same_text organiser.meetings k) refl
    where
      by : (o : Option StoredMeeting) → get same_text organiser.meetings k ≡ o → (stored : Stored) × (last_store (text_octets k) book ≡ Some stored)
      by None e = absurd (found_at_key k organiser.meetings.entries among e)
      by (Some m) e =
          let known = represented_known book (text_octets k) m (last_store (text_octets k) book)
          (subst (λ (o : Option StoredMeeting). RepresentsAt book (text_octets k) o (last_store (text_octets k) book)) e (keeps.each k)) in
          (known.0, known.1)

  pub last_of : (uid : List ℕ) → Contains (map text_octets keys) uid → (stored : Stored) × (last_store uid book ≡ Some stored)
  last_of uid among =
      let (k, of_keys, is) = key_of_octets keys uid among in
      subst (λ (u : List ℕ). (stored : Stored) × (last_store u book ≡ Some stored)) is (last_of_key k of_keys)

  -- the UID of a store is a key
  key_of_store : (stored : Stored) → Contains book.stores stored → Contains (map text_octets keys) stored.uid
  key_of_store stored among = by (get same_text organiser.meetings uid) refl
    where
      uid : Text
      uid = (keeps.texts stored among).0

      own : text_octets uid ≡ stored.uid
      own = (keeps.texts stored among).1

      by : (o : Option StoredMeeting) → get same_text organiser.meetings uid ≡ o → Contains (map text_octets keys) stored.uid
      by None e =
          let none = represented_unknown book (text_octets uid) (last_store (text_octets uid) book)
          (subst (λ (o : Option StoredMeeting). RepresentsAt book (text_octets uid) o (last_store (text_octets uid) book)) e (keeps.each uid)) in
          absurd (last_is_some book.stores stored among (subst (λ (u : List ℕ). last_store u book ≡ None) own none))
      by (Some m) e =
          let (k, of_keys, same) = key_found (same_text uid) organiser.meetings.entries m e in
          subst (Contains (map text_octets keys)) (sym (same_is (text_octets uid) (text_octets k) same) ∙ own) (octets_among keys k of_keys)

  pub are_stored : (uids : List (Bor Text)) → AreUids organiser uids → AreStored book (map octets_at uids)
  are_stored uids are =
      let xs = map text_octets keys in
      let ys = map octets_at uids in record {
        all = λ stored among. Contains-permutation xs ys stored.uid are.same (key_of_store stored among);
        only = λ uid among.
            let (stored, last) = last_of uid (Contains-permutation ys xs uid (IsPermutation-sym xs ys are.same) among) in
            (stored, found_among (λ (s : Stored). bytes_eq s.uid uid) book.stores stored last, stored_own uid book.stores stored last);
        ordered = are.ordered;
      }

-- ---- texts one after another

-- the texts so far, in whatever book is kept
pub record AreShown (organiser : Organiser) (uids : List (List ℕ)) (octets : List ℕ) : Type 0 where
  pub texts : List (List ℕ)
  pub each : (book : OrganiserBook) → Keeps organiser book → AllZip (λ uid text. IsShown (address_of organiser) book uid (Some text)) uids texts
  pub is : octets ≡ concat texts

concat_more : (texts : List (List ℕ)) (text : List ℕ) → concat (texts ++ text ∷ []) ≡ concat texts ++ text
concat_more [] text = append-nil text
concat_more (t ∷ ts) text = ap (λ l. t ++ l) (concat_more ts text) ∙ sym (append_assoc t (concat ts) text)

zip_more : (R : List ℕ → List ℕ → Type 0) (xs ys : List (List ℕ)) (x y : List ℕ) → AllZip R xs ys → R x y → AllZip R (xs ++ x ∷ []) (ys ++ y ∷ [])
zip_more R [] [] x y all is = (is, tt)
zip_more R [] (b ∷ bs) x y all is = absurd all
zip_more R (a ∷ others) [] x y all is = absurd all
zip_more R (a ∷ others) (b ∷ bs) x y all is = (all.0, zip_more R others bs x y all.1 is)

pub none_shown : (organiser : Organiser) (octets : List ℕ) → octets ≡ [] → AreShown organiser [] octets
none_shown organiser octets e = record { texts = []; each = λ book keeps. tt; is = e }

pub one_more_shown : (organiser : Organiser) (uids : List (Bor Text)) → AreUids organiser uids → (k : ℕ) (d : Bor Text) (now new more : List ℕ) → k < length uids
    → AreShown organiser (map octets_at (take k uids)) now → ShowsLast organiser (octets_at (get_or uids k d)) more → new ≡ now ++ more → AreShown organiser (map octets_at (take (k + 1) uids)) new
one_more_shown organiser uids are k d now new more w so_far shows grown =
    let uid = octets_at (get_or uids k d) in
    let xs = map text_octets (keys_of organiser.meetings.entries) in
    let ys = map octets_at uids in
    let step : map octets_at (take (k + 1) uids) ≡ map octets_at (take k uids) ++ uid ∷ [] = ap (map octets_at) (take_more uids k d w) ∙ map-append octets_at (take k uids) (get_or uids k d ∷ []) in
    let among : Contains ys uid = (k, omega (arith, w, length-map uids octets_at), get_or-map octets_at uids k d _ w) in
    subst (λ (l : List (List ℕ)). AreShown organiser l new) (sym step) (record {
      texts = so_far.texts ++ more ∷ [];
      each = λ book keeps.
          let (stored, last) = last_of organiser book keeps uid (Contains-permutation ys xs uid (IsPermutation-sym xs ys are.same) among) in
          zip_more (λ u t. IsShown (address_of organiser) book u (Some t)) (map octets_at (take k uids)) so_far.texts uid more (so_far.each book keeps) (shows book keeps stored last);
      is = grown ∙ ap (λ t. t ++ more) so_far.is ∙ sym (concat_more so_far.texts more);
    })

pub all_shown : (organiser : Organiser) (uids : List (Bor Text)) → AreUids organiser uids → (k : ℕ) (octets : List ℕ) → length uids ≤ k → AreShown organiser (map octets_at (take k uids)) octets
    → (book : OrganiserBook) → Keeps organiser book → ShowsMeetings (address_of organiser) book octets
all_shown organiser uids are k octets w so_far book keeps = record {
  uids = map octets_at uids;
  texts = so_far.texts;
  are = are_stored organiser book keeps uids are;
  each = subst (λ (l : List (Bor Text)). AllZip (λ uid text. IsShown (address_of organiser) book uid (Some text)) (map octets_at l) so_far.texts) (take_all k uids w) (so_far.each book keeps);
  is = so_far.is;
}

-- ---- one text

-- where no text is shown, nothing is stored
pub shown_nothing : {V : Type 0} (items : V → List ℕ) (address : List ℕ) (book : OrganiserBook) (uid : List ℕ) (shown : Option V) (stored : Stored) → ((x : V) → shown ≡ Some x → ⊥)
    → IsShown address book uid (option_map items shown) → last_store uid book ≡ Some stored → ⊥
shown_nothing items address book uid None stored never is last = none_some stored (sym is ∙ last)
shown_nothing items address book uid (Some x) stored never is last = never x refl

-- ---- UIDs

pub are_uids : (organiser : Organiser) (before now : List (Bor Text)) → map (λ (u : Bor Text). u.now) before ≡ keys_of organiser.meetings.entries → IsDistinct same_text (keys_of organiser.meetings.entries)
    → IsPermutation before now → IsSortedByKey octets_at (slice_cmp nat_cmp) now → AreUids organiser now
are_uids organiser before now all distinct moved up =
    let ks = keys_of organiser.meetings.entries in
    let octets : map octets_at before ≡ map text_octets ks = sym (map-map text_octets (λ (u : Bor Text). u.now) before) ∙ ap (map text_octets) all in
    let same : IsPermutation (map text_octets ks) (map octets_at now) = subst (λ (l : List (List ℕ)). IsPermutation l (map octets_at now)) octets (IsPermutation-map octets_at before now moved) in
    record { same = same; ordered = in_order ks now distinct same up }

-- one key more
pub one_more_key : (before now : List (Bor Text)) (left rest all : List Text) (uid : Bor Text) → now ≡ before ++ uid ∷ [] → left ≡ uid.now ∷ rest
    → map (λ (u : Bor Text). u.now) before ++ left ≡ all → map (λ (u : Bor Text). u.now) now ++ rest ≡ all
one_more_key before now left rest all uid is e h =
    ap (λ (l : List (Bor Text)). map (λ (u : Bor Text). u.now) l ++ rest) is ∙ ap (λ (l : List Text). l ++ rest) (map-append (λ (u : Bor Text). u.now) before (uid ∷ []))
    ∙ walked (map (λ (u : Bor Text). u.now) before) left rest all uid.now e h

pub all_keys : (before : List (Bor Text)) (left all : List Text) → left ≡ [] → map (λ (u : Bor Text). u.now) before ++ left ≡ all → map (λ (u : Bor Text). u.now) before ≡ all
all_keys before left all e h = sym (append-nil (map (λ (u : Bor Text). u.now) before)) ∙ ap (λ (l : List Text). map (λ (u : Bor Text). u.now) before ++ l) (sym e) ∙ h
