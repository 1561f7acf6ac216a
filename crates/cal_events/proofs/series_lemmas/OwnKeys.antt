-- The keys of one meeting among keys in order: two binary searches find them, and their slots ascend.
-- Cited by own_keys, replaced.
use Rattle.std.proofs.Common.{◌≡◌, ◌∙◌, ℕ, ◌+◌, ◌<◌, ◌≤◌, Bool, true, false, List, [], ◌∷◌, ◌++◌, length, get_or, take, drop, map, sym, ap, refl, subst, arith, zero, suc, Ordering, get_or-drop, take-append-drop, length-drop, append-nil}
use Rattle.std.specs.Prelude.{Contains, filter}
use Rattle.std.specs.declared.cmp.Ordering.TheVariants.{Less, Equal, Greater}
use Rattle.std.specs.Ordering.{is_lt, is_eq, ordering_then, ordering_index, ordering_reverse, nat_cmp, int_cmp}
use Rattle.std.specs.Cmp.{IsTotalOrder}
use Rattle.std.specs.Cmp.Lexicographic.{slice_cmp}
use Rattle.std.specs.List.Sorted.{IsNonDecreasingBy, IsPartitionedBy, IsPartitionPoint}
use Rattle.std.proofs.lemmas.Bool.{true≢false}
use Rattle.std.proofs.lemmas.Cmp.{on_total, then_total, nat_list_cmp_total}
use Rattle.std.proofs.lemmas.List.Elements.{filter-append}
use Rattle.std.proofs.lemmas.List.Sorted.{searchable_from_sorted}
use Rattle.profile.specs.checker.Instances.{Key, key_cmp}
use Rattle.cal_events.specs.Calendar.{MeetingName, key_of, key_in}
use Rattle.cal_events.specs.Draft.{AreInOrder}
use Rattle.cal_events.specs.Ruled.{meeting_name_cmp, cmp_to, is_before, is_key_of, AreSlotsOf}
use Rattle.cal_events.specs.declared.instance.InstanceKey.{InstanceKey}
use Rattle.std.proofs.lemmas.Map.Lookups.{exact_pairs, exact_bytes}
use Rattle.cal_events.proofs.shared_lemmas.InOneOrder.{in_mapped, of_mapped, in_filtered, of_filtered}

-- ---- orders

meeting_total : IsTotalOrder meeting_name_cmp
meeting_total = then_total (on_total (λ (m : MeetingName). m.0) nat_list_cmp_total) (on_total (λ (m : MeetingName). m.1) nat_list_cmp_total)

meeting_exact : (a b : MeetingName) → meeting_name_cmp a b ≡ Equal → a ≡ b
meeting_exact a b e = exact_pairs (slice_cmp nat_cmp) (slice_cmp nat_cmp) exact_bytes exact_bytes a b e

meeting_itself : (m : MeetingName) → meeting_name_cmp m m ≡ Equal
meeting_itself m = go (meeting_name_cmp m m) (meeting_total.antisymm m m)
  where
    go : (r : Ordering) → r ≡ ordering_reverse r → r ≡ Equal
    go Less e = cc
    go Equal e = refl
    go Greater e = cc

-- what isn't less by a key isn't by its meeting
less_then : (o u s : Ordering) → is_lt (ordering_then o (ordering_then u s)) ≡ false → is_lt (ordering_then o u) ≡ false
less_then Less u s h = h
less_then Equal Less s h = h
less_then Equal Equal s h = refl
less_then Equal Greater s h = refl
less_then Greater u s h = refl

lower : (x y : Ordering) → ordering_index x ≤ ordering_index y → is_lt y ≡ true → is_lt x ≡ true
lower Less y l h = refl
lower Equal Less l h = absurd (omega (arith, l))
lower Equal Equal l h = h
lower Equal Greater l h = h
lower Greater Less l h = absurd (omega (arith, l))
lower Greater Equal l h = h
lower Greater Greater l h = h

level : (x y : Ordering) → ordering_index x ≤ ordering_index y → is_eq y ≡ true → is_lt x ≡ false → is_eq x ≡ true
level Less y l h n = absurd (true≢false n)
level Equal y l h n = refl
level Greater Less l h n = absurd (omega (arith, l))
level Greater Equal l h n = absurd (omega (arith, l))
level Greater Greater l h n = h

less_no_other : (x : Ordering) → is_lt x ≡ true → is_eq x ≡ false
less_no_other Less h = refl
less_no_other Equal h = absurd (true≢false (sym h))
less_no_other Greater h = refl

equal_is : (x : Ordering) → is_eq x ≡ true → x ≡ Equal
equal_is Less h = absurd (true≢false (sym h))
equal_is Equal h = refl
equal_is Greater h = absurd (true≢false (sym h))

-- keys of one meeting are in order by their slots
by_slot : (a b : InstanceKey) → ◌≡◌ {A = MeetingName} (a.organiser.now, a.uid.now) (b.organiser.now, b.uid.now) → int_cmp a.slot b.slot ≡ key_cmp (key_of a) (key_of b)
by_slot a b same = sym (go (slice_cmp nat_cmp a.organiser.now b.organiser.now) (slice_cmp nat_cmp a.uid.now b.uid.now) (ap (meeting_name_cmp (a.organiser.now, a.uid.now)) (sym same) ∙ meeting_itself (a.organiser.now, a.uid.now)))
  where
    go : (o u : Ordering) → ordering_then o u ≡ Equal → ordering_then o (ordering_then u (int_cmp a.slot b.slot)) ≡ int_cmp a.slot b.slot
    go Less u e = cc
    go Equal Less e = cc
    go Equal Equal e = refl
    go Equal Greater e = cc
    go Greater u e = cc

-- ---- lists that a test parts

in_front : {X : Type 0} (n : ℕ) (xs : List X) (k : ℕ) (d : X) → k < length (take n xs) → (get_or (take n xs) k d ≡ get_or xs k d) × (k < n)
in_front zero xs k d w = absurd (omega (arith, w))
in_front (suc n) [] k d w = absurd (omega (arith, w))
in_front (suc n) (x ∷ xs) zero d w = (refl, omega arith)
in_front (suc n) (x ∷ xs) (suc k) d w = let r = in_front n xs k d (omega (arith, w)) in (r.0, omega (arith, r.1))

all_fail : {X : Type 0} (p : X → Bool) (xs : List X) → ((k : ℕ) (d : X) → k < length xs → p (get_or xs k d) ≡ false) → filter p xs ≡ []
all_fail p [] h = refl
all_fail p (x ∷ xs) h = simp (h 0 x (omega arith)) (all_fail p xs (λ k d w. h (suc k) d (omega (arith, w))))

all_pass : {X : Type 0} (p : X → Bool) (xs : List X) → ((k : ℕ) (d : X) → k < length xs → p (get_or xs k d) ≡ true) → filter p xs ≡ xs
all_pass p [] h = refl
all_pass p (x ∷ xs) h = simp (h 0 x (omega arith)) (ap (λ l. x ∷ l) (all_pass p xs (λ k d w. h (suc k) d (omega (arith, w)))))

module _ (keys : List InstanceKey) (up : AreInOrder keys) (m : MeetingName) where
  rises : IsNonDecreasingBy (λ y. ordering_index (cmp_to m y)) keys
  rises =
      searchable_from_sorted meeting_total (λ (k : InstanceKey). (k.organiser.now, k.uid.now)) keys m
      (λ k d l w. less_then (slice_cmp nat_cmp (get_or keys (k + 1) d).organiser.now (get_or keys k d).organiser.now)
      (slice_cmp nat_cmp (get_or keys (k + 1) d).uid.now (get_or keys k d).uid.now) (int_cmp (get_or keys (k + 1) d).slot (get_or keys k d).slot) (up k d l w))

  pub before_parted : IsPartitionedBy (is_before m) keys
  before_parted i j d a b h = lower (cmp_to m (get_or keys i d)) (cmp_to m (get_or keys j d)) (rises i j d a b) h

  module _ (first : ℕ) (point : IsPartitionPoint (λ k. is_before m k ≡ true) (λ k. is_before m k ≡ false) keys first) where
    at_rest : (i : ℕ) (d : InstanceKey) → i < length (drop first keys) → (get_or (drop first keys) i d ≡ get_or keys (first + i) d) × (first + i < length keys)
    at_rest i d w = (get_or-drop first keys i d, omega (arith, w, length-drop first keys))

    not_before : (i : ℕ) (d : InstanceKey) → i < length (drop first keys) → is_lt (cmp_to m (get_or (drop first keys) i d)) ≡ false
    not_before i d w =
        let at = at_rest i d w in ap (λ k. is_lt (cmp_to m k)) at.0 ∙ point.1 (first + i) d (omega arith) at.1

    pub rest_parted : IsPartitionedBy (is_key_of m) (drop first keys)
    rest_parted i j d a b h =
        let x = at_rest i d (omega (arith, a, b)) in
        let y = at_rest j d b in
        level (cmp_to m (get_or (drop first keys) i d)) (cmp_to m (get_or (drop first keys) j d))
        (subst (λ k. ordering_index (cmp_to m k) ≤ ordering_index (cmp_to m (get_or (drop first keys) j d))) (sym x.0)
        (subst (λ k. ordering_index (cmp_to m (get_or keys (first + i) d)) ≤ ordering_index (cmp_to m k)) (sym y.0) (rises (first + i) (first + j) d (omega (arith, a)) y.1)))
        h (not_before i d (omega (arith, a, b)))

    -- two searches find them
    pub own_found : (count : ℕ) → IsPartitionPoint (λ k. is_key_of m k ≡ true) (λ k. is_key_of m k ≡ false) (drop first keys) count → take count (drop first keys) ≡ filter (is_key_of m) keys
    own_found count parts =
        let rest = drop first keys in
        let front : filter (is_key_of m) (take first keys) ≡ [] =
        all_fail (is_key_of m) (take first keys)
        (λ k d w. let l = in_front first keys k d w in ap (is_key_of m) l.0 ∙ less_no_other (cmp_to m (get_or keys k d)) (point.0 k d (omega arith) l.1)) in
        let own : filter (is_key_of m) (take count rest) ≡ take count rest =
        all_pass (is_key_of m) (take count rest) (λ k d w. let l = in_front count rest k d w in ap (is_key_of m) l.0 ∙ parts.0 k d (omega arith) l.1) in
        let back : filter (is_key_of m) (drop count rest) ≡ [] =
        all_fail (is_key_of m) (drop count rest)
        (λ k d w. ap (is_key_of m) (get_or-drop count rest k d) ∙ parts.1 (count + k) d (omega arith) (omega (arith, w, length-drop count rest))) in
        sym (ap (filter (is_key_of m)) (sym (take-append-drop first keys)) ∙ filter-append (is_key_of m) (take first keys) rest ∙ ap (λ l. l ++ filter (is_key_of m) rest) front
        ∙ ap (filter (is_key_of m)) (sym (take-append-drop count rest)) ∙ filter-append (is_key_of m) (take count rest) (drop count rest)
        ∙ ap (λ l. filter (is_key_of m) (take count rest) ++ l) back ∙ append-nil (filter (is_key_of m) (take count rest)) ∙ own)

  -- ---- their slots

  pub own_slots : (own : List InstanceKey) → own ≡ filter (is_key_of m) keys → AreSlotsOf (map key_of keys) m (map (λ k. k.slot) own)
  own_slots own is t = (
    (λ c.
        let r = of_mapped (λ (k : InstanceKey). k.slot) own t c in
        let f = of_filtered (is_key_of m) keys r.0 (subst (λ l. Contains l r.0) is r.1) in
        let at = meeting_exact (r.0.organiser.now, r.0.uid.now) m (equal_is _ f.1) in
        subst (Contains (map key_of keys)) (ap (λ n. key_in n r.0.slot) at ∙ ap (key_in m) r.2) (in_mapped key_of keys r.0 f.0)),
    λ c.
        let r = of_mapped key_of keys (key_in m t) c in
        let at : ◌≡◌ {A = MeetingName} (r.0.organiser.now, r.0.uid.now) m = ap (λ (k : Key). (k.organiser, k.uid)) r.2 in
        let own_one : is_key_of m r.0 ≡ true = ap is_eq (ap (λ n. meeting_name_cmp n m) at ∙ meeting_itself m) in
        subst (Contains (map (λ k. k.slot) own)) (ap (λ (k : Key). k.slot) r.2)
        (in_mapped (λ (k : InstanceKey). k.slot) own r.0 (subst (λ l. Contains l r.0) (sym is) (in_filtered (is_key_of m) keys r.0 r.1 own_one))),
  )
