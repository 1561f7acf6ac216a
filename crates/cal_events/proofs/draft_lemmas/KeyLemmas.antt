-- Keys of instances in order: equal ones are neighbours, and one is looked for by binary search.
-- Cited by Draft::into_calendar, is_shown, shown.
use Rattle.std.proofs.Common.{◌≡◌, ◌≢◌, ℕ, [], ◌∷◌, ◌+◌, ◌<◌, true, false, List, map, length, get_or, subst, sym, refl, ap, ◌∙◌, inl, inr, ◌⊎◌, arith, Ordering, ℤ}
use Rattle.std.specs.Prelude.{AllPairs, Result, Ok, Err, Bool, not, ◌&&◌}
use Rattle.std.specs.declared.cmp.Ordering.TheVariants.{Less, Equal, Greater}
use Rattle.std.specs.Ordering.{is_lt, is_eq, int_eq, nat_cmp, int_cmp, ordering_then, ordering_reverse}
use Rattle.std.specs.Cmp.{IsTotalOrder}
use Rattle.std.specs.Cmp.Lexicographic.{slice_cmp}
use Rattle.std.specs.List.{AllAdjacentBelow, list_any}
use Rattle.std.proofs.lemmas.List.Folds.{list_any_at, list_any_none}
use Rattle.std.specs.Result.{is_err}
use Rattle.std.specs.List.Sorted.{IsPermutation, IsSortedBy, IsSortedByKey, IsSearchInRange, IsBinarySearchResult}
use Rattle.std.proofs.lemmas.Bool.{cases_lt, true≢false, and_parts}
use Rattle.std.proofs.lemmas.Cmp.{on_total, then_total, nat_list_cmp_total, int_cmp_total}
use Rattle.std.proofs.lemmas.List.Sorted.{sorted_far, searchable_from_sorted, ranks_by}
use Rattle.std.proofs.lemmas.Map.Lookups.{exact_pairs, exact_bytes, exact_signed}
use Rattle.profile.specs.checker.Instances.{Key, key_cmp}
use Rattle.std.specs.Str.{bytes_eq}
use Rattle.std.proofs.lemmas.Slice.Eq.{bytes_eq-Decides}
use Rattle.std.proofs.lemmas.Bool.Decides.{Decides-int_eq}
use Rattle.std.proofs.lemmas.List.{get_or-map, length-map}
use Rattle.cal_events.specs.Calendar.{key_of}
use Rattle.cal_events.specs.Neighbours.{HaveEqual, HaveNoEqual}
use Rattle.cal_events.specs.declared.instance.InstanceKey.{InstanceKey}
use Rattle.cal_events.proofs.shared_lemmas.Distinct.{pairs_permuted}

pub key_total : IsTotalOrder key_cmp
key_total =
    then_total (on_total (λ (k : Key). k.organiser) nat_list_cmp_total)
    (then_total (on_total (λ (k : Key). k.uid) nat_list_cmp_total) (on_total (λ (k : Key). k.slot) int_cmp_total))

pub key_exact : (a b : Key) → key_cmp a b ≡ Equal → a ≡ b
key_exact a b e =
    ap (λ (p : List ℕ × (List ℕ × ℤ)). record { organiser = p.0; uid = p.1.0; slot = p.1.1 })
    (exact_pairs (slice_cmp nat_cmp) (λ (x y : List ℕ × ℤ). ordering_then (slice_cmp nat_cmp x.0 y.0) (int_cmp x.1 y.1)) exact_bytes
    (exact_pairs (slice_cmp nat_cmp) int_cmp exact_bytes exact_signed) (a.organiser, (a.uid, a.slot)) (b.organiser, (b.uid, b.slot)) e)

pub key_itself : (k : Key) → key_cmp k k ≡ Equal
key_itself k = go (key_cmp k k) (key_total.antisymm k k)
  where
    go : (r : Ordering) → r ≡ ordering_reverse r → r ≡ Equal
    go Less e = cc
    go Equal e = refl
    go Greater e = cc

-- two keys are one or two
pub same_or_other : (a b : Key) → (a ≡ b) ⊎ (a ≢ b)
same_or_other a b = go (key_cmp a b) refl
  where
    go : (r : Ordering) → key_cmp a b ≡ r → (a ≡ b) ⊎ (a ≢ b)
    go Less e = inr (λ same. let x = sym e ∙ ap (key_cmp a) (sym same) ∙ key_itself a in cc)
    go Equal e = inl (key_exact a b e)
    go Greater e = inr (λ same. let x = sym e ∙ ap (key_cmp a) (sym same) ∙ key_itself a in cc)

-- neither is less than the other
pub tie : (a b : Key) → is_lt (key_cmp a b) ≡ false → is_lt (key_cmp b a) ≡ false → a ≡ b
tie a b f g = go (key_cmp a b) refl
  where
    go : (r : Ordering) → key_cmp a b ≡ r → a ≡ b
    go Less e = absurd (true≢false (sym (ap is_lt e) ∙ f))
    go Equal e = key_exact a b e
    go Greater e = absurd (true≢false (sym (ap is_lt (key_total.antisymm b a ∙ ap ordering_reverse e)) ∙ g))

module _ (ks : List Key) (up : IsSortedBy (λ a b. is_lt (key_cmp a b)) ks) where
  -- in a sorted list without equal neighbours each two places differ
  pub apart : AllAdjacentBelow ◌≢◌ ks (length ks) → AllPairs ◌≢◌ ks
  apart differ i j d lt w e =
      let next = up i d (omega arith) (omega arith) in
      let far = sorted_far (λ x y. is_lt (key_cmp x y)) (ranks_by key_total (λ (k : Key). k)) ks up (i + 1) j d (omega arith) w in
      let far' : is_lt (key_cmp (get_or ks i d) (get_or ks (i + 1) d)) ≡ false = subst (λ (k : Key). is_lt (key_cmp k (get_or ks (i + 1) d)) ≡ false) (sym e) far in
      differ i d (omega arith) (tie (get_or ks i d) (get_or ks (i + 1) d) far' next)

-- what differs in one order differs in another
pub pairs_permutation : {X : Type 0} (xs ys : List X) → IsPermutation xs ys → AllPairs ◌≢◌ xs → AllPairs ◌≢◌ ys
pairs_permutation xs ys same p = pairs_permuted ◌≢◌ (λ a b differ e. differ (sym e)) xs ys same p

-- ---- keys that borrow their texts

some_of : {X : Type 0} (xs : List X) → 0 < length xs → X
some_of [] h = absurd (omega arith)
some_of (x ∷ xs) h = x

module _ (ps : List InstanceKey) (up : IsSortedByKey key_of key_cmp ps) where
  pub in_order : IsSortedBy (λ a b. is_lt (key_cmp a b)) (map key_of ps)
  in_order k d z w =
      let l : k + 1 < length ps = omega (arith, length-map ps key_of) in
      let p = some_of ps (omega arith) in
      rw (get_or-map key_of ps k p d (omega arith), get_or-map key_of ps (k + 1) p d l) (up k p z l)

  pub none_equal : AllAdjacentBelow (λ p q. key_of p ≢ key_of q) ps (length ps) → AllPairs ◌≢◌ (map key_of ps)
  none_equal differ =
      apart (map key_of ps) in_order
      (λ k d w e.
      let l : k + 1 < length ps = omega (arith, length-map ps key_of) in
      let p = some_of ps (omega arith) in
      differ k p l (sym (get_or-map key_of ps k p d (omega arith)) ∙ e ∙ get_or-map key_of ps (k + 1) p d l))

-- equal neighbours are two equal ones
pub two_equal : (ps : List InstanceKey) (k : ℕ) (d : InstanceKey) → k + 1 < length ps → key_of (get_or ps k d) ≡ key_of (get_or ps (k + 1) d) → AllPairs ◌≢◌ (map key_of ps) → ⊥
two_equal ps k d w e differ =
    differ k (k + 1) (key_of d) (omega arith) (omega (arith, w, length-map ps key_of))
    (get_or-map key_of ps k d (key_of d) (omega (arith, w)) ∙ e ∙ sym (get_or-map key_of ps (k + 1) d (key_of d) w))

-- ---- whether two are equal

abbrev pub is_same : InstanceKey → InstanceKey → Bool
is_same a b = bytes_eq a.organiser.now b.organiser.now && (bytes_eq a.uid.now b.uid.now && int_eq a.slot b.slot)

same_key : (a b : InstanceKey) → is_same a b ≡ true → key_of a ≡ key_of b
same_key a b h =
    let p = and_parts (bytes_eq a.organiser.now b.organiser.now) (bytes_eq a.uid.now b.uid.now && int_eq a.slot b.slot) h in
    let q = and_parts (bytes_eq a.uid.now b.uid.now) (int_eq a.slot b.slot) p.1 in
    let o = (bytes_eq-Decides a.organiser.now b.organiser.now).0 p.0 in
    let u = (bytes_eq-Decides a.uid.now b.uid.now).0 q.0 in
    let s = (Decides-int_eq a.slot b.slot).0 q.1 in
    λ i. record { organiser = o i; uid = u i; slot = s i }

key_same : (a b : InstanceKey) → key_of a ≡ key_of b → is_same a b ≡ true
key_same a b e =
    let o = (bytes_eq-Decides a.organiser.now b.organiser.now).1 (ap (λ (k : Key). k.organiser) e) in
    let u = (bytes_eq-Decides a.uid.now b.uid.now).1 (ap (λ (k : Key). k.uid) e) in
    let s = (Decides-int_eq a.slot b.slot).1 (ap (λ (k : Key). k.slot) e) in
    ap (λ x. x && (bytes_eq a.uid.now b.uid.now && int_eq a.slot b.slot)) o ∙ ap (λ x. x && int_eq a.slot b.slot) u ∙ s

-- keys side by side, in order: two equal ones, or none
pub twins_of : (ps : List InstanceKey) → HaveEqual is_same ps → AllPairs ◌≢◌ (map key_of ps) → ⊥
twins_of ps (k, w, e) = let d = some_of ps (omega (arith, w)) in two_equal ps k d w (same_key (get_or ps k d) (get_or ps (k + 1) d) (e d))

pub no_twins_of : (ps : List InstanceKey) → IsSortedByKey key_of key_cmp ps → HaveNoEqual is_same ps → AllPairs ◌≢◌ (map key_of ps)
no_twins_of ps up differ = none_equal ps up (λ k d w e. true≢false (sym (key_same (get_or ps k d) (get_or ps (k + 1) d) e) ∙ differ k d w))

-- what a binary search says
pub missing : (ps : List InstanceKey) (own : Key) (r : Result ℕ ℕ) → IsSortedByKey key_of key_cmp ps → IsSearchInRange r (length ps) → IsBinarySearchResult (λ p. key_cmp (key_of p) own) ps r
    → is_err r ≡ not (list_any (λ k. is_eq (key_cmp k own)) (map key_of ps))
missing ps own (Ok i) up within found =
    let p = some_of ps (omega (arith, within)) in
    let at : key_cmp (get_or (map key_of ps) i (key_of p)) own ≡ Equal = ap (λ k. key_cmp k own) (get_or-map key_of ps i p (key_of p) within) ∙ found p in
    ap not (sym (list_any_at (λ k. is_eq (key_cmp k own)) (map key_of ps) i (key_of p) (omega (arith, within, length-map ps key_of)) (ap is_eq at)))
missing ps own (Err i) up within parted =
    ap not (sym (list_any_none (λ k. is_eq (key_cmp k own)) (map key_of ps) (λ k d w.
    let l : k < length ps = omega (arith, w, length-map ps key_of) in
    let p = some_of ps (omega (arith, l)) in
    let parts = parted (searchable_from_sorted key_total key_of ps own up) in
    let same = ap (λ x. key_cmp x own) (get_or-map key_of ps k p d l) in
    ap is_eq same ∙ elim (cases_lt k i) [ inl below ↦ ap is_eq (parts.0 k p (omega arith) below) | inr from ↦ ap is_eq (parts.1 k p from l) ])))
