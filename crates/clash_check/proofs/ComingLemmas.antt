-- What the heap of a sweep through several series holds: the next instance of each that has one, once.
use Rattle.std.proofs.Common.{◌≡◌, ◌≢◌, ◌∙◌, ap, sym, refl, subst, inl, inr, ℕ, ◌+◌, ◌<◌, ◌≤◌, ◌==◌, zero, suc, Bool, true, false, cond, arith, List, [], ◌∷◌, ℤ, ◌-ℤ◌, ◌<ℤ◌, ◌≤ℤ◌, unsigned_abs}
use Rattle.std.specs.Prelude.{Option, Some, None, Contains, count_by, IfSome}
use Rattle.std.specs.List.{sum_by}
use Rattle.std.specs.List.Sorted.{IsPermutation}
use Rattle.std.specs.Ordering.{is_lt, int_cmp, ordering_then}
use Rattle.std.specs.BinaryHeap.{IsUpperBound}
use Rattle.std.specs.declared.cmp.Ordering.{Ordering}
use Rattle.std.specs.declared.cmp.Reverse.{Reverse}
use Rattle.std.proofs.lemmas.Bool.{cases_eq, eq-eqb, eqb-true}
use Rattle.std.proofs.lemmas.Int.{ints, by_lt_z}
use Rattle.std.proofs.lemmas.Option.{same_Some}
use Rattle.std.proofs.lemmas.List.Sums.{sum_by-cons}
use Rattle.std.proofs.lemmas.List.Sorted.{IsPermutation-sym, Contains-permutation, sum_by-IsPermutation, sum_by_popped, sum_by_pushed}
use Rattle.cal_events.specs.declared.sweep.Span.{Span}
use Rattle.cal_events.proofs.shared_lemmas.InOneOrder.{later, none_in, first_or_later}
use Rattle.cal_events.proofs.shared_lemmas.Overlaps.{abs_is}
use Rattle.clash_check.specs.declared.group_sweep.Next.{Next}
use Rattle.clash_check.specs.declared.walk.Walk.{Walk}
use Rattle.clash_check.specs.Comings.{next_cmp, item_of, span_of_next, IsPutBack}

-- ---- one of several

-- another one in its place
abbrev pub with : {X : Type 0} → ℕ → X → (ℕ → X) → ℕ → X
with k x f j = cond (j == k) x (f j)

pub with_same : {X : Type 0} (k : ℕ) (x : X) (f : ℕ → X) → with k x f k ≡ x
with_same k x f = ap (λ (b : Bool). cond b x (f k)) (eq-eqb k k refl)

differs : (j k : ℕ) → j ≢ k → (j == k) ≡ false
differs j k other = go (j == k) refl
  where
    go : (b : Bool) → (j == k) ≡ b → b ≡ false
    go true e = absurd (other (eqb-true j k e))
    go false e = refl

pub with_other : {X : Type 0} (k j : ℕ) (x : X) (f : ℕ → X) → j ≢ k → with k x f j ≡ f j
with_other k j x f other = ap (λ (b : Bool). cond b x (f j)) (differs j k other)

-- ---- how many are of a series

abbrev is_of : ℕ → Reverse Next → Bool
is_of k h = h.0.series == k

abbrev pub count_of : ℕ → List (Reverse Next) → ℕ
count_of k hs = count_by (is_of k) hs

counted : (k : ℕ) (h : Reverse Next) (hs : List (Reverse Next)) → count_of k (h ∷ hs) ≡ cond (is_of k h) 1 0 + count_of k hs
counted k h hs = sum_by-cons (λ (x : Reverse Next). cond (is_of k x) 1 0) h hs

own_counted : (k : ℕ) (h : Reverse Next) (hs : List (Reverse Next)) → h.0.series ≡ k → count_of k (h ∷ hs) ≡ 1 + count_of k hs
own_counted k h hs is = counted k h hs ∙ ap (λ (b : Bool). cond b 1 0 + count_of k hs) (eq-eqb h.0.series k is)

other_counted : (k : ℕ) (h : Reverse Next) (hs : List (Reverse Next)) → h.0.series ≢ k → count_of k (h ∷ hs) ≡ count_of k hs
other_counted k h hs other =
    let e = counted k h hs ∙ ap (λ (b : Bool). cond b 1 0 + count_of k hs) (differs h.0.series k other) in omega (arith, e)

some_counted : (k : ℕ) (h : Reverse Next) (hs : List (Reverse Next)) → Contains hs h → h.0.series ≡ k → 1 ≤ count_of k hs
some_counted k h [] c is = absurd (none_in h c)
some_counted k h (x ∷ hs) (zero, w, e) is =
    let n = own_counted k x hs (ap (λ (y : Reverse Next). y.0.series) e ∙ is) in omega (arith, n)
some_counted k h (x ∷ hs) (suc i, w, e) is =
    let n = counted k x hs in
    let m = some_counted k h hs (i, omega (arith, w), e) is in
    omega (arith, n, m)

none_counted : (k : ℕ) (hs : List (Reverse Next)) → ((h : Reverse Next) → Contains hs h → h.0.series ≢ k) → count_of k hs ≡ 0
none_counted k [] none = refl
none_counted k (h ∷ hs) none =
    other_counted k h hs (none h (zero, omega arith, refl)) ∙ none_counted k hs (λ x c. none x (later h x hs c))

-- ---- the heap

-- of each of these series its next instance is there, once
pub record IsHeapOf (members : List ℕ) (walk : ℕ → Walk) (hs : List (Reverse Next)) : Type 0 where
  pub of : (h : Reverse Next) → Contains hs h → Contains members h.0.series × ((walk h.0.series).next ≡ Some (span_of_next h))
  pub each : (k : ℕ) (x : Span) → Contains members k → (walk k).next ≡ Some x → Contains hs (item_of k x)
  pub once : (k : ℕ) → count_of k hs ≤ 1

-- of each but one
pub record IsHeapBut (members : List ℕ) (but : ℕ) (walk : ℕ → Walk) (hs : List (Reverse Next)) : Type 0 where
  pub of : (h : Reverse Next) → Contains hs h → Contains members h.0.series × (h.0.series ≢ but) × ((walk h.0.series).next ≡ Some (span_of_next h))
  pub each : (k : ℕ) (x : Span) → Contains members k → k ≢ but → (walk k).next ≡ Some x → Contains hs (item_of k x)
  pub once : (k : ℕ) → count_of k hs ≤ 1

pub none_yet : (walk : ℕ → Walk) → IsHeapOf [] walk []
none_yet walk = record { of = λ h c. absurd (none_in h c); each = λ k x c e. absurd (none_in k c); once = λ k. omega arith }

-- one more series has nothing there yet
pub but_new : (members more : List ℕ) (k : ℕ) (walk : ℕ → Walk) (hs : List (Reverse Next)) → ((j : ℕ) → Contains members j → Contains more j × (j ≢ k))
    → ((j : ℕ) → Contains more j → j ≢ k → Contains members j) → IsHeapOf members walk hs → IsHeapBut more k walk hs
but_new members more k walk hs within without heap = record {
  of = λ h c. let o = heap.of h c in let m = within h.0.series o.0 in (m.0, m.1, o.1);
  each = λ j x c other e. heap.each j x (without j c other) e;
  once = heap.once;
}

-- the series of the one that was taken out has nothing there
pub but_popped : (members : List ℕ) (walk : ℕ → Walk) (hs rest : List (Reverse Next)) (h : Reverse Next) → IsPermutation hs (h ∷ rest) → IsHeapOf members walk hs
    → IsHeapBut members h.0.series walk rest
but_popped members walk hs rest h moved heap = record {
  of = λ x c. let o = heap.of x (within x c) in (o.0, λ same. other x c same, o.1);
  each = λ k x c differ e. among k x (λ (same : h.0.series ≡ k). differ (sym same)) (Contains-permutation hs (h ∷ rest) (item_of k x) moved (heap.each k x c e));
  once = λ k.
      let n = heap.once k in
      let m = number k in
      let c = counted k h rest in
      omega (arith, n, m, c);
}
  where
    within : (x : Reverse Next) → Contains rest x → Contains hs x
    within x c = Contains-permutation (h ∷ rest) hs x (IsPermutation-sym hs (h ∷ rest) moved) (later h x rest c)

    number : (k : ℕ) → count_of k (h ∷ rest) ≡ count_of k hs
    number k = sum_by-IsPermutation (λ (x : Reverse Next). cond (is_of k x) 1 0) hs (h ∷ rest) moved

    other : (x : Reverse Next) → Contains rest x → x.0.series ≢ h.0.series
    other x c same =
        let n = heap.once h.0.series in
        let m = number h.0.series in
        let o = own_counted h.0.series h rest refl in
        let s = some_counted h.0.series x rest c same in
        omega (arith, n, m, o, s)

    among : (k : ℕ) (x : Span) → h.0.series ≢ k → Contains (h ∷ rest) (item_of k x) → Contains rest (item_of k x)
    among k x differ c = elim (first_or_later h (item_of k x) rest c) [
      | inl e ↦ absurd (differ (ap (λ (y : Reverse Next). y.0.series) e))
      | inr l ↦ l
    ]

-- and then its next one is put there
pub put_there : (members : List ℕ) (k : ℕ) (walk : ℕ → Walk) (hs new : List (Reverse Next)) (w : Walk) → Contains members k → IsHeapBut members k walk hs → IsPutBack k w.next hs new
    → IsHeapOf members (with k w walk) new
put_there members k walk hs new w member heap put = go w.next refl put
  where
    own : (with k w walk k).next ≡ w.next
    own = ap (λ (v : Walk). v.next) (with_same k w walk)

    others : (j : ℕ) → j ≢ k → (with k w walk j).next ≡ (walk j).next
    others j differ = ap (λ (v : Walk). v.next) (with_other k j w walk differ)

    old : (h : Reverse Next) → Contains hs h → Contains members h.0.series × ((with k w walk h.0.series).next ≡ Some (span_of_next h))
    old h c = let o = heap.of h c in (o.0, others h.0.series o.1 ∙ o.2)

    go : (o : Option Span) → w.next ≡ o → IsPutBack k o hs new → IsHeapOf members (with k w walk) new
    go None e put = record {
      of = λ h c. old h (subst (λ (l : List (Reverse Next)). Contains l h) put c);
      each = λ j x c is. subst (λ (l : List (Reverse Next)). Contains l (item_of j x)) (sym put) (elim (cases_eq j k) [
        | inl same ↦ absurd (never x (sym e ∙ sym own ∙ ap (λ n. (with k w walk n).next) (sym same) ∙ is))
        | inr differ ↦ heap.each j x c differ (sym (others j differ) ∙ is)
      ]);
      once = λ j. subst (λ (l : List (Reverse Next)). count_of j l ≤ 1) (sym put) (heap.once j);
    }
      where
        never : (x : Span) → None ≡ Some x → ⊥
        never x e = cc
    go (Some y) e put = record {
      of = λ h c. elim (first_or_later (item_of k y) h hs (Contains-permutation new (item_of k y ∷ hs) h (IsPermutation-sym (item_of k y ∷ hs) new put) c)) [
        | inl is ↦ (
          subst (λ (x : Reverse Next). Contains members x.0.series) is member,
          subst (λ (x : Reverse Next). (with k w walk x.0.series).next ≡ Some (span_of_next x)) is (own ∙ e),
        )
        | inr there ↦ old h there
      ];
      each = λ j x c is. Contains-permutation (item_of k y ∷ hs) new (item_of j x) put (elim (cases_eq j k) [
        | inl same ↦
            let one : y ≡ x = same_Some y x (sym e ∙ sym own ∙ ap (λ n. (with k w walk n).next) (sym same) ∙ is) in
            (zero, omega arith, ap (item_of k) one ∙ ap (λ n. item_of n x) (sym same))
        | inr differ ↦ later (item_of k y) (item_of j x) hs (heap.each j x c differ (sym (others j differ) ∙ is))
      ]);
      once = λ j.
          let n : count_of j new ≡ count_of j (item_of k y ∷ hs) = sum_by-IsPermutation (λ (x : Reverse Next). cond (is_of j x) 1 0) (item_of k y ∷ hs) new put in
          elim (cases_eq k j) [
            | inl same ↦
                let m = own_counted j (item_of k y) hs same in
                let none = none_counted j hs (λ h c is. (heap.of h c).1 (is ∙ sym same)) in
                omega (arith, n, m, none)
            | inr differ ↦
                let m = other_counted j (item_of k y) hs differ in
                let o = heap.once j in
                omega (arith, n, m, o)
          ];
    }

-- ---- its order

from_cmp : (x y : ℤ) (o : Ordering) → is_lt (ordering_then (int_cmp y x) o) ≡ false → x ≤ℤ y
from_cmp x y o h = by_lt_z y x (λ less. absurd (never less h)) (λ most. most)
  where
    never : y <ℤ x → is_lt (ordering_then (int_cmp y x) o) ≡ false → ⊥
    never less h = grind (arith, ints)

-- the greatest starts first
pub starts_first : (h x : Reverse Next) (hs : List (Reverse Next)) → IsUpperBound next_cmp h hs → Contains hs x → h.0.start ≤ℤ x.0.start
starts_first h x [] bound c = absurd (none_in x c)
starts_first h x (y ∷ ys) bound (zero, w, e) = subst (λ (z : Reverse Next). h.0.start ≤ℤ z.0.start) e (from_cmp h.0.start y.0.start _ bound.0)
starts_first h x (y ∷ ys) bound (suc i, w, e) = starts_first h x ys bound.1 (i, omega (arith, w), e)

-- ---- how far it is to the bound

abbrev pub far : ℤ → Reverse Next → ℕ
far bound h = unsigned_abs (bound -ℤ h.0.start)

abbrev pub far_in : ℤ → List (Reverse Next) → ℕ
far_in bound hs = sum_by (far bound) hs

pub nearer : (bound : ℤ) (h : Reverse Next) (hs rest new : List (Reverse Next)) (found : Option Span) → IsPermutation hs (h ∷ rest) → IsPutBack h.0.series found rest new → h.0.start <ℤ bound
    → IfSome found (λ x. (h.0.start <ℤ x.start) × (x.start <ℤ bound)) → far_in bound new < far_in bound hs
nearer bound h hs rest new None popped put before further =
    let n = sum_by_popped (far bound) h hs rest popped in
    let same = ap (far_in bound) put in
    let d = abs_is (bound -ℤ h.0.start) (omega (arith, ints, before)) in
    omega (arith, ints, n, same, d, before)
nearer bound h hs rest new (Some x) popped put before further =
    let n = sum_by_popped (far bound) h hs rest popped in
    let m = sum_by_pushed (far bound) (item_of h.0.series x) rest new put in
    let d = abs_is (bound -ℤ h.0.start) (omega (arith, ints, before)) in
    let later = further.0 in
    let below = further.1 in
    let c = abs_is (bound -ℤ x.start) (omega (arith, ints, below)) in
    omega (arith, ints, n, m, d, c, later)
