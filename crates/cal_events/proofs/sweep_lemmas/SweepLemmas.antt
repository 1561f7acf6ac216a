-- Why it is enough to compare neighbours.
-- Cited by first_overlap.
use Rattle.std.proofs.Common.{◌≡◌, ◌≢◌, ℕ, zero, suc, ◌+◌, ◌-◌, ◌<◌, ℤ, ◌≤ℤ◌, ◌<ℤ◌, Bool, true, false, cond, List, [], ◌∷◌, length, get_or, subst, sym, refl, ap, ◌∙◌, arith, add-zero, inl, inr}
use Rattle.std.specs.Prelude.{Contains, All, Option, Some, None, IfSome, IfNone}
use Rattle.std.specs.Ordering.{is_lt, int_cmp}
use Rattle.std.specs.Fn.{Called, ComputesKey}
use Rattle.std.specs.List.{AllAdjacentBelow}
use Rattle.std.specs.List.Sorted.{IsPermutation, IsSortedByKey}
use Rattle.std.proofs.lemmas.Fn.{always_returns_same}
use Rattle.std.proofs.lemmas.Int.{ints}
use Rattle.std.proofs.lemmas.Bool.{cases_order}
use Rattle.std.proofs.lemmas.List.{get_or_default}
use Rattle.std.proofs.lemmas.Option.{IfSome_then}
use Rattle.std.proofs.lemmas.List.Elements.{All-nil, All-cons, All-weaker}
use Rattle.std.proofs.lemmas.List.Sorted.{All-permutation, Contains-permutation}
use denote.Param.Members.{Mut}
use denote.Ref.{Bor}
use Rattle.profile.specs.checker.Instances.{horizon, IsWithin}
use Rattle.cal_events.specs.declared.sweep.Span.{Span}
use Rattle.cal_events.specs.declared.sweep.Placed.{Placed}
use Rattle.cal_events.specs.declared.sweep.Overlap.{Overlap}
use Rattle.cal_events.specs.Sweep.{span_at, AreSpansApart, IsOverlap, holds_instant, placed_from, Rises, IsOverBefore, AreNeighbours}
use Rattle.cal_events.proofs.shared_lemmas.Distinct.{Distinct, distinct_nil, distinct_cons, distinct_permutation}

le_from_not_lt : (a b : ℤ) → is_lt (int_cmp b a) ≡ false → a ≤ℤ b
le_from_not_lt a b h = grind (arith, ints)

-- what a sort by start ensures
pub rises_from_sort : {F : Type 0} {g : Mut F (Bor Placed × Unit {0}) ℤ} {f : F} (xs : List Placed)
    → ((key : Placed → ℤ) → ComputesKey g key f → IsSortedByKey key int_cmp xs)
    → ((a : Bor Placed × Unit {0}) (r : ℤ) (f' : F) → Called g f a r f' → (r ≡ a.0.now.start) × (f' ≡ f))
    → AllAdjacentBelow Rises xs (length xs)
rises_from_sort {g = g} {f = f} xs up h =
    let s = up (λ (p : Placed). p.start) (always_returns_same g (λ a r. r ≡ a.0.now.start) f h) in
    λ k d w. le_from_not_lt _ _ (s k d (omega arith) w)

-- starts rise from each place to each later one
rise_by : (xs : List Placed) → AllAdjacentBelow Rises xs (length xs) → (i n : ℕ) (d : Placed) → i + n < length xs → (get_or xs i d).start ≤ℤ (get_or xs (i + n) d).start
rise_by xs up i zero d h = rw add-zero (omega (arith, ints))
rise_by xs up i (suc n) d h =
    let first = rise_by xs up i n d (omega arith) in
    let next = up (i + n) d (omega arith) in
    let same : i + n + 1 ≡ i + suc n = omega arith in
    let next' : (get_or xs (i + n) d).start ≤ℤ (get_or xs (i + suc n) d).start = subst (λ k. (get_or xs (i + n) d).start ≤ℤ (get_or xs k d).start) same next in
    omega (arith, ints)

-- each earlier place ends before each later one starts
apart : (xs : List Placed) → AllAdjacentBelow Rises xs (length xs) → AllAdjacentBelow IsOverBefore xs (length xs)
    → (i j : ℕ) (d : Placed) → i < j → j < length xs → (get_or xs i d).end ≤ℤ (get_or xs j d).start
apart xs up ends i j d lt h =
    let n : ℕ = j - (i + 1) in
    let at : i + 1 + n ≡ j = omega arith in
    let first = ends i d (omega arith) in
    let far = rise_by xs up (i + 1) n d (omega arith) in
    let far' : (get_or xs (i + 1) d).start ≤ℤ (get_or xs j d).start = subst (λ k. (get_or xs (i + 1) d).start ≤ℤ (get_or xs k d).start) at far in
    omega (arith, ints)

-- p is the span at a place of the list whose first place has the number n
record PlacedAt (n : ℕ) (ss : List Span) (p : Placed) : Type 0 where
  k : ℕ
  place : p.place ≡ n + k
  within : k < length ss
  start : (span_at ss k).start ≡ p.start
  end : (span_at ss k).end ≡ p.end
  holds : holds_instant (span_at ss k) ≡ true

-- in a list with one more element before it
later : (n : ℕ) (s : Span) (ss : List Span) (p : Placed) → PlacedAt (n + 1) ss p → PlacedAt n (s ∷ ss) p
later n s ss p h = record {
  k = suc h.k;
  place = omega (arith, h.place);
  within = omega (arith, h.within);
  start = h.start;
  end = h.end;
  holds = h.holds;
}

all_cons : (n : ℕ) (s : Span) (ss : List Span) (ps : List Placed) (b : Bool) → holds_instant s ≡ b → All (PlacedAt n (s ∷ ss)) ps
    → All (PlacedAt n (s ∷ ss)) (cond b (record { start = s.start; end = s.end; place = n } ∷ ps) ps)
all_cons n s ss ps true e h =
    All-cons (PlacedAt n (s ∷ ss)) _ ps (record { k = zero; place = omega arith; within = omega arith; start = refl; end = refl; holds = e }) h
all_cons n s ss ps false e h = h

all_placed : (n : ℕ) (ss : List Span) → All (PlacedAt n ss) (placed_from n ss)
all_placed n [] = All-nil (PlacedAt n [])
all_placed n (s ∷ ss) =
    all_cons n s ss (placed_from (n + 1) ss) (holds_instant s) refl
    (All-weaker (PlacedAt (n + 1) ss) (PlacedAt n (s ∷ ss)) (λ p h. later n s ss p h) (placed_from (n + 1) ss) (all_placed (n + 1) ss))

-- places differ
abbrev Differ : Placed → Placed → Type 0
Differ a b = a.place ≢ b.place

differ_cons : (n : ℕ) (s : Span) (ss : List Span) (ps : List Placed) (b : Bool) → All (PlacedAt (n + 1) ss) ps → Distinct Differ ps
    → Distinct Differ (cond b (record { start = s.start; end = s.end; place = n } ∷ ps) ps)
differ_cons n s ss ps true all h =
    distinct_cons Differ _ ps (λ k d w. let a = all k d w in (λ e. absurd (omega (arith, a.place)), λ e. absurd (omega (arith, a.place)))) h
differ_cons n s ss ps false all h = h

all_differ : (n : ℕ) (ss : List Span) → Distinct Differ (placed_from n ss)
all_differ n [] = distinct_nil Differ
all_differ n (s ∷ ss) = differ_cons n s ss (placed_from (n + 1) ss) (holds_instant s) (all_placed (n + 1) ss) (all_differ (n + 1) ss)

-- the span at place k of a list whose first place has the number n
abbrev entry : ℕ → List Span → ℕ → Placed
entry n ss k = record { start = (span_at ss k).start; end = (span_at ss k).end; place = n + k }

contains_cons : (p : Placed) (q : Placed) (ps : List Placed) (b : Bool) → Contains ps p → Contains (cond b (q ∷ ps) ps) p
contains_cons p q ps true h = (suc h.0, omega (arith, h.1), h.2)
contains_cons p q ps false h = h

contains_placed : (n : ℕ) (ss : List Span) (k : ℕ) → k < length ss → holds_instant (span_at ss k) ≡ true → Contains (placed_from n ss) (entry n ss k)
contains_placed n [] k w h = absurd (omega arith)
contains_placed n (s ∷ ss) zero w h = rw (h, add-zero) (zero, omega arith, refl)
contains_placed n (s ∷ ss) (suc k) w h =
    let e : n + 1 + k ≡ n + suc k = omega arith in
    let there = contains_placed (n + 1) ss k (omega arith) h in
    contains_cons _ _ _ (holds_instant s) (subst (λ m. Contains (placed_from (n + 1) ss) (record { start = (span_at ss k).start; end = (span_at ss k).end; place = m })) e there)

-- a span with an instant before the horizon isn't dropped
holds_from : (s : Span) (t : ℤ) → IsWithin s.start s.end t → t <ℤ horizon → holds_instant s ≡ true
holds_from s t h b = grind (arith, ints)

-- two entries at places that differ don't overlap
one_way : (xs : List Placed) → AllAdjacentBelow Rises xs (length xs) → AllAdjacentBelow IsOverBefore xs (length xs)
    → (i j : ℕ) (p q : Placed) → i < j → j < length xs → get_or xs i p ≡ p → get_or xs j q ≡ q → p.end ≤ℤ q.start
one_way xs up ends i j p q lt h ep eq =
    let a = apart xs up ends i j p lt h in
    let same : get_or xs j p ≡ get_or xs j q = get_or_default xs j p q h in
    let a' : (get_or xs i p).end ≤ℤ (get_or xs j q).start = subst (λ (x : Placed). (get_or xs i p).end ≤ℤ x.start) same a in
    let b : p.end ≤ℤ (get_or xs j q).start = subst (λ (x : Placed). x.end ≤ℤ (get_or xs j q).start) ep a' in
    subst (λ (x : Placed). p.end ≤ℤ x.start) eq b

-- spans that don't overlap share no instant
share_overlaps : (a b c d t : ℤ) → IsWithin a b t → IsWithin c d t → b ≤ℤ c → ⊥
share_overlaps a b c d t h k le = absurd (omega (arith, ints))

-- one place holds one element
one_element : (xs : List Placed) (i j : ℕ) (p q : Placed) → i ≡ j → i < length xs → get_or xs i p ≡ p → get_or xs j q ≡ q → p ≡ q
one_element xs i j p q e h ep eq = sym ep ∙ get_or_default xs i p q h ∙ ap (λ k. get_or xs k q) e ∙ eq

-- where no neighbours overlap, no two places share an instant
pub apart_from_neighbours : (spans : List Span) (sorted : List Placed) → IsPermutation (placed_from 0 spans) sorted
    → AllAdjacentBelow Rises sorted (length sorted) → AllAdjacentBelow IsOverBefore sorted (length sorted) → AreSpansApart spans
apart_from_neighbours spans sorted same up ends i j t s =
    let a = Contains-permutation (placed_from 0 spans) sorted _ same (contains_placed 0 spans i s.first_in (holds_from (span_at spans i) t s.in_first s.before)) in
    let b = Contains-permutation (placed_from 0 spans) sorted _ same (contains_placed 0 spans j s.second_in (holds_from (span_at spans j) t s.in_second s.before)) in
    elim (cases_order a.0 b.0) [
      | inl e ↦
          let same_entry : entry 0 spans i ≡ entry 0 spans j = one_element sorted a.0 b.0 _ _ e a.1 a.2 b.2 in
          let place : 0 + i ≡ 0 + j = ap (λ (p : Placed). p.place) same_entry in
          s.differ (omega (arith, place))
      | inr w ↦ elim w [
        | inl lt ↦ share_overlaps _ _ _ _ t s.in_first s.in_second (one_way sorted up ends a.0 b.0 (entry 0 spans i) (entry 0 spans j) lt b.1 a.2 b.2)
        | inr lt ↦ share_overlaps _ _ _ _ t s.in_second s.in_first (one_way sorted up ends b.0 a.0 (entry 0 spans j) (entry 0 spans i) lt a.1 b.2 a.2)
      ]
    ]

-- what is known of the span at a place that the sorted list names
record Named (spans : List Span) (i : ℕ) (p : Placed) : Type 0 where
  within : i < length spans
  start : (span_at spans i).start ≡ p.start
  end : (span_at spans i).end ≡ p.end
  some : p.start <ℤ p.end
  before : p.start <ℤ horizon

some_from : (s : Span) (start end : ℤ) → s.start ≡ start → s.end ≡ end → holds_instant s ≡ true → (start <ℤ end) × (start <ℤ horizon)
some_from s start end e f h = grind (arith, ints)

named : (spans : List Span) (i : ℕ) (p : Placed) → i ≡ p.place → PlacedAt 0 spans p → Named spans i p
named spans i p e h =
    let at : h.k ≡ i = omega (arith, h.place) in
    let known = some_from (span_at spans h.k) p.start p.end h.start h.end h.holds in
    record {
      within = omega (arith, h.within);
      start = subst (λ k. (span_at spans k).start ≡ p.start) at h.start;
      end = subst (λ k. (span_at spans k).end ≡ p.end) at h.end;
      some = known.0;
      before = known.1;
    }

-- neighbours are at two places
neighbours_differ : (sorted : List Placed) → Distinct Differ sorted → (k : ℕ) (a b : Placed) → k + 1 < length sorted → get_or sorted k a ≡ a → get_or sorted (k + 1) b ≡ b → a.place ≢ b.place
neighbours_differ sorted h k a b w ea eb e =
    h k (k + 1) a (omega arith) w (omega arith)
    (ap (λ (p : Placed). p.place) ea ∙ e ∙ sym (ap (λ (p : Placed). p.place) (get_or_default sorted (k + 1) a b w ∙ eb)))

neighbours_rise : (sorted : List Placed) → AllAdjacentBelow Rises sorted (length sorted) → (k : ℕ) (a b : Placed) → k + 1 < length sorted → get_or sorted k a ≡ a → get_or sorted (k + 1) b ≡ b → a.start ≤ℤ b.start
neighbours_rise sorted up k a b w ea eb =
    let first : (get_or sorted k a).start ≤ℤ (get_or sorted (k + 1) a).start = up k a w in
    let second : a.start ≤ℤ (get_or sorted (k + 1) a).start = subst (λ (p : Placed). p.start ≤ℤ (get_or sorted (k + 1) a).start) ea first in
    subst (λ (p : Placed). a.start ≤ℤ p.start) (get_or_default sorted (k + 1) a b w ∙ eb) second

-- the span at a place holds an instant that the entry does
within_from : (spans : List Span) (i : ℕ) (p : Placed) (t : ℤ) → Named spans i p → p.start ≤ℤ t → t <ℤ p.end → IsWithin (span_at spans i).start (span_at spans i).end t
within_from spans i p t n lo hi = (subst (λ x. x ≤ℤ t) (sym n.start) lo, subst (λ x. t <ℤ x) (sym n.end) hi)

-- neighbours that overlap share the second's start
pub overlap_from_neighbours : (spans : List Span) (sorted : List Placed) → IsPermutation (placed_from 0 spans) sorted
    → AllAdjacentBelow Rises sorted (length sorted) → (found : Overlap) → AreNeighbours sorted found → IsOverlap spans found
overlap_from_neighbours spans sorted same up found n =
    let all = All-permutation (PlacedAt 0 spans) (placed_from 0 spans) sorted same (all_placed 0 spans) in
    let two = distinct_permutation Differ (placed_from 0 spans) sorted same (all_differ 0 spans) in
    let a = named spans found.first n.a n.first (subst (PlacedAt 0 spans) n.first_is (all n.at n.a (omega (arith, n.within)))) in
    let b = named spans found.second n.b n.second (subst (PlacedAt 0 spans) n.second_is (all (n.at + 1) n.b n.within)) in
    let rise = neighbours_rise sorted up n.at n.a n.b n.within n.first_is n.second_is in
    let apart = neighbours_differ sorted two n.at n.a n.b n.within n.first_is n.second_is in
    record {
      shared = record {
        first_in = a.within;
        second_in = b.within;
        differ = λ e. apart (sym n.first ∙ e ∙ n.second);
        before = subst (λ t. t <ℤ horizon) (sym n.instant) b.before;
        in_first = within_from spans found.first n.a found.instant a (subst (λ t. n.a.start ≤ℤ t) (sym n.instant) rise) (subst (λ t. t <ℤ n.a.end) (sym n.instant) n.overlap);
        in_second = within_from spans found.second n.b found.instant b (subst (λ t. n.b.start ≤ℤ t) (sym n.instant) (omega (arith, ints))) (subst (λ t. t <ℤ n.b.end) (sym n.instant) b.some);
      };
      later = n.instant ∙ sym b.start;
      earlier = subst (λ x. x ≤ℤ found.instant) (sym a.start) (subst (λ t. n.a.start ≤ℤ t) (sym n.instant) rise);
    }

-- the two together, for the list that was sorted, as the comparison saw it
pub found_by_sweep : (spans : List Span) (placed sorted seen : List Placed) (r : Option Overlap) → placed ≡ placed_from 0 spans → IsPermutation placed sorted
    → AllAdjacentBelow Rises sorted (length sorted) → seen ≡ sorted → IfSome r (AreNeighbours seen) → IfSome r (IsOverlap spans)
found_by_sweep spans placed sorted seen r p same up e h =
    IfSome_then r (subst (λ (l : List Placed). IfSome r (AreNeighbours l)) e h)
    (λ found n. overlap_from_neighbours spans sorted (subst (λ (l : List Placed). IsPermutation l sorted) p same) up found n)

pub none_by_sweep : (spans : List Span) (placed sorted seen : List Placed) (r : Option Overlap) → placed ≡ placed_from 0 spans → IsPermutation placed sorted
    → AllAdjacentBelow Rises sorted (length sorted) → seen ≡ sorted → IfNone r (AllAdjacentBelow IsOverBefore seen (length seen)) → IfNone r (AreSpansApart spans)
none_by_sweep spans placed sorted seen None p same up e h =
    apart_from_neighbours spans sorted (subst (λ (l : List Placed). IsPermutation l sorted) p same) up
    (subst (λ (l : List Placed). AllAdjacentBelow IsOverBefore l (length l)) e h)
none_by_sweep spans placed sorted seen (Some found) p same up e h = h
