-- How a sweep through several series goes on.
use Rattle.std.proofs.Common.{◌≡◌, ◌≢◌, ◌∙◌, ap, sym, refl, subst, inl, inr, ◌⊎◌, ℕ, ◌+◌, ◌-◌, ◌^◌, ◌<◌, ◌≤◌, zero, suc, Bool, true, false, arith, rules, List, [], ◌∷◌, ◌++◌, length, get_or, take, ℤ, ◌<ℤ◌, ◌≤ℤ◌}
use Rattle.std.specs.Prelude.{Option, Some, None, ◌↔◌, IfSome, Contains, AllPairs, MatchOption, int_lt, if◌then◌else◌}
use Rattle.std.specs.List.{sum_by, slice_get}
use Rattle.std.specs.List.Sorted.{IsPermutation}
use Rattle.std.specs.BinaryHeap.{IsHeap, IsUpperBound}
use Rattle.std.specs.declared.cmp.Reverse.{Reverse}
use Rattle.std.proofs.lemmas.Bool.{cases_eq, cases_order}
use Rattle.std.proofs.lemmas.Int.{ints}
use Rattle.std.proofs.lemmas.Option.{same_Some, slice_get_within, get_or_from_slice_get}
use Rattle.std.proofs.lemmas.List.{get_or_default}
use Rattle.std.proofs.lemmas.List.Sums.{sum_by-cons, sum_by_push}
use Rattle.std.proofs.lemmas.List.Elements.{Contains-push, Contains-push_cases, Contains-append_left}
use Rattle.std.proofs.lemmas.List.Sorted.{Contains-permutation, IsPermutation-sym}
use Rattle.profile.specs.checker.Instances.{Key, Instance as SaidInstance, horizon}
use Rattle.profile.specs.checker.Certificates.{IsSeriesAt, AreSeriesAt}
use Rattle.profile.specs.events.Properties.{first_second}
use Rattle.profile.specs.events.Events.{Event}
use Rattle.profile.specs.events.Starts.{IsInstance, SharesInstant}
use Rattle.profile.specs.events.Confirmed.{Confirmed}
use Rattle.profile.specs.events.Spans.{StartsBelow, HaveClash}
use Rattle.cal_events.specs.Calendar.{HaveOwnKeys}
use Rattle.cal_events.specs.declared.sweep.Span.{Span}
use Rattle.cal_events.proofs.shared_lemmas.InOneOrder.{later, none_in, head_pairs, tail_pairs}
use Rattle.clash_check.specs.Comings.{next_cmp, item_of, span_of_next, DrawsNext}
use Rattle.clash_check.specs.Counted.{AreAllBelow}
use Rattle.clash_check.specs.Draws.{IsPlaceIn, IsDrawable, IsSpanBetween, drawn_more, one_if}
use Rattle.clash_check.specs.Sweeps.{HaveNoClash, IsCountDrawn}
use Rattle.clash_check.specs.Walks.{IsBelow, place_of_walk, IsWalkedPast, IsLastWalkedPast, IsWalkThrough, BeginsAtFirst, PassesOne, MeetsLast, SharesWithNone, IsLaterEnd}
use Rattle.clash_check.specs.declared.group_sweep.Next.{Next}
use Rattle.clash_check.specs.declared.walk.Walk.{Walk}
use Rattle.clash_check.proofs.Counts.{drawn_for, first_counted, past_counted, some_counted, all_counted}
use Rattle.clash_check.proofs.WalkLemmas.{below_one, at_first, gone_past}
use Rattle.clash_check.proofs.SweepLemmas.{turned, meets_none, met, as_span, start_before, still, next_of, known_at, series_there}
use Rattle.clash_check.proofs.ComingLemmas.{with, with_same, with_other, IsHeapOf, none_yet, but_new, but_popped, put_there, starts_first, far_in, nearer}

-- ---- where the walks are

-- each of these series is walked through, and its next instance is in the heap
pub record AreWalks (all : Confirmed) (members : List ℕ) (bound : ℤ) (Coming : ℕ → ℤ → ℤ → Type 0) (hs : List (Reverse Next)) (walk : ℕ → Walk) : Type 0 where
  pub order : IsHeap next_cmp hs
  pub heap : IsHeapOf members walk hs
  pub are : (k : ℕ) → Contains members k → (a : Event) → IsSeriesAt all k a → IsWalkThrough (IsBelow a bound) (Coming k) bound (walk k)

-- one of them went past what starts and ends then
pub record IsPassed (all : Confirmed) (members : List ℕ) (bound : ℤ) (walk : ℕ → Walk) (k : ℕ) (s e : ℤ) : Type 0 where
  pub member : Contains members k
  pub a : Event
  pub at : IsSeriesAt all k a
  pub behind : IsWalkedPast (IsBelow a bound) (place_of_walk bound (walk k).next) s e

abbrev pub IsAnyPassed : Confirmed → List ℕ → ℤ → (ℕ → Walk) → ℤ → ℤ → Type 0
IsAnyPassed all members bound walk s e = (k : ℕ) × IsPassed all members bound walk k s e

-- those of the others stay where they are
walks_with : (all : Confirmed) (members more : List ℕ) (bound : ℤ) (Old New : ℕ → ℤ → ℤ → Type 0) (walk : ℕ → Walk) (k : ℕ) (w : Walk)
    → ((j : ℕ) → Contains more j → j ≢ k → Contains members j) → ((j : ℕ) → j ≢ k → (s e : ℤ) → New j s e ↔ Old j s e)
    → ((j : ℕ) → Contains members j → (a : Event) → IsSeriesAt all j a → IsWalkThrough (IsBelow a bound) (Old j) bound (walk j))
    → ((a : Event) → IsSeriesAt all k a → IsWalkThrough (IsBelow a bound) (New k) bound w)
    → (j : ℕ) → Contains more j → (a : Event) → IsSeriesAt all j a → IsWalkThrough (IsBelow a bound) (New j) bound (with k w walk j)
walks_with all members more bound Old New walk k w without others are own j c a at =
    elim (cases_eq j k) [
      | inl same ↦
          subst (λ n. IsWalkThrough (IsBelow a bound) (New n) bound (with k w walk n)) (sym same)
          (subst (IsWalkThrough (IsBelow a bound) (New k) bound) (sym (with_same k w walk)) (own a (subst (λ n. IsSeriesAt all n a) same at)))
      | inr differ ↦
          subst (IsWalkThrough (IsBelow a bound) (New j) bound) (sym (with_other k j w walk differ))
          (still (IsBelow a bound) (Old j) (New j) bound (walk j) (others j differ) (are j (without j c differ) a at))
    ]

-- ---- at their first instances

-- so many series were begun, and none went past an instance
pub record AreBegun (all : Confirmed) (members : List ℕ) (bound : ℤ) (calendar : Confirmed) (Coming : ℕ → ℤ → ℤ → Type 0) (old new : ℕ) (hs : List (Reverse Next)) : Type 0 where
  pub same : calendar ≡ all
  pub walk : ℕ → Walk
  pub walks : AreWalks all members bound Coming hs walk
  pub none : (k : ℕ) → Contains members k → (walk k).last ≡ None
  pub count : new ≡ drawn_more old (sum_by (λ k. one_if (walk k).next) members)

pub begun_none : (all : Confirmed) (bound : ℤ) (calendar : Confirmed) (Coming : ℕ → ℤ → ℤ → Type 0) (old new : ℕ) (hs : List (Reverse Next)) → calendar ≡ all → hs ≡ [] → IsHeap next_cmp hs
    → new ≡ old → old ≤ 2 ^ 64 - 1 → AreBegun all [] bound calendar Coming old new hs
begun_none all bound calendar Coming old new hs same empty order counted range = record {
  same = same;
  walk = nothing;
  walks = record {
    order = order;
    heap = subst (IsHeapOf [] nothing) (sym empty) (none_yet nothing);
    are = λ k c. absurd (none_in k c);
  };
  none = λ k c. absurd (none_in k c);
  count = counted ∙ omega (arith, range);
}
  where
    nothing : ℕ → Walk
    nothing k = record { series = k; next = None; last = None }

-- those of one more are looked for, and its first is put into the heap
pub begun_more : (all : Confirmed) → IsDrawable all → (members : List ℕ) (k : ℕ) (bound : ℤ) → ((j : ℕ) → Contains members j → j ≢ k)
    → (calendar between after : Confirmed) (Coming Wanted Left : ℕ → ℤ → ℤ → Type 0) (old new wanted drawn : ℕ) (hs put : List (Reverse Next)) (from : ℤ) → from ≤ℤ first_second
    → AreBegun all members bound calendar Coming old new hs
    → between ≡ calendar → wanted ≡ new → ((a : Event) → IsSeriesAt calendar k a → (s e : ℤ) → Wanted k s e ↔ IsSpanBetween a from bound s e)
    → ((j : ℕ) → j ≢ k → (s e : ℤ) → Wanted j s e ↔ Coming j s e)
    → after ≡ between → DrawsNext (Wanted k) (Left k) wanted drawn k hs put → ((j : ℕ) → j ≢ k → (s e : ℤ) → Left j s e ↔ Wanted j s e)
    → (IsHeap next_cmp hs → IsHeap next_cmp put)
    → AreBegun all (members ++ k ∷ []) bound after Left old drawn put
begun_more all drawable members k bound differ calendar between after Coming Wanted Left old new wanted drawn hs put from early b same_between counted starts others same_after draws still_others order = record {
  same = same_after ∙ same_between ∙ b.same;
  walk = with k w b.walk;
  walks = record {
    order = order b.walks.order;
    heap = put_there (members ++ k ∷ []) k b.walk hs put w (Contains-push members k)
        (but_new members (members ++ k ∷ []) k b.walk hs (λ j c. (earlier j c, differ j c)) without b.walks.heap) draws.put;
    are = walks_with all members (members ++ k ∷ []) bound Coming Left b.walk k w without
        (λ j other s e. (λ l. (others j other s e).0 ((still_others j other s e).0 l), λ c. (still_others j other s e).1 ((others j other s e).1 c)))
        b.walks.are (λ a at. (first a at).is_walk);
  };
  none = λ j c. elim (cases_eq j k) [
    | inl is ↦ ap (λ n. (with k w b.walk n).last) is ∙ ap (λ (v : Walk). v.last) (with_same k w b.walk)
    | inr other ↦ ap (λ (v : Walk). v.last) (with_other k j w b.walk other) ∙ b.none j (without j c other)
  ];
  count =
      let s = sum_by_push (λ j. one_if (with k w b.walk j).next) members k in
      let o = sum_unchanged members differ in
      let n = ap (λ (v : Walk). one_if v.next) (with_same k w b.walk) in
      let m = draws.count in
      let c = b.count in
      omega (arith, s, o, n, m, c, counted);
}
  where
    w : Walk
    w = record { series = k; next = draws.found; last = None }

    earlier : (j : ℕ) → Contains members j → Contains (members ++ k ∷ []) j
    earlier j c = Contains-append_left members (k ∷ []) j c

    without : (j : ℕ) → Contains (members ++ k ∷ []) j → j ≢ k → Contains members j
    without j c other = elim (Contains-push_cases members k j c) [
      | inl there ↦ there
      | inr is ↦ absurd (other (sym is))
    ]

    first : (a : Event) → IsSeriesAt all k a → BeginsAtFirst (IsBelow a bound) (Left k) bound w
    first a at = at_first a bound (Wanted k) (Left k) from (known_at all drawable k a at) early (starts a (subst (λ (c : Confirmed). IsSeriesAt c k a) (sym b.same) at)) draws.found draws.drawn draws.coming k

    sum_unchanged : (ks : List ℕ) → ((j : ℕ) → Contains ks j → j ≢ k) → sum_by (λ j. one_if (with k w b.walk j).next) ks ≡ sum_by (λ j. one_if (b.walk j).next) ks
    sum_unchanged [] h = refl
    sum_unchanged (j ∷ ks) h =
        let s = sum_by-cons (λ j. one_if (with k w b.walk j).next) j ks in
        let t = sum_by-cons (λ j. one_if (b.walk j).next) j ks in
        let n = ap (λ (v : Walk). one_if v.next) (with_other k j w b.walk (h j (zero, omega arith, refl))) in
        let rest = sum_unchanged ks (λ i c. h i (later j i ks c)) in
        omega (arith, s, t, n, rest)

-- ---- how many were drawn

-- for all of these series
abbrev pub drawn_in : ℤ → (ℕ → Walk) → List ℕ → List (List SaidInstance) → ℕ
drawn_in bound walk [] lists = 0
drawn_in bound walk (k ∷ ks) [] = 0
drawn_in bound walk (k ∷ ks) (xs ∷ lists) = drawn_for bound (walk k).next xs + drawn_in bound walk ks lists

module _ (all : Confirmed) (drawable : IsDrawable all) (bound : ℤ) (Coming : ℕ → ℤ → ℤ → Type 0) (walk : ℕ → Walk) where
  -- each of these series is walked through
  abbrev pub Each : List ℕ → Type 0
  Each ks = (k : ℕ) → Contains ks k → (a : Event) → IsSeriesAt all k a → IsWalkThrough (IsBelow a bound) (Coming k) bound (walk k)

  rest_of : (k : ℕ) (ks : List ℕ) → Each (k ∷ ks) → Each ks
  rest_of k ks each j c = each j (later k j ks c)

  -- at first: the first of each
  pub first_drawn : (ks : List ℕ) (events : List Event) (lists : List (List SaidInstance)) → AreSeriesAt all ks events → AreAllBelow events bound lists → Each ks
      → ((k : ℕ) → Contains ks k → (walk k).last ≡ None) → drawn_in bound walk ks lists ≡ sum_by (λ k. one_if (walk k).next) ks
  first_drawn [] events lists at below each none = refl
  first_drawn (k ∷ ks) [] lists at below each none = absurd at
  first_drawn (k ∷ ks) (a ∷ events) [] at below each none = absurd below
  first_drawn (k ∷ ks) (a ∷ events) (xs ∷ lists) at below each none =
      let here : Contains (k ∷ ks) k = (zero, omega arith, refl) in
      let n = first_counted a (known_at all drawable k a at.0) bound xs below.0 (Coming k) (walk k) (record { is_walk = each k here a at.0; none = none k here }) in
      let rest = first_drawn ks events lists at.1 below.1 (rest_of k ks each) (λ j c. none j (later k j ks c)) in
      let s = sum_by-cons (λ j. one_if (walk j).next) k ks in
      omega (arith, n, rest, s)

  -- no more than there are
  pub most_drawn : (ks : List ℕ) (events : List Event) (lists : List (List SaidInstance)) → AreSeriesAt all ks events → AreAllBelow events bound lists → Each ks
      → drawn_in bound walk ks lists ≤ sum_by length lists
  most_drawn [] events lists at below each = omega arith
  most_drawn (k ∷ ks) [] lists at below each = absurd at
  most_drawn (k ∷ ks) (a ∷ events) [] at below each = absurd below
  most_drawn (k ∷ ks) (a ∷ events) (xs ∷ lists) at below each =
      let n = some_counted a (known_at all drawable k a at.0) bound xs below.0 (Coming k) (walk k) (each k (zero, omega arith, refl) a at.0) in
      let rest = most_drawn ks events lists at.1 below.1 (rest_of k ks each) in
      let s = sum_by-cons length xs lists in
      omega (arith, n, rest, s)

  -- at their ends all
  pub all_drawn : (ks : List ℕ) (events : List Event) (lists : List (List SaidInstance)) → AreSeriesAt all ks events → AreAllBelow events bound lists → Each ks
      → ((k : ℕ) → Contains ks k → (walk k).next ≡ None) → drawn_in bound walk ks lists ≡ sum_by length lists
  all_drawn [] [] [] at below each end = refl
  all_drawn [] [] (xs ∷ lists) at below each end = absurd below
  all_drawn [] (a ∷ events) lists at below each end = absurd at
  all_drawn (k ∷ ks) [] lists at below each end = absurd at
  all_drawn (k ∷ ks) (a ∷ events) [] at below each end = absurd below
  all_drawn (k ∷ ks) (a ∷ events) (xs ∷ lists) at below each end =
      let here : Contains (k ∷ ks) k = (zero, omega arith, refl) in
      let n = all_counted a (known_at all drawable k a at.0) bound xs below.0 (Coming k) (walk k) (each k here a at.0) (end k here) in
      let rest = all_drawn ks events lists at.1 below.1 (rest_of k ks each) (λ j c. end j (later k j ks c)) in
      let s = sum_by-cons length xs lists in
      omega (arith, n, rest, s)

  -- where there is a next one, that
  pub one_drawn : (ks : List ℕ) (events : List Event) (lists : List (List SaidInstance)) (j : ℕ) (next : Span) → AreSeriesAt all ks events → AreAllBelow events bound lists
      → Contains ks j → (walk j).next ≡ Some next → 1 ≤ drawn_in bound walk ks lists
  one_drawn [] events lists j next at below c is = absurd (none_in j c)
  one_drawn (k ∷ ks) [] lists j next at below c is = absurd at
  one_drawn (k ∷ ks) (a ∷ events) [] j next at below c is = absurd below
  one_drawn (k ∷ ks) (a ∷ events) (xs ∷ lists) j next at below (zero, w, e) is =
      let n : one_if (walk k).next ≡ 1 = ap (λ i. one_if (walk i).next) e ∙ ap (λ (o : Option Span). one_if o) is in
      omega (arith, n)
  one_drawn (k ∷ ks) (a ∷ events) (xs ∷ lists) j next at below (suc i, w, e) is =
      let rest = one_drawn ks events lists j next at.1 below.1 (i, omega (arith, w), e) is in
      omega (arith, rest)

  -- ---- one goes on

  module _ (k : ℕ) (w : Walk) where
    others_drawn : (ks : List ℕ) (lists : List (List SaidInstance)) → ((j : ℕ) → Contains ks j → j ≢ k) → drawn_in bound (with k w walk) ks lists ≡ drawn_in bound walk ks lists
    others_drawn [] lists other = refl
    others_drawn (j ∷ ks) [] other = refl
    others_drawn (j ∷ ks) (xs ∷ lists) other =
        let n = ap (λ (v : Walk). drawn_for bound v.next xs) (with_other k j w walk (other j (zero, omega arith, refl))) in
        let rest = others_drawn ks lists (λ i c. other i (later j i ks c)) in
        omega (arith, n, rest)

    pub more_drawn : (Left : ℤ → ℤ → Type 0) (next : Span) (ks : List ℕ) (events : List Event) (lists : List (List SaidInstance)) → AreSeriesAt all ks events → AreAllBelow events bound lists
        → AllPairs ◌<◌ ks → Contains ks k → (walk k).next ≡ Some next
        → ((a : Event) → IsSeriesAt all k a → IsWalkThrough (IsBelow a bound) (Coming k) bound (walk k)) → ((a : Event) → IsSeriesAt all k a → PassesOne (IsBelow a bound) Left bound next (walk k) w)
        → drawn_in bound (with k w walk) ks lists ≡ drawn_in bound walk ks lists + one_if w.next
    more_drawn Left next [] events lists at below ascending c is own goes = absurd (none_in k c)
    more_drawn Left next (j ∷ ks) [] lists at below ascending c is own goes = absurd at
    more_drawn Left next (j ∷ ks) (a ∷ events) [] at below ascending c is own goes = absurd below
    more_drawn Left next (j ∷ ks) (a ∷ events) (xs ∷ lists) at below ascending (zero, l, e) is own goes =
        let here = subst (λ n. IsSeriesAt all n a) e at.0 in
        let n = past_counted a (known_at all drawable k a here) bound xs below.0 (Coming k) (walk k) (own a here) Left w next is (goes a here) in
        let same = ap (λ i. drawn_for bound (with k w walk i).next xs) e ∙ ap (λ (v : Walk). drawn_for bound v.next xs) (with_same k w walk) in
        let was = ap (λ i. drawn_for bound (walk i).next xs) e in
        let rest = others_drawn ks lists (λ i c same. let less = head_pairs ◌<◌ j i ks ascending c in omega (arith, less, same, e)) in
        omega (arith, n, same, was, rest)
    more_drawn Left next (j ∷ ks) (a ∷ events) (xs ∷ lists) at below ascending (suc i, l, e) is own goes =
        let there : Contains ks k = (i, omega (arith, l), e) in
        let less = head_pairs ◌<◌ j k ks ascending there in
        let n = ap (λ (v : Walk). drawn_for bound v.next xs) (with_other k j w walk (λ same. omega (arith, less, same))) in
        let rest = more_drawn Left next ks events lists at.1 below.1 (tail_pairs ◌<◌ j ks ascending) there is own goes in
        omega (arith, n, rest)

-- ---- the sweep

-- those that the walks went past share no instant with one another, and none starts after the place of a walk
pub record IsGroupAt (all : Confirmed) (members : List ℕ) (bound : ℤ) (calendar : Confirmed) (Coming : ℕ → ℤ → ℤ → Type 0) (old new : ℕ) (hs : List (Reverse Next)) (last : Option Span) : Type 0 where
  pub same : calendar ≡ all
  pub walk : ℕ → Walk
  pub walks : AreWalks all members bound Coming hs walk
  pub ends : IsLastWalkedPast (IsAnyPassed all members bound walk) bound last
  pub abreast : (k j : ℕ) (s e : ℤ) → IsPassed all members bound walk k s e → Contains members j → s ≤ℤ place_of_walk bound (walk j).next
  pub clear : (k j : ℕ) (s e u v : ℤ) → IsPassed all members bound walk k s e → IsPassed all members bound walk j u v → (k ≡ j → s ≡ u → ⊥) → SharesInstant s e u v → ⊥
  pub count : (events : List Event) → AreSeriesAt all members events → (lists : List (List SaidInstance)) → AreAllBelow events bound lists → new ≡ drawn_more old (drawn_in bound walk members lists)

pub group_first : (all : Confirmed) → IsDrawable all → (members : List ℕ) (bound : ℤ) (calendar : Confirmed) (Coming : ℕ → ℤ → ℤ → Type 0) (old new : ℕ) (hs : List (Reverse Next))
    → AreBegun all members bound calendar Coming old new hs → IsGroupAt all members bound calendar Coming old new hs None
group_first all drawable members bound calendar Coming old new hs b = record {
  same = b.same;
  walk = b.walk;
  walks = b.walks;
  ends = λ s e h. none_passed h.0.0 s e h.0.1;
  abreast = λ k j s e p c. absurd (none_passed k s e p);
  clear = λ k j s e u v p q differ share. none_passed k s e p;
  count = λ events at lists below.
      let n = first_drawn all drawable bound Coming b.walk members events lists at below b.walks.are b.none in
      let c = b.count in
      omega (arith, n, c);
}
  where
    none_passed : (k : ℕ) (s e : ℤ) → IsPassed all members bound b.walk k s e → ⊥
    none_passed k s e p =
        subst (IsLastWalkedPast (IsBelow p.a bound) (place_of_walk bound (b.walk k).next)) (b.none k p.member) (b.walks.are k p.member p.a p.at).last s e p.behind

-- ---- the series of the members

-- each of these is at one of them
member_of : (all : Confirmed) (ks : List ℕ) (events : List Event) (a : Event) → AreSeriesAt all ks events → Contains events a → (k : ℕ) × Contains ks k × IsSeriesAt all k a
member_of all [] [] a at c = absurd (none_in a c)
member_of all [] (b ∷ events) a at c = absurd at
member_of all (k ∷ ks) [] a at c = absurd at
member_of all (k ∷ ks) (b ∷ events) a at (zero, w, e) = (k, (zero, omega arith, refl), subst (IsSeriesAt all k) e at.0)
member_of all (k ∷ ks) (b ∷ events) a at (suc i, w, e) = let r = member_of all ks events a at.1 (i, omega (arith, w), e) in (r.0, later k r.0 ks r.1, r.2)

-- and the one at each is one of these
event_of : (all : Confirmed) (ks : List ℕ) (events : List Event) (k : ℕ) (a : Event) → AreSeriesAt all ks events → Contains ks k → IsSeriesAt all k a → Contains events a
event_of all [] events k a at c is = absurd (none_in k c)
event_of all (j ∷ ks) [] k a at c is = absurd at
event_of all (j ∷ ks) (b ∷ events) k a at (zero, w, e) is =
    (zero, omega arith, same_Some b a (sym at.0 ∙ ap (λ n. slice_get all.series (n - 1)) e ∙ is))
event_of all (j ∷ ks) (b ∷ events) k a at (suc i, w, e) is = later b a events (event_of all ks events k a at.1 (i, omega (arith, w), e) is)

-- there is one at each
event_at : (all : Confirmed) (ks : List ℕ) (events : List Event) (k : ℕ) → AreSeriesAt all ks events → Contains ks k → (a : Event) × IsSeriesAt all k a × Contains events a
event_at all [] events k at c = absurd (none_in k c)
event_at all (j ∷ ks) [] k at c = absurd at
event_at all (j ∷ ks) (a ∷ events) k at (zero, w, e) = (a, subst (λ n. IsSeriesAt all n a) e at.0, (zero, omega arith, refl))
event_at all (j ∷ ks) (a ∷ events) k at (suc i, w, e) = let r = event_at all ks events k at.1 (i, omega (arith, w), e) in (r.0, r.1, later a r.0 events r.2)

-- instances of two series have different keys
keys_differ : (all : Confirmed) → HaveOwnKeys all → (i j : ℕ) (a b : Event) → IsPlaceIn (length all.series) i → IsPlaceIn (length all.series) j → i ≢ j → IsSeriesAt all i a → IsSeriesAt all j b
    → (x y : SaidInstance) → IsInstance a x → IsInstance b y → x.key ≢ y.key
keys_differ all own i j a b p q differ at there x y h k same =
    elim (cases_order (i - 1) (j - 1)) [
      | inl e ↦ let m = p.0 in let n = q.0 in differ (omega (arith, e, m, n))
      | inr o ↦ elim o [
        | inl lt ↦ own.0 (i - 1) (j - 1) a lt (slice_get_within all.series (j - 1) b there) x y (of i a a at x h) (of j b a there y k) same
        | inr lt ↦ own.0 (j - 1) (i - 1) a lt (slice_get_within all.series (i - 1) a at) y x (of j b a there y k) (of i a a at x h) (sym same)
      ]
    ]
  where
    of : (n : ℕ) (c d : Event) → IsSeriesAt all n c → (z : SaidInstance) → IsInstance c z → IsInstance (get_or all.series (n - 1) d) z
    of n c d is z l = subst (λ (s : Event). IsInstance s z) (sym (get_or_from_slice_get all.series (n - 1) c d is)) l

-- ---- a step

-- the one of two that ends last
later_of : Option Span → Span → Span
later_of None next = next
later_of (Some l) next = if int_lt l.end next.end then next else l

later_ends : (last : Option Span) (next : Span) → IsLaterEnd last next (later_of last next)
unfolding later_of
later_ends None next = record { one = inr refl; than_next = omega (arith, ints); than_old = tt }
later_ends (Some l) next = go (int_lt l.end next.end) refl
  where
    go : (b : Bool) → int_lt l.end next.end ≡ b → IsLaterEnd (Some l) next (if b then next else l)
    go true e = record { one = inr refl; than_next = omega (arith, ints); than_old = let less : l.end <ℤ next.end = search (ints, rules) in omega (arith, ints, less) }
    go false e = record { one = inl refl; than_next = search (ints, rules); than_old = omega (arith, ints) }

module _ (all : Confirmed) (drawable : IsDrawable all) (members : List ℕ) (places : (i : ℕ) → Contains members i → IsPlaceIn (length all.series) i) (bound : ℤ) (calendar : Confirmed) (Coming : ℕ → ℤ → ℤ → Type 0) (old new : ℕ) (hs : List (Reverse Next)) (last : Option Span)
    (at : IsGroupAt all members bound calendar Coming old new hs last) where
  -- each is before the bound
  passed_below : (s e : ℤ) → IsAnyPassed all members bound at.walk s e → s <ℤ bound
  passed_below s e (k, p) = p.behind.0.1

  -- ---- at its end

  module _ (empty : hs ≡ []) where
    at_ends : (k : ℕ) → Contains members k → (at.walk k).next ≡ None
    at_ends k c = go (at.walk k).next refl
      where
        go : (o : Option Span) → (at.walk k).next ≡ o → o ≡ None
        go None e = refl
        go (Some x) e = absurd (none_in (item_of k x) (subst (λ (l : List (Reverse Next)). Contains l (item_of k x)) empty (at.walks.heap.each k x c e)))

    pub group_all : (events : List Event) → AreSeriesAt all members events → (lists : List (List SaidInstance)) → AreAllBelow events bound lists → new ≡ drawn_more old (sum_by length lists)
    group_all events are lists below =
        let n = at.count events are lists below in
        let m = all_drawn all drawable bound Coming at.walk members events lists are below at.walks.are at_ends in
        omega (arith, n, m)

    gone : (k : ℕ) (a : Event) → Contains members k → IsSeriesAt all k a → (x : SaidInstance) → StartsBelow a bound x → IsPassed all members bound at.walk k x.start x.end
    gone k a c is x h = record {
      member = c;
      a = a;
      at = is;
      behind =
          let place : place_of_walk bound (at.walk k).next ≡ bound = ap (place_of_walk bound) (at_ends k c) in
          let l = h.1 in
          (as_span a bound x h, omega (arith, ints, place, l));
    }

    pub group_clear : (events : List Event) → AreSeriesAt all members events → HaveNoClash events events bound
    group_clear events are a b c d x y t h k clash =
        let (i, in_i, at_i) = member_of all members events a are c in
        let (j, in_j, at_j) = member_of all members events b are d in
        at.clear i j x.start x.end y.start y.end (gone i a in_i at_i x h) (gone j b in_j at_j y k)
        (λ one start. clash.differ (
        let same : b ≡ a = same_Some b a (sym at_j ∙ ap (λ n. slice_get all.series (n - 1)) (sym one) ∙ at_i) in
        ap (λ (z : SaidInstance). z.key) ((known_at all drawable i a at_i).one x y h.0 (subst (λ (s : Event). IsInstance s y) same k.0) start)))
        (record { instant = t; before = clash.before; in_first = clash.in_first; in_second = clash.in_second })

  -- ---- at its next instance

  module _ (h : Reverse Next) (rest : List (Reverse Next)) (popped : IsPermutation hs (h ∷ rest)) where
    abbrev pub k : ℕ
    k = h.0.series

    abbrev pub next : Span
    next = span_of_next h

    of : Contains members k × ((at.walk k).next ≡ Some next)
    of = at.walks.heap.of h (Contains-permutation (h ∷ rest) hs h (IsPermutation-sym hs (h ∷ rest) popped) (zero, omega arith, refl))

    pub popped_member : Contains members k
    popped_member = of.0

    starts : place_of_walk bound (at.walk k).next ≡ next.start
    starts = ap (place_of_walk bound) of.1

    own : (a : Event) → IsSeriesAt all k a → IsBelow a bound next.start next.end
    own a is = next_of (IsBelow a bound) (Coming k) bound (at.walk k) next (at.walks.are k of.0 a is) of.1

    pub group_some : (events : List Event) → AreSeriesAt all members events → (lists : List (List SaidInstance)) → AreAllBelow events bound lists → IsCountDrawn true old new (sum_by length lists)
    group_some events are lists below = (
      drawn_in bound at.walk members lists,
      one_drawn all drawable bound Coming at.walk members events lists k next are below of.0 of.1,
      most_drawn all drawable bound Coming at.walk members events lists are below at.walks.are,
      at.count events are lists below,
    )

    early : (a : Event) → IsSeriesAt all k a → next.start <ℤ horizon
    early a is = start_before a bound next.start next.end (known_at all drawable k a is) (own a is)

    pub group_found : MeetsLast last next → (events : List Event) → AreSeriesAt all members events → HaveClash events events bound
    group_found m events are =
        let (b, is, in_b) = event_at all members events k are of.0 in
        let f = met (IsAnyPassed all members bound at.walk) bound last at.ends next (λ s e h. let l = at.abreast h.0.0 k s e h.0.1 of.0 in omega (arith, ints, l, starts)) (early b is) m in
        clash m.0 f.0.0.0 f.0.0.1 b is in_b f.1
      where
        clash : (l : Span) (i : ℕ) → IsPassed all members bound at.walk i l.start l.end → (b : Event) → IsSeriesAt all k b → Contains events b → SharesInstant l.start l.end next.start next.end
            → HaveClash events events bound
        clash l i p b is in_b share = go p.behind.0 (own b is)
          where
            go : IsBelow p.a bound l.start l.end → IsBelow b bound next.start next.end → HaveClash events events bound
            go ((x, hx, sx, ex), lx) ((y, hy, sy, ey), ly) = record {
              a = p.a;
              b = b;
              first = event_of all members events i p.a are p.member p.at;
              second = in_b;
              clash = record {
                a = x;
                b = y;
                t = share.instant;
                first = (hx, omega (arith, ints, lx, sx));
                second = (hy, omega (arith, ints, ly, sy));
                clash = record {
                  differ = differ;
                  before = share.before;
                  in_first = (let n = share.in_first.0 in omega (arith, ints, n, sx), let n = share.in_first.1 in omega (arith, ints, n, ex));
                  in_second = (let n = share.in_second.0 in omega (arith, ints, n, sy), let n = share.in_second.1 in omega (arith, ints, n, ey));
                };
              };
            }
              where
                differ : x.key ≢ y.key
                differ same = elim (cases_eq i k) [
                  | inl one ↦
                      let u = (known_at all drawable i p.a p.at).slots x hx in
                      let v = (known_at all drawable k b is).slots y hy in
                      let w = ap (λ (z : Key). z.slot) same in
                      let less = p.behind.1 in
                      let here : place_of_walk bound (at.walk i).next ≡ next.start = ap (λ n. place_of_walk bound (at.walk n).next) one ∙ starts in
                      omega (arith, ints, u, v, w, less, here, sx, sy)
                  | inr other ↦ keys_differ all drawable.own i k p.a b (places i p.member) (places k of.0) other p.at is x y hx hy same
                ]

    -- ---- past it

    module _ (Left : ℕ → ℤ → ℤ → Type 0) (after : ℕ) (put : List (Reverse Next)) (draws : DrawsNext (Coming k) (Left k) new after k rest put) where
      abbrev w : Walk
      w = record { series = k; next = draws.found; last = Some (later_of (at.walk k).last next) }

      abbrev walk : ℕ → Walk
      walk = with k w at.walk

      goes : (a : Event) → IsSeriesAt all k a → PassesOne (IsBelow a bound) (Left k) bound next (at.walk k) w
      goes a is =
          gone_past (IsBelow a bound) (Coming k) (Left k) bound (λ s e b. b.1) (below_one a bound (known_at all drawable k a is)) (at.walk k) (at.walks.are k of.0 a is) next of.1 draws.found draws.drawn draws.coming
          (later_of (at.walk k).last next) (later_ends (at.walk k).last next) k

      there : (a : Event) × IsSeriesAt all k a
      there = series_there all k (places k of.0)

      pub group_fewer : far_in bound put < far_in bound hs
      group_fewer = nearer bound h hs rest put draws.found popped draws.put (own there.0 there.1).1 (further draws.found draws.drawn)
        where
          further : (o : Option Span) → MatchOption o ((s e : ℤ) → Coming k s e → ⊥) (λ x. Coming k x.start x.end × ((s e : ℤ) → Coming k s e → x.start ≤ℤ s))
              → IfSome o (λ x. (next.start <ℤ x.start) × (x.start <ℤ bound))
          further None d = tt
          further (Some x) d =
              let r = ((at.walks.are k of.0 there.0 there.1).rest x.start x.end).0 d.0 in
              let l = r.1 in
              (omega (arith, ints, l, starts), r.0.1)

      module _ (pops : IsHeap next_cmp hs → IsHeap next_cmp rest × IsUpperBound next_cmp h hs) where
        -- no walk is at an earlier place
        next_first : (j : ℕ) → Contains members j → next.start ≤ℤ place_of_walk bound (at.walk j).next
        next_first j c = go (at.walk j).next refl
          where
            go : (o : Option Span) → (at.walk j).next ≡ o → next.start ≤ℤ place_of_walk bound o
            go None e = let l = (own there.0 there.1).1 in omega (arith, ints, l)
            go (Some x) e = starts_first h (item_of j x) hs (pops at.walks.order).1 (at.walks.heap.each j x c e)

        own_place : place_of_walk bound (walk k).next ≡ place_of_walk bound w.next
        own_place = ap (λ (v : Walk). place_of_walk bound v.next) (with_same k w at.walk)

        other_place : (j : ℕ) → j ≢ k → place_of_walk bound (walk j).next ≡ place_of_walk bound (at.walk j).next
        other_place j other = ap (λ (v : Walk). place_of_walk bound v.next) (with_other k j w at.walk other)

        onward : place_of_walk bound (at.walk k).next <ℤ place_of_walk bound (walk k).next
        onward = let f = (goes there.0 there.1).further in omega (arith, ints, f, own_place)

        no_earlier : (j : ℕ) → place_of_walk bound (at.walk j).next ≤ℤ place_of_walk bound (walk j).next
        no_earlier j = elim (cases_eq j k) [
          | inl same ↦ subst (λ n. place_of_walk bound (at.walk n).next ≤ℤ place_of_walk bound (walk n).next) (sym same) (let l = onward in omega (arith, ints, l))
          | inr other ↦ let e = other_place j other in omega (arith, ints, e)
        ]

        -- what is behind now was, or is the next one
        was : (j : ℕ) (s e : ℤ) → IsPassed all members bound walk j s e → IsPassed all members bound at.walk j s e ⊎ ((j ≡ k) × (s ≡ next.start) × (e ≡ next.end))
        was j s e p = elim (cases_eq j k) [
          | inr other ↦ inl (record { member = p.member; a = p.a; at = p.at; behind = (p.behind.0, let l = p.behind.1 in let e = other_place j other in omega (arith, ints, l, e)) })
          | inl same ↦
              let is = subst (λ n. IsSeriesAt all n p.a) same p.at in
              let place : place_of_walk bound (walk j).next ≡ place_of_walk bound w.next = ap (λ n. place_of_walk bound (walk n).next) same ∙ own_place in
              let l = p.behind.1 in
              elim ((goes p.a is).one s e (p.behind.0, omega (arith, ints, l, place))) [
                | inl old ↦ inl (record { member = p.member; a = p.a; at = p.at; behind = (old.0, let l = old.1 in let e : place_of_walk bound (at.walk j).next ≡ place_of_walk bound (at.walk k).next = ap (λ n. place_of_walk bound (at.walk n).next) same in omega (arith, ints, l, e)) })
                | inr now ↦ inr (same, now.0, now.1)
              ]
        ]

        still_passed : (j : ℕ) (s e : ℤ) → IsPassed all members bound at.walk j s e → IsPassed all members bound walk j s e
        still_passed j s e p = record { member = p.member; a = p.a; at = p.at; behind = (p.behind.0, let l = p.behind.1 in let m = no_earlier j in omega (arith, ints, l, m)) }

        now_passed : IsPassed all members bound walk k next.start next.end
        now_passed = record { member = of.0; a = there.0; at = there.1; behind = (own there.0 there.1, let l = onward in omega (arith, ints, l, starts)) }

        ends_now : (latest : Span) → IsLaterEnd last next latest → IsLastWalkedPast (IsAnyPassed all members bound walk) bound (Some latest)
        ends_now latest l = (first l.one, every)
          where
            first : (last ≡ Some latest) ⊎ (latest ≡ next) → IsWalkedPast (IsAnyPassed all members bound walk) bound latest.start latest.end
            first (inl e) =
                let b = (subst (IsLastWalkedPast (IsAnyPassed all members bound at.walk) bound) e at.ends).0 in
                ((b.0.0, still_passed b.0.0 latest.start latest.end b.0.1), b.1)
            first (inr e) = subst (λ (x : Span). IsWalkedPast (IsAnyPassed all members bound walk) bound x.start x.end) (sym e) ((k, now_passed), (own there.0 there.1).1)

            older : (o : Option Span) → IsLastWalkedPast (IsAnyPassed all members bound at.walk) bound o → IfSome o (λ x. x.end ≤ℤ latest.end) → (s e : ℤ) → IsAnyPassed all members bound at.walk s e → e ≤ℤ latest.end
            older None ends m s e p = absurd (ends s e (p, passed_below s e p))
            older (Some x) ends m s e p = let n = ends.1 s e (p, passed_below s e p) in omega (arith, ints, n, m)

            every : (s e : ℤ) → IsWalkedPast (IsAnyPassed all members bound walk) bound s e → e ≤ℤ latest.end
            every s e b = elim (was b.0.0 s e b.0.1) [
              | inl old ↦ older last at.ends l.than_old s e (b.0.0, old)
              | inr now ↦ let m = l.than_next in let n = now.2 in omega (arith, ints, m, n)
            ]

        -- the next one shares no instant with those behind
        apart : SharesWithNone last next → (j : ℕ) (s e : ℤ) → IsPassed all members bound at.walk j s e → SharesInstant s e next.start next.end → ⊥
        apart none j s e p = meets_none (IsAnyPassed all members bound at.walk) bound last at.ends next none s e ((j, p), passed_below s e (j, p))

        pub group_past : AllPairs ◌<◌ members → SharesWithNone last next → (latest : Span) → IsLaterEnd last next latest → (calendar' : Confirmed) → calendar' ≡ calendar
            → ((j : ℕ) → j ≢ k → (s e : ℤ) → Left j s e ↔ Coming j s e) → (IsHeap next_cmp rest → IsHeap next_cmp put)
            → IsGroupAt all members bound calendar' Left old after put (Some latest)
        group_past ascending none latest later_end calendar' same others order = record {
          same = same ∙ at.same;
          walk = walk;
          walks = record {
            order = order (pops at.walks.order).0;
            heap = put_there members k at.walk rest put w of.0 (but_popped members at.walk hs rest h popped at.walks.heap) draws.put;
            are = walks_with all members members bound Coming Left at.walk k w (λ j c other. c) others at.walks.are (λ a is. (goes a is).is_walk);
          };
          ends = ends_now latest later_end;
          abreast = λ i j s e p c.
              let first = next_first j c in
              let m = no_earlier j in
              elim (was i s e p) [
                | inl old ↦ let l = at.abreast i j s e old c in omega (arith, ints, l, m)
                | inr now ↦ let n = now.1 in omega (arith, ints, n, first, m)
              ];
          clear = λ i j s e u v p q differ share. elim (was i s e p) [
            | inl old ↦ elim (was j u v q) [
              | inl older ↦ at.clear i j s e u v old older differ share
              | inr now ↦ apart none i s e old (subst (λ x. SharesInstant s e x next.end) now.1 (subst (λ x. SharesInstant s e u x) now.2 share))
            ]
            | inr now ↦ elim (was j u v q) [
              | inl old ↦ apart none j u v old (turned next.start next.end u v (subst (λ x. SharesInstant x next.end u v) now.1 (subst (λ x. SharesInstant s x u v) now.2 share)))
              | inr also ↦ differ (now.0 ∙ sym also.0) (now.1 ∙ sym also.1)
            ]
          ];
          count = λ events are lists below.
              let n = more_drawn all drawable bound Coming at.walk k w (Left k) next members events lists are below ascending of.0 of.1 (at.walks.are k of.0) goes in
              let m = at.count events are lists below in
              let c = draws.count in
              omega (arith, n, m, c);
        }

-- ---- the members one after another

-- each before a place is less than the one there
pub taken_less : (members : List ℕ) (i j : ℕ) → AllPairs ◌<◌ members → i < length members → Contains (take i members) j → j < get_or members i 0
taken_less [] i j ascending w c = absurd (omega (arith, w))
taken_less (k ∷ ks) zero j ascending w c = absurd (none_in j c)
taken_less (k ∷ ks) (suc i) j ascending w (zero, l, e) =
    let within : i < length ks = omega (arith, w) in
    let less = head_pairs ◌<◌ k (get_or ks i 0) ks ascending (i, within, get_or_default ks i (get_or ks i 0) 0 within) in
    omega (arith, less, e)
taken_less (k ∷ ks) (suc i) j ascending w (suc n, l, e) = taken_less ks i j (tail_pairs ◌<◌ k ks ascending) (omega (arith, w)) (n, omega (arith, l), e)

pub none_left : (hs : List (Reverse Next)) → length hs ≡ 0 → hs ≡ []
none_left [] e = refl
none_left (h ∷ hs) e = absurd (omega (arith, e))
