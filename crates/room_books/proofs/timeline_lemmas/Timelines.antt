-- What is confirmed, in order of time: the place after an instant, the first after it, one less and one more.
-- Cited by Timeline::change, Timeline::first_of_series, Timeline::first_taken, Timeline::place_after, Timeline::put_in, Timeline::take_out and 1 more.
use Rattle.std.proofs.Common.{◌≡◌, ◌≢◌, ℕ, ◌+◌, ◌<◌, ◌≤◌, ℤ, ◌≤ℤ◌, ◌<ℤ◌, Bool, true, false, not, ◌&&◌, ◌||◌, cond, List, [], ◌∷◌, ◌++◌, ◌⊎◌, inl, inr, Option, None, Some, refl, sym, ap, ◌∙◌, subst, length, get_or, take, drop, arith, zero, suc}
use Rattle.std.specs.Prelude.{◌==◌, int_lt}
use Rattle.std.specs.List.{Contains, AllPairs, find, take_while, insert, remove}
use Rattle.std.specs.List.Sorted.{IsPartitionedBy, IsPartitionPoint}
use Rattle.std.proofs.lemmas.Bool.{true≢false, cases_Bool, and_from, and_parts, eq-eqb, eqb-true, false_from_ne_true}
use Rattle.std.proofs.lemmas.Bool.Decides.{Decides-int_eq}
use Rattle.std.proofs.lemmas.Int.{ints}
use Rattle.std.proofs.lemmas.List.{take-append-drop, get_or-take, get_or-drop, get_or_default, length-take-le, length-drop}
use Rattle.std.proofs.lemmas.List.Elements.{Contains-append_left, Contains-append_right, Contains-append_cases, Contains-get_or}
use Rattle.std.proofs.lemmas.List.Sums.{take_while-cons}
use Rattle.std.proofs.lemmas.List.Folds.{list_any-append}
use Rattle.std.proofs.Math.Seq.{drop-cons}
use Rattle.itip_order.proofs.Lists.{none_in_nil, in_head, in_tail, in_cons, any_at, any_from}
use Rattle.profile.specs.checker.Instances.{horizon}
use Rattle.cal_events.specs.declared.sweep.Span.{Span}
use Rattle.cal_events.specs.declared.instance.Single.{Single}
use Rattle.room_books.specs.declared.timeline.Busy.{Busy}
use Rattle.room_books.specs.Gone.{HaveInstant, Overlap, AreSeparate}
use Rattle.room_books.specs.Timeline.{HoldsInstants, holds_instants, same_single, has_single, same_busy, has_busy, busy_in, AreBusy, IsPlaceAfter, stays, starts_before, IsSharedIn, AreTaken, IsFreeAmong, AreAt, IsChanged, IsTakenOut, IsPut}

-- ---- lists that are apart

-- each ends before the later ones start, by recursion
abbrev AreApart : List Busy → Type 0
AreApart [] = Unit {0}
AreApart (b ∷ bs) = ((c : Busy) → Contains bs c → b.single.span.end ≤ℤ c.single.span.start) × AreApart bs

apart_of : (items : List Busy) → AllPairs (λ b c. b.single.span.end ≤ℤ c.single.span.start) items → AreApart items
apart_of [] h = tt
apart_of (b ∷ bs) h = (
  (λ c k. subst (λ (z : Busy). b.single.span.end ≤ℤ z.single.span.start) k.2 (h 0 (suc k.0) c (omega arith) (let l = k.1 in omega arith))),
  apart_of bs (λ i j d l m. h (suc i) (suc j) d (omega (arith, l)) (omega (arith, m))),
)

pairs_of : (items : List Busy) → AreApart items → AllPairs (λ b c. b.single.span.end ≤ℤ c.single.span.start) items
pairs_of [] h i j d l m = absurd (omega (arith, m))
pairs_of (b ∷ bs) h i zero d l m = absurd (omega (arith, l))
pairs_of (b ∷ bs) h zero (suc j) d l m = h.0 (get_or bs j d) (Contains-get_or bs j d (omega (arith, m)))
pairs_of (b ∷ bs) h (suc i) (suc j) d l m = pairs_of bs h.1 i j d (omega (arith, l)) (omega (arith, m))

apart_join : (A C : List Busy) → AreApart A → AreApart C → ((a c : Busy) → Contains A a → Contains C c → a.single.span.end ≤ℤ c.single.span.start) → AreApart (A ++ C)
apart_join [] C a c x = c
apart_join (b ∷ A) C a c x =
    ((λ d h. elim (Contains-append_cases A C d h) [ inl l ↦ a.0 d l | inr r ↦ x b d (in_head b A) r ]), apart_join A C a.1 c (λ p q h k. x p q (in_tail b A p h) k))

apart_left : (A C : List Busy) → AreApart (A ++ C) → AreApart A
apart_left [] C h = tt
apart_left (b ∷ A) C h = ((λ d k. h.0 d (Contains-append_left A C d k)), apart_left A C h.1)

apart_right : (A C : List Busy) → AreApart (A ++ C) → AreApart C
apart_right [] C h = h
apart_right (b ∷ A) C h = apart_right A C h.1

apart_across : (A C : List Busy) → AreApart (A ++ C) → (a c : Busy) → Contains A a → Contains C c → a.single.span.end ≤ℤ c.single.span.start
apart_across [] C h a c x y = absurd (none_in_nil a x)
apart_across (b ∷ A) C h a c x y = elim (in_cons b A a x) [
  | inl e ↦ subst (λ (z : Busy). z.single.span.end ≤ℤ c.single.span.start) e (h.0 c (Contains-append_right A C c y))
  | inr r ↦ apart_across A C h.1 a c r y
]

-- ---- the place after an instant

-- those that end by an instant come first
pub parted : (items : List Busy) (t : ℤ) (p : Busy → Bool) → AreBusy items → ((b : Busy) → p b ≡ true → b.single.span.end ≤ℤ t) → ((b : Busy) → b.single.span.end ≤ℤ t → p b ≡ true) → IsPartitionedBy p items
parted items t p busy from to i j d le l h = elim (le_cases i j le) [
  | inl same ↦ subst (λ (n : ℕ). p (get_or items n d) ≡ true) (sym same) h
  | inr less ↦
      let x = busy.apart i j d less l in
      let y = busy.hold (get_or items j d) (Contains-get_or items j d l) in
      let e = from (get_or items j d) h in
      let y0 = y.0 in
      to (get_or items i d) (omega (arith, ints))
]
  where
    le_cases : (m n : ℕ) → m ≤ n → (m ≡ n) ⊎ (m < n)
    le_cases m n h = search arith

pub placed : (items : List Busy) (t : ℤ) (p : Busy → Bool) (place : ℕ) → place ≤ length items → ((b : Busy) → p b ≡ true → b.single.span.end ≤ℤ t) → ((b : Busy) → p b ≡ false → t <ℤ b.single.span.end)
    → IsPartitionPoint (λ b. p b ≡ true) (λ b. p b ≡ false) items place → IsPlaceAfter items t place
placed items t p place within from not_from point = record {
  within = within;
  before = λ b c.
      let n = length-take-le place items within in
      let l : c.0 < place = (let x = c.1 in omega (arith, n)) in
      from b (subst (λ (z : Busy). p z ≡ true) (sym (get_or-take place items c.0 b l) ∙ c.2) (point.0 c.0 b (omega arith) l));
  after = λ b c.
      let n = length-drop place items in
      let l : place + c.0 < length items = (let x = c.1 in omega (arith, n, within)) in
      not_from b (subst (λ (z : Busy). p z ≡ false) (sym (get_or-drop place items c.0 b) ∙ c.2) (point.1 (place + c.0) b (omega arith) l));
}

-- ---- the first that starts before an end, and doesn't leave

abbrev FirstStaying : (Busy → Bool) → ℤ → List Busy → Option Busy → Type 0
FirstStaying leaves end items None = (b : Busy) → Contains items b → leaves b ≡ false → b.single.span.start <ℤ end → ⊥
FirstStaying leaves end items (Some first) = Contains items first × (leaves first ≡ false) × (first.single.span.start <ℤ end)

staying_more : (leaves : Busy → Bool) (end : ℤ) (x : Busy) (xs : List Busy) (o : Option Busy) → leaves x ≡ true → FirstStaying leaves end xs o → FirstStaying leaves end (x ∷ xs) o
staying_more leaves end x xs None e h = λ b c n. elim (in_cons x xs b c) [
  | inl same ↦ absurd (true≢false (sym e ∙ ap (leaves) same ∙ n))
  | inr rest ↦ h b rest n
]
staying_more leaves end x xs (Some f) e h = (in_tail x xs f h.0, h.1, h.2)

-- the others start when the first has ended
later_start : (x : Busy) (xs : List Busy) (end : ℤ) → AreApart (x ∷ xs) → HoldsInstants x.single.span → int_lt x.single.span.start end ≡ false → (b : Busy) → Contains (x ∷ xs) b → b.single.span.start <ℤ end → ⊥
later_start x xs end apart holds late b c l = elim (in_cons x xs b c) [
  | inl same ↦ (let m = subst (λ (z : Busy). z.single.span.start <ℤ end) (sym same) l in omega (arith, ints))
  | inr rest ↦ (let m = apart.0 b rest in let h = holds.0 in omega (arith, ints))
]

first_staying : (leaves : Busy → Bool) (end : ℤ) (items : List Busy) → AreApart items → ((b : Busy) → Contains items b → HoldsInstants b.single.span)
    → FirstStaying leaves end items (find (stays leaves) (take_while (starts_before end) items))
first_staying leaves end [] apart hold = λ b c n l. none_in_nil b c
first_staying leaves end (x ∷ xs) apart hold = elim (cases_Bool (starts_before end x)) [
  | inl early ↦ subst (λ l. FirstStaying leaves end (x ∷ xs) (find (stays leaves) l)) (sym (take_while-cons (starts_before end) x xs ∙ ap (λ t. cond t (x ∷ take_while (starts_before end) xs) []) early))
      (elim (cases_Bool (leaves x)) [
        | inl own_one ↦ subst (λ (t : Bool). FirstStaying leaves end (x ∷ xs) (cond (not t) (Some x) (find (stays leaves) (take_while (starts_before end) xs)))) (sym own_one)
            (staying_more leaves end x xs (find (stays leaves) (take_while (starts_before end) xs)) own_one (first_staying leaves end xs apart.1 (λ b c. hold b (in_tail x xs b c))))
        | inr other ↦ subst (λ (t : Bool). FirstStaying leaves end (x ∷ xs) (cond (not t) (Some x) (find (stays leaves) (take_while (starts_before end) xs)))) (sym other)
            (in_head x xs, other, (let e = early in omega (arith, ints)))
      ])
  | inr late ↦ subst (λ l. FirstStaying leaves end (x ∷ xs) (find (stays leaves) l)) (sym (take_while-cons (starts_before end) x xs ∙ ap (λ t. cond t (x ∷ take_while (starts_before end) xs) []) late))
      (λ b c n l. later_start x xs end apart (hold x (in_head x xs)) late b c l)
]

-- a span that holds an instant shares one with what starts before its end and ends after its start
overlaps : (s t : Span) → HoldsInstants s → HoldsInstants t → t.start <ℤ s.end → s.start <ℤ t.end → Overlap s t
overlaps s t hs ht a b i later =
    let hs0 = hs.0 in let hs1 = hs.1 in let ht0 = ht.0 in let ht1 = ht.1 in
    elim later.one [
      | inl e ↦ record { in_first = (later.first, omega (arith, ints, e)); in_second = (later.second, omega (arith, ints, e)); before = omega (arith, ints, e) }
      | inr e ↦ record { in_first = (later.first, omega (arith, ints, e)); in_second = (later.second, omega (arith, ints, e)); before = omega (arith, ints, e) }
    ]

pub shared_is : (leaves : Busy → Bool) (items : List Busy) (span : Span) (place : ℕ) (o : Option Busy) → AreBusy items → HoldsInstants span → IsPlaceAfter items span.start place
    → o ≡ find (stays leaves) (take_while (starts_before span.end) (drop place items)) → IsSharedIn leaves items span o
shared_is leaves items span place o busy holds at e =
    by o (subst (FirstStaying leaves span.end (drop place items)) (sym e)
    (first_staying leaves span.end (drop place items) (apart_right (take place items) (drop place items) (subst AreApart (sym (take-append-drop place items)) (apart_of items busy.apart))) (λ b c. busy.hold b (from_rest b c))))
  where
    from_rest : (b : Busy) → Contains (drop place items) b → Contains items b
    from_rest b c = subst (λ (l : List Busy). Contains l b) (take-append-drop place items) (Contains-append_right (take place items) (drop place items) b c)

    by : (o : Option Busy) → FirstStaying leaves span.end (drop place items) o → IsSharedIn leaves items span o
    by None h = λ b t c n shared.
        let first = shared.in_first in let first0 = first.0 in let first1 = first.1 in let second = shared.in_second in let second0 = second.0 in let second1 = second.1 in
        elim (Contains-append_cases (take place items) (drop place items) b (subst (λ (l : List Busy). Contains l b) (sym (take-append-drop place items)) c)) [
          | inl l ↦ (let past = at.before b l in omega (arith, ints))
          | inr r ↦ h b r n (omega (arith, ints))
        ]
    by (Some f) h = (from_rest f h.0, h.1, overlaps span f.single.span holds (busy.hold f (from_rest f h.0)) h.2 (at.after f h.0))

-- a span that holds no instant shares none
pub shared_none : (leaves : Busy → Bool) (items : List Busy) (span : Span) → (HoldsInstants span → ⊥) → IsSharedIn leaves items span None
shared_none leaves items span none b t c n shared =
    let first = shared.in_first in let first0 = first.0 in let first1 = first.1 in let before = shared.before in
    none (omega (arith, ints), omega (arith, ints))

-- one more that shares none
pub none_more : (leaves : Busy → Bool) (items : List Busy) (wanted : List Single) (k : ℕ) (d : Single) → k < length wanted → IsSharedIn leaves items (get_or wanted k d).span None
    → (AreTaken leaves items (Contains (drop k wanted)) None → AreTaken leaves items (Contains wanted) None) → AreTaken leaves items (Contains (drop (k + 1) wanted)) None → AreTaken leaves items (Contains wanted) None
none_more leaves items wanted k d within none before rest = before (λ s c.
    elim (in_cons (get_or wanted k d) (drop (suc k) wanted) s (subst (λ (l : List Single). Contains l s) (drop-cons wanted k d within) c)) [
      | inl here ↦ subst (λ (z : Single). IsSharedIn leaves items z.span None) here none
      | inr later ↦ rest s (subst (λ (n : ℕ). Contains (drop n wanted) s) next later)
    ])
  where
    next : suc k ≡ k + 1
    next = omega arith

-- where it doesn't leave, none of those that are wanted shares an instant with it
abbrev pub IsNoneTaken : (Busy → Bool) → (Single → Type 0) → Busy → Type 0
IsNoneTaken leaves wanted b = (s : Single) (t : ℤ) → wanted s → leaves b ≡ false → HaveInstant s.span b.single.span t → ⊥

-- ---- one less, one more

-- one that is there is the first after its start
pub is_at_place : (items : List Busy) (x : Busy) (place : ℕ) → AreBusy items → IsPlaceAfter items x.single.span.start place → Contains items x
    → (place < length items) × (items ≡ take place items ++ x ∷ drop (suc place) items)
is_at_place items x place busy at c = (within, sym (take-append-drop place items) ∙ ap (λ l. take place items ++ l) rest_is)
  where
    holds : x.single.span.start <ℤ x.single.span.end
    holds = (busy.hold x c).0

    in_rest : Contains (drop place items) x
    in_rest = elim (Contains-append_cases (take place items) (drop place items) x (subst (λ (l : List Busy). Contains l x) (sym (take-append-drop place items)) c)) [
      | inl l ↦ (let e = at.before x l in let h = holds in absurd (omega (arith, ints)))
      | inr r ↦ r
    ]

    within : place < length items
    within = (let l = in_rest.1 in omega (arith, length-drop place items))

    opened : drop place items ≡ get_or items place x ∷ drop (suc place) items
    opened = drop-cons items place x within

    first_ends : x.single.span.start <ℤ (get_or items place x).single.span.end
    first_ends = at.after (get_or items place x) (subst (λ (l : List Busy). Contains l (get_or items place x)) (sym opened) (in_head (get_or items place x) (drop (suc place) items)))

    apart : AreApart (get_or items place x ∷ drop (suc place) items)
    apart = subst AreApart opened (apart_right (take place items) (drop place items) (subst AreApart (sym (take-append-drop place items)) (apart_of items busy.apart)))

    same : get_or items place x ≡ x
    same = elim (in_cons (get_or items place x) (drop (suc place) items) x (subst (λ (l : List Busy). Contains l x) opened in_rest)) [
      | inl e ↦ e
      | inr r ↦ (let e = apart.0 x r in let f = first_ends in absurd (omega (arith, ints)))
    ]

    rest_is : drop place items ≡ x ∷ drop (suc place) items
    rest_is = opened ∙ ap (λ (z : Busy). z ∷ drop (suc place) items) same

-- without it
module _ (A R : List Busy) (x : Busy) (busy : AreBusy (A ++ x ∷ R)) where
  kept_in : (b : Busy) → Contains (A ++ R) b → Contains (A ++ x ∷ R) b
  kept_in b c = elim (Contains-append_cases A R b c) [
    | inl l ↦ Contains-append_left A (x ∷ R) b l
    | inr r ↦ Contains-append_right A (x ∷ R) b (in_tail x R b r)
  ]

  pub busy_without : AreBusy (A ++ R)
  busy_without = record {
    hold = λ b c. busy.hold b (kept_in b c);
    apart =
        let all = apart_of (A ++ x ∷ R) busy.apart in
        pairs_of (A ++ R) (apart_join A R (apart_left A (x ∷ R) all) (apart_right A (x ∷ R) all).1 (λ a c l r. apart_across A (x ∷ R) all a c l (in_tail x R c r)));
  }

pub cases_int : (a b : ℤ) → (a ≤ℤ b) ⊎ (b <ℤ a)
cases_int a b = search (arith, ints)

-- spans that hold instants and share none: the one that ends later starts when the other has ended
later_starts : (s t : Span) → HoldsInstants s → HoldsInstants t → ((i : ℤ) → HaveInstant s t i → ⊥) → s.start <ℤ t.end → s.end ≤ℤ t.start
later_starts s t hs ht none l = elim (cases_int s.end t.start) [
  | inl e ↦ e
  | inr f ↦ elim (cases_int s.start t.start) [
    | inl g ↦ absurd (none t.start (record { in_first = (g, f); in_second = (omega (arith, ints), ht.0); before = ht.1 }))
    | inr g ↦ absurd (none s.start (record { in_first = (omega (arith, ints), hs.0); in_second = (omega (arith, ints, g), l); before = hs.1 }))
  ]
]

-- with one more
module _ (items : List Busy) (x : Busy) (place : ℕ) (busy : AreBusy items) (at : IsPlaceAfter items x.single.span.start place) (holds : HoldsInstants x.single.span)
    (free : (b : Busy) (t : ℤ) → Contains items b → HaveInstant x.single.span b.single.span t → ⊥) where
  from_take : (b : Busy) → Contains (take place items) b → Contains items b
  from_take b c = subst (λ (l : List Busy). Contains l b) (take-append-drop place items) (Contains-append_left (take place items) (drop place items) b c)

  from_drop : (b : Busy) → Contains (drop place items) b → Contains items b
  from_drop b c = subst (λ (l : List Busy). Contains l b) (take-append-drop place items) (Contains-append_right (take place items) (drop place items) b c)

  split : AreApart (take place items ++ drop place items)
  split = subst AreApart (sym (take-append-drop place items)) (apart_of items busy.apart)

  pub busy_with : AreBusy (take place items ++ x ∷ drop place items)
  unfolding from_take from_drop split
  busy_with = record {
    hold = λ b c. elim (Contains-append_cases (take place items) (x ∷ drop place items) b c) [
      | inl l ↦ busy.hold b (from_take b l)
      | inr r ↦ elim (in_cons x (drop place items) b r) [ inl e ↦ subst (λ (z : Busy). HoldsInstants z.single.span) e holds | inr s ↦ busy.hold b (from_drop b s) ]
    ];
    apart = pairs_of (take place items ++ x ∷ drop place items) (apart_join (take place items) (x ∷ drop place items) (apart_left (take place items) (drop place items) split)
        ((λ c h. later_starts x.single.span c.single.span holds (busy.hold c (from_drop c h)) (λ t. free c t (from_drop c h)) (at.after c h)), apart_right (take place items) (drop place items) split)
        (λ a c l r. elim (in_cons x (drop place items) c r) [
          | inl e ↦ subst (λ (z : Busy). a.single.span.end ≤ℤ z.single.span.start) e (at.before a l)
          | inr s ↦ apart_across (take place items) (drop place items) split a c l s
        ]));
  }

-- ---- what they are of

pub holds_from : (s : Span) → HoldsInstants s → holds_instants s ≡ true
holds_from s h = and_from _ _ (lt_from s.start s.end h.0) (lt_from s.start horizon h.1)
  where
    lt_from : (a b : ℤ) → a <ℤ b → int_lt a b ≡ true
    lt_from a b l = search (arith, ints)

pub holds_to : (s : Span) → holds_instants s ≡ true → HoldsInstants s
holds_to s h = let both = and_parts _ _ h in (lt_at s.start s.end both.0, lt_at s.start horizon both.1)
  where
    lt_at : (a b : ℤ) → int_lt a b ≡ true → a <ℤ b
    lt_at a b l = search (arith, ints)

holds_not : (s : Span) → (HoldsInstants s → ⊥) → holds_instants s ≡ false
holds_not s h = search (arith, ints)

-- it ends by the instant
abbrev pub ends_by : ℤ → Busy → Bool
ends_by t b = not (int_lt t b.single.span.end)

pub ends_from : (t : ℤ) (b : Busy) → ends_by t b ≡ true → b.single.span.end ≤ℤ t
ends_from t b h = search (arith, ints)

pub ends_to : (t : ℤ) (b : Busy) → b.single.span.end ≤ℤ t → ends_by t b ≡ true
ends_to t b h = search (arith, ints)

pub ends_not : (t : ℤ) (b : Busy) → ends_by t b ≡ false → t <ℤ b.single.span.end
ends_not t b h = search (arith, ints)

-- ---- tests of what is there

pub single_same : (a b : Single) → same_single a b ≡ true → a ≡ b
single_same a b h =
    let p = and_parts _ _ h in
    let q = and_parts _ _ p.1 in
    let slot = (Decides-int_eq a.slot b.slot).0 p.0 in
    let start = (Decides-int_eq a.span.start b.span.start).0 q.0 in
    let end = (Decides-int_eq a.span.end b.span.end).0 q.1 in
    λ i. record { slot = slot i; span = record { start = start i; end = end i } }

pub single_itself : (a : Single) → same_single a a ≡ true
single_itself a = and_from _ _ ((Decides-int_eq a.slot a.slot).1 refl) (and_from _ _ ((Decides-int_eq a.span.start a.span.start).1 refl) ((Decides-int_eq a.span.end a.span.end).1 refl))

pub busy_same : (a b : Busy) → same_busy a b ≡ true → a ≡ b
busy_same a b h =
    let p = and_parts _ _ h in
    let single = single_same a.single b.single p.0 in
    let place = eqb-true a.place b.place p.1 in
    λ i. record { single = single i; place = place i }

pub busy_itself : (a : Busy) → same_busy a a ≡ true
busy_itself a = and_from _ _ (single_itself a.single) (eq-eqb a.place a.place refl)

pub has_from : (items : List Busy) (x : Busy) → Contains items x → has_busy x items ≡ true
has_from items x c = any_from (same_busy x) items x c (busy_itself x)

pub has_at : (items : List Busy) (x : Busy) → has_busy x items ≡ true → Contains items x
has_at items x h = let r = any_at (same_busy x) items h in subst (Contains items) (sym (busy_same x r.0 r.2)) r.1

pub single_from : (singles : List Single) (s : Single) → Contains singles s → has_single s singles ≡ true
single_from singles s c = any_from (same_single s) singles s c (single_itself s)

pub single_at : (singles : List Single) (s : Single) → has_single s singles ≡ true → Contains singles s
single_at singles s h = let r = any_at (same_single s) singles h in subst (Contains singles) (sym (single_same s r.0 r.2)) r.1

-- ---- one less

-- what isn't there is no other one
less_at : (left right same : Bool) → (same ≡ true → (left || right) ≡ false) → (left || right) ≡ ((left || (same || right)) && not same)
less_at left right true h = h refl ∙ nothing (left || true)
  where
    nothing : (b : Bool) → false ≡ (b && false)
    nothing true = refl
    nothing false = refl
less_at true right false h = refl
less_at false true false h = refl
less_at false false false h = refl

module _ (A R : List Busy) (x : Busy) (busy : AreBusy (A ++ x ∷ R)) where
  pub not_twice : has_busy x (A ++ R) ≡ false
  not_twice = false_from_ne_true _ (λ h.
      let all = apart_of (A ++ x ∷ R) busy.apart in
      let holds = (busy.hold x (Contains-append_right A (x ∷ R) x (in_head x R))).0 in
      elim (Contains-append_cases A R x (has_at (A ++ R) x h)) [
        | inl l ↦ (let e = apart_across A (x ∷ R) all x x l (in_head x R) in omega (arith, ints))
        | inr r ↦ (let e = (apart_right A (x ∷ R) all).0 x r in omega (arith, ints))
      ])

  pub less_by : IsTakenOut x (A ++ x ∷ R) (A ++ R)
  less_by y =
      list_any-append (same_busy y) A R
      ∙ less_at (has_busy y A) (has_busy y R) (same_busy y x) (λ e. sym (list_any-append (same_busy y) A R) ∙ ap (λ z. has_busy z (A ++ R)) (busy_same y x e) ∙ not_twice)
      ∙ sym (ap (λ b. b && not (same_busy y x)) (list_any-append (same_busy y) A (x ∷ R)))

-- an instance that was confirmed is taken out
module _ (items : List Busy) (x : Busy) (busy : AreBusy items) where
  module _ (there : has_busy x items ≡ true) (at : ℕ) (is_at : IsPlaceAfter items x.single.span.start at) where
    found : (at < length items) × (items ≡ take at items ++ x ∷ drop (suc at) items)
    found = is_at_place items x at busy is_at (has_at items x there)

    pub taken_within : at < length items
    taken_within = found.0

    pub taken_busy : AreBusy (remove items at)
    taken_busy = busy_without (take at items) (drop (suc at) items) x (subst AreBusy found.1 busy)

    pub taken_out : IsTakenOut x items (remove items at)
    taken_out = subst (λ (l : List Busy). IsTakenOut x l (remove items at)) (sym found.1) (less_by (take at items) (drop (suc at) items) x (subst AreBusy found.1 busy))

  pub nothing_out : (HoldsInstants x.single.span → ⊥) → IsTakenOut x items items
  nothing_out none y = kept (has_busy y items) (same_busy y x) (λ e. false_from_ne_true _ (λ h. none (subst (λ (z : Busy). HoldsInstants z.single.span) (busy_same y x e) (busy.hold y (has_at items y h)))))
    where
      kept : (has same : Bool) → (same ≡ true → has ≡ false) → has ≡ (has && not same)
      kept true true h = absurd (true≢false (h refl))
      kept true false h = refl
      kept false same h = refl

-- ---- one more

more_at : (left right same holds : Bool) → (same ≡ true → holds ≡ true) → (left || (same || right)) ≡ ((left || right) || (holds && same))
more_at true right same holds h = refl
more_at false true true holds h = refl
more_at false true false holds h = refl
more_at false false true holds h = sym (ap (λ b. b && true) (h refl))
more_at false false false true h = refl
more_at false false false false h = refl

-- an instance that is confirmed is put in
module _ (items : List Busy) (x : Busy) (busy : AreBusy items) where
  module _ (holds : HoldsInstants x.single.span) (at : ℕ) (is_at : IsPlaceAfter items x.single.span.start at) where
    pub put_busy : IsFreeAmong items x.single.span → AreBusy (insert items at x)
    put_busy free = busy_with items x at busy is_at holds free

    pub put_in : IsPut x items (insert items at x)
    put_in y =
        list_any-append (same_busy y) (take at items) (x ∷ drop at items)
        ∙ more_at (has_busy y (take at items)) (has_busy y (drop at items)) (same_busy y x) (holds_instants y.single.span)
        (λ e. ap (λ (z : Busy). holds_instants z.single.span) (busy_same y x e) ∙ holds_from x.single.span holds)
        ∙ ap (λ b. b || (holds_instants y.single.span && same_busy y x)) (sym (list_any-append (same_busy y) (take at items) (drop at items)) ∙ ap (has_busy y) (take-append-drop at items))

  pub nothing_in : (HoldsInstants x.single.span → ⊥) → IsPut x items items
  nothing_in none y = kept (has_busy y items) (holds_instants y.single.span) (same_busy y x) (λ e. ap (λ (z : Busy). holds_instants z.single.span) (busy_same y x e) ∙ holds_not x.single.span none)
    where
      kept : (has holds same : Bool) → (same ≡ true → holds ≡ false) → has ≡ (has || (holds && same))
      kept true holds same h = refl
      kept false true true h = sym (h refl)
      kept false true false h = refl
      kept false false same h = refl

-- ---- all of a meeting, one after another

other_place : (x : Busy) (place : ℕ) (s : Single) → x.place ≢ place → same_busy x (busy_in place s) ≡ false
other_place x place s n = false_from_ne_true _ (λ e. n (eqb-true x.place place (and_parts _ _ e).1))

module _ (place : ℕ) (s : Single) (rest : List Single) (old mid new : List Busy) where
  drop_one : (holds same more here : Bool) → here ≡ true → (holds ≡ true → same ≡ true → more ≡ false) → ((holds && (same || more)) && not (same && here)) ≡ (holds && more)
  drop_one false same more here e h = refl
  drop_one true true more true e h = sym (h refl refl)
  drop_one true true more false e h = absurd (true≢false (sym e))
  drop_one true false true here e h = refl
  drop_one true false false here e h = refl

  keep_one : (has same : Bool) → same ≡ false → (has && not same) ≡ has
  keep_one true true e = sym e
  keep_one true false e = refl
  keep_one false same e = refl

  pub take_step : (holds_instants s.span ≡ true → has_single s rest ≡ false) → IsChanged place (s ∷ rest) old mid → IsTakenOut (busy_in place s) mid new → IsChanged place rest old new
  take_step once changed taken = record {
    own = λ x e. taken x ∙ ap (λ b. b && not (same_busy x (busy_in place s))) (changed.own x e)
        ∙ drop_one (holds_instants x.single.span) (same_single x.single s) (has_single x.single rest) (x.place == place) (eq-eqb x.place place e)
        (λ holds same. (let is = single_same x.single s same in ap (λ z. has_single z rest) is ∙ once (ap (λ (z : Single). holds_instants z.span) (sym is) ∙ holds)));
    others = λ x n. taken x ∙ keep_one (has_busy x mid) (same_busy x (busy_in place s)) (other_place x place s n) ∙ changed.others x n;
  }

  pub take_held : IsChanged place (s ∷ rest) old mid → HoldsInstants s.span → has_busy (busy_in place s) mid ≡ true
  take_held changed holds = changed.own (busy_in place s) refl ∙ and_from _ _ (holds_from s.span holds) (ap (λ b. b || has_single s rest) (single_itself s))

pub unchanged : (place : ℕ) (singles : List Single) (items : List Busy) → AreAt place singles items → IsChanged place singles items items
unchanged place singles items held = record { own = held; others = λ x n. refl }

-- what is there, and what is still to be put in, is all that the meeting confirms
pub record IsPutting (place : ℕ) (left all : List Single) (old new : List Busy) : Type 0 where
  pub own : (x : Busy) → x.place ≡ place → (has_busy x new || (holds_instants x.single.span && has_single x.single left)) ≡ (holds_instants x.single.span && has_single x.single all)
  pub others : (x : Busy) → x.place ≢ place → has_busy x new ≡ has_busy x old

and_none : (b : Bool) → (b && false) ≡ false
and_none true = refl
and_none false = refl

or_none : (b : Bool) → (b || false) ≡ b
or_none true = refl
or_none false = refl

pub put_step : (place : ℕ) (s : Single) (rest all : List Single) (old mid new : List Busy) → IsPutting place (s ∷ rest) all old mid → IsPut (busy_in place s) mid new → IsPutting place rest all old new
put_step place s rest all old mid new putting put = record {
  own = λ x e.
      ap (λ b. b || (holds_instants x.single.span && has_single x.single rest)) (put x ∙ ap (λ h. has_busy x mid || (holds_instants x.single.span && (same_single x.single s && h))) (eq-eqb x.place place e))
      ∙ one_of (has_busy x mid) (holds_instants x.single.span) (same_single x.single s) (has_single x.single rest) ∙ putting.own x e;
  others = λ x n. put x ∙ ap (λ b. has_busy x mid || (holds_instants x.single.span && b)) (other_place x place s n) ∙ ap (λ b. has_busy x mid || b) (and_none (holds_instants x.single.span)) ∙ or_none (has_busy x mid) ∙ putting.others x n;
}
  where
    one_of : (has holds same more : Bool) → ((has || (holds && (same && true))) || (holds && more)) ≡ (has || (holds && (same || more)))
    one_of true holds same more = refl
    one_of false false same more = refl
    one_of false true true more = refl
    one_of false true false more = refl

pub putting_last : (place : ℕ) (all : List Single) (old new : List Busy) → IsPutting place [] all old new → IsChanged place all old new
putting_last place all old new putting = record {
  own = λ x e. sym (ap (λ b. has_busy x new || b) (and_none (holds_instants x.single.span)) ∙ or_none (has_busy x new)) ∙ putting.own x e;
  others = putting.others;
}

-- what is free stays so beside one that is apart from it
pub free_step : (place : ℕ) (s : Single) (mid new : List Busy) (span : Span) → IsPut (busy_in place s) mid new → IsFreeAmong mid span → ((t : ℤ) → HaveInstant s.span span t → ⊥) → IsFreeAmong new span
free_step place s mid new span put free apart b t c h =
    side (has_busy b mid) (holds_instants b.single.span) (same_busy b (busy_in place s)) refl refl (sym (put b) ∙ has_from new b c)
  where
    side : (has holds same : Bool) → has_busy b mid ≡ has → same_busy b (busy_in place s) ≡ same → (has || (holds && same)) ≡ true → ⊥
    side true holds same e f g = free b t (has_at mid b e) h
    side false true true e f g =
        let shared = subst (λ (z : Busy). HaveInstant span z.single.span t) (busy_same b (busy_in place s) f) h in
        apart t (record { in_first = shared.in_second; in_second = shared.in_first; before = shared.before })
    side false true false e f g = true≢false (sym g)
    side false false same e f g = true≢false (sym g)

-- an element is apart from each later one
pub later_apart : (xs : List Single) (k : ℕ) (d : Single) → AreSeparate xs → k < length xs → (s : Single) → Contains (drop (suc k) xs) s → (t : ℤ) → HaveInstant (get_or xs k d).span s.span t → ⊥
later_apart xs k d separate l s c t h =
    let n = length-drop (suc k) xs in
    let within = c.1 in
    let j : ℕ = suc k + c.0 in
    let here : j < length xs = omega (arith, n, within, l) in
    let same : get_or xs j d ≡ s = sym (get_or-drop (suc k) xs c.0 d) ∙ get_or_default (drop (suc k) xs) c.0 d s c.1 ∙ c.2 in
    separate k j d (omega arith) here t (subst (λ (z : Single). HaveInstant (get_or xs k d).span z.span t) (sym same) h)

-- so one that holds an instant isn't among them
pub separate_once : (xs : List Single) (k : ℕ) (d : Single) → AreSeparate xs → k < length xs → holds_instants (get_or xs k d).span ≡ true → has_single (get_or xs k d) (drop (suc k) xs) ≡ false
separate_once xs k d separate l holds = false_from_ne_true _ (λ h.
    let s = get_or xs k d in
    let both = holds_to s.span holds in
    let first = both.0 in
    later_apart xs k d separate l s (single_at (drop (suc k) xs) s h) s.span.start (record { in_first = (omega (arith, ints), first); in_second = (omega (arith, ints), first); before = both.1 }))

-- ---- the change of a place

-- one after another
pub changed_then : (place : ℕ) (a b : List Single) (old mid new : List Busy) → IsChanged place a old mid → IsChanged place b mid new → IsChanged place b old new
changed_then place a b old mid new h k = record { own = k.own; others = λ x n. k.others x n ∙ h.others x n }
