-- The places of overrides: in order, and what two binary searches find among them.
-- Cited by first_moved of instances, override_at of instances, Places::first of places, Places::of of places, Places::which of places.
use Rattle.std.proofs.Common.{◌≡◌, ◌∙◌, ℕ, zero, suc, ◌+◌, ◌<◌, ◌≤◌, Bool, true, false, not, ◌&&◌, ◌||◌, List, [], ◌∷◌, ◌++◌, length, get_or, subst, sym, refl, ap, inl, inr, ◌⊎◌, arith, ℤ, ◌<ℤ◌, Ordering}
use Rattle.std.specs.Prelude.{Option, Some, None, All, Contains, int_lt}
use Rattle.std.specs.List.{list_any}
use Rattle.std.specs.declared.cmp.Ordering.TheVariants.{Less, Equal, Greater}
use Rattle.std.specs.Ordering.{is_lt, int_eq, int_cmp, nat_cmp, ordering_then}
use Rattle.std.specs.Cmp.{IsTotalOrder}
use Rattle.std.specs.List.Sorted.{IsPermutation, IsSorted, IsPartitionedBy, IsPartitionPoint}
use Rattle.std.proofs.lemmas.Bool.{true≢false, false≢true, and_parts, cases_lt}
use Rattle.std.proofs.lemmas.Bool.Decides.{Decides-int_eq}
use Rattle.std.proofs.lemmas.Cmp.{on_total, then_total, nat_cmp_total, int_cmp_total, int_ranked}
use Rattle.std.proofs.lemmas.Int.{ints}
use Rattle.std.proofs.lemmas.Option.{same_Some}
use Rattle.std.proofs.lemmas.List.{get_or_default}
use Rattle.std.proofs.lemmas.List.Elements.{All-append, All-contains, Contains-append_left, Contains-append_right}
use Rattle.std.proofs.lemmas.List.Folds.{list_any_at}
use Rattle.std.proofs.lemmas.List.Sorted.{sorted_far, ranks_by, Contains-permutation, All-permutation}
use Rattle.cal_events.specs.Instances.{IsAtPlace, IsAfter, IsBefore, IsPastSlot, IsMovedTo, IsSoonest}
use Rattle.cal_events.specs.PlaceOrder.{moved_cmp}
use Rattle.cal_events.specs.Places.{place_of, is_past_slot, is_to_come, is_left_of, is_there, IsMovedOf, ArePlaces, IsPlaceToCome, IsWhichAt}
use Rattle.cal_events.specs.declared.component.EventComponent.{EventComponent}
use Rattle.cal_events.specs.declared.instances.Bound.{Bound}
use Rattle.cal_events.specs.declared.instances.InstancePlace.{InstancePlace}
use Rattle.cal_events.specs.declared.places.Moved.{Moved}
use Rattle.cal_events.proofs.shared_lemmas.InOneOrder.{later}
use Rattle.cal_events.proofs.shared_lemmas.InstanceLemmas.{soonest_same}
use Rattle.cal_events.proofs.shared_lemmas.WholeLists.{order, past}

-- ---- tests

both_true : (a b : Bool) → a ≡ true → b ≡ true → (a && b) ≡ true
both_true true true p q = refl
both_true true false p q = q
both_true false b p q = p

or_left : (a b : Bool) → a ≡ true → (a || b) ≡ true
or_left true b p = refl
or_left false b p = absurd (false≢true p)

or_right : (a b : Bool) → b ≡ true → (a || b) ≡ true
or_right true b p = refl
or_right false b p = p

or_parts : (a b : Bool) → (a || b) ≡ true → (a ≡ true) ⊎ (b ≡ true)
or_parts true b p = inl refl
or_parts false b p = inr p

less_is : (x y : ℤ) → x <ℤ y → int_lt x y ≡ true
less_is x y l = grind (arith, ints)

is_less : (x y : ℤ) → int_lt x y ≡ true → x <ℤ y
is_less x y h = grind (arith, ints)

same_is : (x y : ℤ) → x ≡ y → int_eq x y ≡ true
same_is x y e = (Decides-int_eq x y).1 e

is_same : (x y : ℤ) → int_eq x y ≡ true → x ≡ y
is_same x y h = (Decides-int_eq x y).0 h

past_is : (o : Option ℤ) (slot : ℤ) → IsPastSlot o slot → is_past_slot o slot ≡ true
past_is None slot h = refl
past_is (Some last) slot h = less_is last slot h

is_past : (o : Option ℤ) (slot : ℤ) → is_past_slot o slot ≡ true → IsPastSlot o slot
is_past None slot h = tt
is_past (Some last) slot h = is_less last slot h

pub to_come_is : (after : Bound) (m : Moved) → IsAfter after m.start m.slot → is_to_come after m ≡ true
to_come_is after m (inl l) = or_left _ _ (less_is after.start m.start l)
to_come_is after m (inr (e, p)) = or_right (int_lt after.start m.start) _ (both_true _ _ (same_is after.start m.start e) (past_is after.slot m.slot p))

pub is_after : (after : Bound) (m : Moved) → is_to_come after m ≡ true → IsAfter after m.start m.slot
is_after after m h = elim (or_parts (int_lt after.start m.start) _ h) [
  | inl l ↦ inl (is_less after.start m.start l)
  | inr r ↦ let p = and_parts (int_eq after.start m.start) _ r in inr (is_same after.start m.start p.0, is_past after.slot m.slot p.1)
]

pub left_is : (place : InstancePlace) (m : Moved) → IsBefore (place_of m) place → is_left_of place m ≡ true
left_is place m (inl l) = or_left _ _ (less_is m.start place.start l)
left_is place m (inr (e, l)) = or_right (int_lt m.start place.start) _ (both_true _ _ (same_is m.start place.start e) (less_is m.slot place.slot l))

pub is_left : (place : InstancePlace) (m : Moved) → is_left_of place m ≡ true → IsBefore (place_of m) place
is_left place m h = elim (or_parts (int_lt m.start place.start) _ h) [
  | inl l ↦ inl (is_less m.start place.start l)
  | inr r ↦ let p = and_parts (int_eq m.start place.start) _ r in inr (is_same m.start place.start p.0, is_less m.slot place.slot p.1)
]

pub same_place : (m : Moved) (place : InstancePlace) → m.start ≡ place.start → m.slot ≡ place.slot → place_of m ≡ place
same_place m place p q = λ i. record { start = p i; slot = q i }

pub not_there : (m : Moved) (place : InstancePlace) → is_there place m ≡ false → place_of m ≡ place → ⊥
not_there m place h is =
    true≢false (sym (both_true _ _ (same_is m.start place.start (ap (λ (p : InstancePlace). p.start) is)) (same_is m.slot place.slot (ap (λ (p : InstancePlace). p.slot) is))) ∙ h)

-- ---- in order

moved_total : IsTotalOrder moved_cmp
moved_total =
    then_total (on_total (λ (m : Moved). m.start) int_cmp_total)
    (then_total (on_total (λ (m : Moved). m.slot) int_cmp_total) (on_total (λ (m : Moved). m.which) nat_cmp_total))

-- what isn't less comes not before
not_before : (a b : Moved) → is_lt (moved_cmp a b) ≡ false → IsBefore (place_of a) (place_of b) → ⊥
not_before a b h before = go (int_cmp a.start b.start) (int_cmp a.slot b.slot) refl refl h before
  where
    go : (x y : Ordering) → x ≡ int_cmp a.start b.start → y ≡ int_cmp a.slot b.slot → is_lt (ordering_then x (ordering_then y (nat_cmp a.which b.which))) ≡ false → IsBefore (place_of a) (place_of b) → ⊥
    go Less y e f h before = true≢false h
    go Equal Less e f h before = true≢false h
    go Equal Equal e f h before =
        let s : a.start ≡ b.start = int_ranked _ _ Equal e in
        let t : a.slot ≡ b.slot = int_ranked _ _ Equal f in
        elim before [ inl l ↦ omega (arith, ints, s, l) | inr (_, l) ↦ omega (arith, ints, t, l) ]
    go Equal Greater e f h before =
        let s : a.start ≡ b.start = int_ranked _ _ Equal e in
        let t : b.slot <ℤ a.slot = int_ranked _ _ Greater f in
        elim before [ inl l ↦ omega (arith, ints, s, l) | inr (_, l) ↦ omega (arith, ints, t, l) ]
    go Greater y e f h before =
        let s : b.start <ℤ a.start = int_ranked _ _ Greater e in
        elim before [ inl l ↦ omega (arith, ints, s, l) | inr (q, l) ↦ omega (arith, ints, s, q) ]

module _ (ms : List Moved) (up : IsSorted moved_cmp ms) where
  far : (i j : ℕ) (d : Moved) → i ≤ j → j < length ms → IsBefore (place_of (get_or ms j d)) (place_of (get_or ms i d)) → ⊥
  far i j d a b =
      not_before (get_or ms j d) (get_or ms i d) (sorted_far (λ x y. is_lt (moved_cmp x y)) (ranks_by moved_total (λ (m : Moved). m)) ms up i j d a b)

  -- where one is to come, so is each later one
  to_come_later : (after : Bound) (x y : Moved) → (IsBefore (place_of y) (place_of x) → ⊥) → IsAfter after x.start x.slot → IsAfter after y.start y.slot
  to_come_later after x y apart h = go (split y.start x.start) h
    where
      split : (a b : ℤ) → (a <ℤ b) ⊎ ((a ≡ b) ⊎ (b <ℤ a))
      split = order

      go : (y.start <ℤ x.start) ⊎ ((y.start ≡ x.start) ⊎ (x.start <ℤ y.start)) → IsAfter after x.start x.slot → IsAfter after y.start y.slot
      go (inl less) h = absurd (apart (inl less))
      go (inr (inr more)) (inl l) = inl (omega (arith, ints, l, more))
      go (inr (inr more)) (inr (e, p)) = inl (omega (arith, ints, e, more))
      go (inr (inl same)) (inl l) = inl (omega (arith, ints, l, same))
      go (inr (inl same)) (inr (e, p)) = elim (split y.slot x.slot) [
        | inl less ↦ absurd (apart (inr (same, less)))
        | inr o ↦ inr (e ∙ sym same, elim o [ inl q ↦ subst (IsPastSlot after.slot) (sym q) p | inr more ↦ past after.slot x.slot y.slot p more ])
      ]

  pub to_come_parted : (after : Bound) → IsPartitionedBy (λ m. not (is_to_come after m)) ms
  to_come_parted after i j d a b h = go (is_to_come after (get_or ms i d)) refl
    where
      go : (t : Bool) → is_to_come after (get_or ms i d) ≡ t → not t ≡ true
      go false e = refl
      go true e =
          let there = to_come_is after (get_or ms j d) (to_come_later after (get_or ms i d) (get_or ms j d) (far i j d a b) (is_after after (get_or ms i d) e)) in
          sym (ap not there) ∙ h

  pub left_parted : (place : InstancePlace) → IsPartitionedBy (is_left_of place) ms
  left_parted place i j d a b h =
      left_is place (get_or ms i d) (earlier (get_or ms i d) (get_or ms j d) (far i j d a b) (is_left place (get_or ms j d) h))
    where
      earlier : (x y : Moved) → (IsBefore (place_of y) (place_of x) → ⊥) → IsBefore (place_of y) place → IsBefore (place_of x) place
      earlier x y apart before = elim (order x.start y.start) [
        | inl less ↦ elim before [ inl l ↦ inl (omega (arith, ints, less, l)) | inr (e, l) ↦ inl (omega (arith, ints, less, e)) ]
        | inr o ↦ elim o [
          | inl same ↦ elim before [
            | inl l ↦ inl (omega (arith, ints, same, l))
            | inr (e, l) ↦ elim (order y.slot x.slot) [
              | inl less ↦ absurd (apart (inr (sym same, less)))
              | inr q ↦ inr (same ∙ e, elim q [ inl s ↦ omega (arith, ints, s, l) | inr more ↦ omega (arith, ints, more, l) ])
            ]
          ]
          | inr more ↦ absurd (apart (inl more))
        ]
      ]

  -- ---- the first that is to come

  module _ (after : Bound) (at : ℕ) (point : IsPartitionPoint (λ m. not (is_to_come after m) ≡ true) (λ m. not (is_to_come after m) ≡ false) ms at) where
    before_at : (k : ℕ) (m : Moved) → k < at → k < length ms → get_or ms k m ≡ m → IsAfter after m.start m.slot → ⊥
    before_at k m lt w e h =
        let past : not (is_to_come after m) ≡ true = subst (λ (x : Moved). not (is_to_come after x) ≡ true) e (point.0 k m (omega arith) lt) in
        false≢true (sym (ap not (to_come_is after m h)) ∙ past)

    pub first_found : (m : Moved) → at < length ms → get_or ms at m ≡ m → IsSoonest (IsPlaceToCome ms after) (Some (place_of m))
    first_found m w e = (
      (m, (at, w, e), refl, is_after after m (yes (is_to_come after m) (subst (λ (x : Moved). not (is_to_come after x) ≡ false) e (point.1 at m (omega arith) w)))),
      λ q (n, (k, v, f), is, h) before. elim (cases_lt k at) [
        | inl lt ↦ before_at k n lt v f (subst (λ (p : InstancePlace). IsAfter after p.start p.slot) (sym is) h)
        | inr le ↦ far at k n le v (subst (λ (x : Moved). IsBefore (place_of x) (place_of (get_or ms at n))) (sym f)
            (subst (λ (x : Moved). IsBefore (place_of n) (place_of x)) (sym (get_or_default ms at n m w ∙ e)) (subst (λ (p : InstancePlace). IsBefore p (place_of m)) (sym is) before)))
      ],
    )
      where
        yes : (t : Bool) → not t ≡ false → t ≡ true
        yes true h = refl
        yes false h = absurd (true≢false h)

    pub none_found : length ms ≤ at → IsSoonest (IsPlaceToCome ms after) None
    none_found le p (m, (k, w, e), is, h) = before_at k m (omega (arith, w, le)) w e (subst (λ (q : InstancePlace). IsAfter after q.start q.slot) (sym is) h)

  -- ---- the one at a place

  module _ (place : InstancePlace) (at : ℕ) (point : IsPartitionPoint (λ m. is_left_of place m ≡ true) (λ m. is_left_of place m ≡ false) ms at) where
    not_left : (m : Moved) → place_of m ≡ place → IsBefore (place_of m) place → ⊥
    not_left m is (inl l) = let s = ap (λ (p : InstancePlace). p.start) is in omega (arith, ints, s, l)
    not_left m is (inr (_, l)) = let s = ap (λ (p : InstancePlace). p.slot) is in omega (arith, ints, s, l)

    from_at : (k : ℕ) (m : Moved) → k < length ms → get_or ms k m ≡ m → place_of m ≡ place → at ≤ k
    from_at k m w e is = elim (cases_lt k at) [
      | inl lt ↦ absurd (not_left m is (is_left place m (subst (λ (x : Moved). is_left_of place x ≡ true) e (point.0 k m (omega arith) lt))))
      | inr le ↦ le
    ]

    pub none_at : length ms ≤ at → (m : Moved) → Contains ms m → place_of m ≡ place → ⊥
    none_at le m (k, w, e) is = let l = from_at k m w e is in omega (arith, w, le, l)

    -- the one that the search stops at is elsewhere, so none is there
    pub none_there : (m : Moved) → at < length ms → get_or ms at m ≡ m → (place_of m ≡ place → ⊥) → (n : Moved) → Contains ms n → place_of n ≡ place → ⊥
    none_there m w e not n (k, v, f) is =
        let l = from_at k n v f is in
        let right : IsBefore (place_of m) place → ⊥ = λ b. true≢false (sym (left_is place m b) ∙ subst (λ (x : Moved). is_left_of place x ≡ false) e (point.1 at m (omega arith) w)) in
        let below : IsBefore place (place_of m) → ⊥ = λ b. far at k n l v (subst (λ (x : Moved). IsBefore (place_of x) (place_of (get_or ms at n))) (sym f)
        (subst (λ (x : Moved). IsBefore (place_of n) (place_of x)) (sym (get_or_default ms at n m w ∙ e)) (subst (λ (p : InstancePlace). IsBefore p (place_of m)) (sym is) b))) in
        not (elim (order m.start place.start) [
          | inl less ↦ absurd (right (inl less))
          | inr o ↦ elim o [
            | inr more ↦ absurd (below (inl more))
            | inl s ↦ elim (order m.slot place.slot) [
              | inl less ↦ absurd (right (inr (s, less)))
              | inr q ↦ elim q [ inl t ↦ same_place m place s t | inr more ↦ absurd (below (inr (sym s, more))) ]
            ]
          ]
        ])

-- ---- those of overrides

-- of the first n
pub record AreFound (os : List EventComponent) (n : ℕ) (ms : List Moved) : Type 0 where
  pub each : All (IsMovedOf os) ms
  pub all : (k : ℕ) (d : EventComponent) (place : InstancePlace) → k < n → k < length os → IsAtPlace (get_or os k d) place → Contains ms (record { start = place.start; slot = place.slot; which = k })

pub found_first : (os : List EventComponent) → AreFound os 0 []
found_first os = record { each = λ k d w. absurd (omega (arith, w)); all = λ k d place l w at. absurd (omega (arith, l)) }

module _ (os : List EventComponent) (n : ℕ) (o : EventComponent) (w : n < length os) (is : o ≡ get_or os n o) (ms : List Moved) (h : AreFound os n ms) where
  same_there : (d : EventComponent) → get_or os n d ≡ o
  same_there d = get_or_default os n d o w ∙ sym is

  pub found_more : (m : Moved) (new : List Moved) → m.which ≡ n → IsAtPlace o (place_of m) → new ≡ ms ++ m ∷ [] → AreFound os (n + 1) new
  found_more m new which at grown = record {
    each = subst (All (IsMovedOf os)) (sym grown) (All-append (IsMovedOf os) ms (m ∷ []) h.each one);
    all = λ k d place l v there. subst (λ (l : List Moved). Contains l (record { start = place.start; slot = place.slot; which = k })) (sym grown) (elim (cases_lt k n) [
      | inl lt ↦ Contains-append_left ms (m ∷ []) _ (h.all k d place lt v there)
      | inr le ↦
          let same : k ≡ n = omega (arith, l, le) in
          let at_o = subst (λ (c : EventComponent). IsAtPlace c place) (ap (λ j. get_or os j d) same ∙ same_there d) there in
          let slot : m.slot ≡ place.slot = same_Some m.slot place.slot (sym at.0 ∙ at_o.0) in
          let start : m.start ≡ place.start = sym at.1 ∙ at_o.1 in
          let it : m ≡ record { start = place.start; slot = place.slot; which = k } = λ i. record { start = start i; slot = slot i; which = (which ∙ sym same) i } in
          Contains-append_right ms (m ∷ []) _ (0, omega arith, it)
    ]);
  }
    where
      one : (k : ℕ) (d : Moved) → k < 1 → IsMovedOf os (get_or (m ∷ []) k d)
      one zero d v = (omega (arith, w, which), λ c. subst (λ (x : EventComponent). IsAtPlace x (place_of m)) (sym (ap (λ j. get_or os j c) which ∙ same_there c)) at)
      one (suc k) d v = absurd (omega (arith, v))

  pub found_past : o.recurrence ≡ None → AreFound os (n + 1) ms
  found_past none = record {
    each = h.each;
    all = λ k d place l v there. elim (cases_lt k n) [
      | inl lt ↦ h.all k d place lt v there
      | inr le ↦
          let same : k ≡ n = omega (arith, l, le) in
          let at_o = subst (λ (c : EventComponent). IsAtPlace c place) (ap (λ j. get_or os j d) same ∙ same_there d) there in
          absurd (nothing place.slot (sym none ∙ at_o.0))
    ];
  }
    where
      nothing : (t : ℤ) → None ≡ Some t → ⊥
      nothing t e = cc

pub places_found : (os : List EventComponent) (n : ℕ) (ms sorted : List Moved) → length os ≤ n → AreFound os n ms → IsPermutation ms sorted → ArePlaces os sorted
places_found os n ms sorted le h same = (
  All-permutation (IsMovedOf os) ms sorted same h.each,
  λ k d place w at.
      let c = Contains-permutation ms sorted (record { start = place.start; slot = place.slot; which = k }) same (h.all k d place (omega (arith, w, le)) w at) in
      list_any_at (is_there place) sorted c.0 (record { start = place.start; slot = place.slot; which = k }) c.1
      (ap (is_there place) c.2 ∙ both_true _ _ (same_is place.start place.start refl) (same_is place.slot place.slot refl)),
)

-- ---- what is found among them is of an override

any_found : {X : Type 0} (p : X → Bool) (xs : List X) → list_any p xs ≡ true → (x : X) × Contains xs x × (p x ≡ true)
any_found p [] h = absurd (false≢true h)
any_found {X = X} p (x ∷ xs) h = go (p x) refl h (λ k. any_found p xs k)
  where
    go : (b : Bool) → p x ≡ b → (b || list_any p xs) ≡ true → (list_any p xs ≡ true → (y : X) × Contains xs y × (p y ≡ true)) → (y : X) × Contains (x ∷ xs) y × (p y ≡ true)
    go true e h rest = (x, (zero, omega arith, refl), e)
    go false e h rest = let r = rest h in (r.0, later x r.0 xs r.1, r.2)

element : (os : List EventComponent) (k : ℕ) → k < length os → EventComponent
element [] k w = absurd (omega (arith, w))
element (o ∷ os) k w = o

module _ (os : List EventComponent) (ms : List Moved) (are : ArePlaces os ms) where
  pub of_override : (m : Moved) → Contains ms m → (o : EventComponent) × Contains os o × IsAtPlace o (place_of m)
  of_override m c =
      let h = All-contains (IsMovedOf os) ms m are.0 c in
      let d = element os m.which h.0 in
      (get_or os m.which d, (m.which, h.0, get_or_default os m.which (get_or os m.which d) d h.0), h.1 d)

  pub has_place : (o : EventComponent) (place : InstancePlace) → Contains os o → IsAtPlace o place → (m : Moved) × Contains ms m × (place_of m ≡ place)
  has_place o place (k, w, e) at =
      let f = any_found (is_there place) ms (are.1 k o place w (subst (λ (c : EventComponent). IsAtPlace c place) (sym e) at)) in
      let p = and_parts (int_eq f.0.start place.start) (int_eq f.0.slot place.slot) f.2 in
      (f.0, f.1, same_place f.0 place (is_same f.0.start place.start p.0) (is_same f.0.slot place.slot p.1))

  pub moved_first : (after : Bound) (r : Option InstancePlace) → IsSoonest (IsPlaceToCome ms after) r → IsSoonest (λ p. (o : EventComponent) × Contains os o × IsMovedTo o after p) r
  moved_first after r =
      soonest_same (IsPlaceToCome ms after) (λ p. (o : EventComponent) × Contains os o × IsMovedTo o after p) r
      (λ p (m, c, is, h). let o = of_override m c in (o.0, o.1, (subst (IsAtPlace o.0) is o.2, h)))
      (λ p (o, c, h). let m = has_place o p c h.0 in (m.0, m.1, m.2, h.1))

  pub within : (place : InstancePlace) (which : ℕ) → IsWhichAt ms place (Some which) → which < length os
  within place which (m, c, is, number) = let h = All-contains (IsMovedOf os) ms m are.0 c in omega (arith, h.0, number)

  pub no_override : (place : InstancePlace) → IsWhichAt ms place None → (o : EventComponent) → Contains os o → IsAtPlace o place → ⊥
  no_override place none o c at = let m = has_place o place c at in none m.0 m.1 m.2
