-- How many of the instances of a series that start before a bound are behind a walk.
use Rattle.std.proofs.Common.{◌≡◌, ◌≤◌, ◌∙◌, ap, refl, sym, subst, inl, inr, ℕ, zero, suc, ◌+◌, List, [], ◌∷◌, length, cond, true, false, Bool, arith, ℤ, ◌<ℤ◌, ◌≤ℤ◌}
use Rattle.std.specs.Prelude.{Contains, AllPairs, count_by, int_lt, Option, Some, None, IfSome}
use Rattle.std.proofs.lemmas.Int.{ints, by_lt_z}
use Rattle.std.proofs.lemmas.List.Sums.{sum_by-cons}
use Rattle.std.proofs.lemmas.List.Elements.{All-contains}
use Rattle.profile.specs.checker.Instances.{Instance}
use Rattle.profile.specs.events.Events.{Event}
use Rattle.profile.specs.events.Spans.{StartsBelow}
use Rattle.profile.specs.events.Starts.{IsInstance, ComesBefore}
use Rattle.cal_events.specs.Series.{AreKnownByStart}
use Rattle.cal_events.specs.declared.sweep.Span.{Span}
use Rattle.cal_events.proofs.shared_lemmas.InOneOrder.{later, none_in, head_pairs, tail_pairs}
use Rattle.clash_check.specs.Counted.{AreBelow}
use Rattle.clash_check.specs.Draws.{one_if}
use Rattle.clash_check.specs.Walks.{IsBelow, IsWalkedPast, IsLastWalkedPast, IsWalkThrough, BeginsAtFirst, PassesOne, place_of_walk}
use Rattle.clash_check.specs.declared.walk.Walk.{Walk}

abbrev pub before : ℤ → List Instance → ℕ
before t xs = count_by (λ (b : Instance). int_lt b.start t) xs

true_before : (x t : ℤ) → x <ℤ t → int_lt x t ≡ true
true_before x t h = grind (arith, ints)

false_from : (x t : ℤ) → t ≤ℤ x → int_lt x t ≡ false
false_from x t h = grind (arith, ints)

with_first : (t : ℤ) (x : Instance) (xs : List Instance) → before t (x ∷ xs) ≡ cond (int_lt x.start t) 1 0 + before t xs
with_first t x xs = sum_by-cons (λ (b : Instance). cond (int_lt b.start t) 1 0) x xs

one_more : (t : ℤ) (x : Instance) (xs : List Instance) → x.start <ℤ t → before t (x ∷ xs) ≡ before t xs + 1
one_more t x xs h =
    let e = with_first t x xs ∙ ap (λ (v : Bool). cond v 1 0 + before t xs) (true_before x.start t h) in omega (arith, e)

no_more : (t : ℤ) (x : Instance) (xs : List Instance) → t ≤ℤ x.start → before t (x ∷ xs) ≡ before t xs
no_more t x xs h =
    let e = with_first t x xs ∙ ap (λ (v : Bool). cond v 1 0 + before t xs) (false_from x.start t h) in omega (arith, e)

count_none : (t : ℤ) (xs : List Instance) → ((y : Instance) → Contains xs y → t ≤ℤ y.start) → before t xs ≡ 0
count_none t [] h = refl
count_none t (x ∷ xs) h = no_more t x xs (h x (zero, omega arith, refl)) ∙ count_none t xs (λ y c. h y (later x y xs c))

count_some : (t : ℤ) (i : Instance) (xs : List Instance) → i.start <ℤ t → Contains xs i → 1 ≤ before t xs
count_some t i [] l c = absurd (none_in i c)
count_some t i (x ∷ xs) l (zero, w, e) = let a = one_more t x xs (subst (λ (b : Instance). b.start <ℤ t) (sym e) l) in omega (arith, a)
count_some t i (x ∷ xs) l (suc k, w, e) =
    let a = count_some t i xs l (k, omega (arith, w), e) in
    let b = with_first t x xs in
    omega (arith, a, b)

count_each : (t : ℤ) (xs : List Instance) → ((y : Instance) → Contains xs y → y.start <ℤ t) → before t xs ≡ length xs
count_each t [] h = refl
count_each t (x ∷ xs) h =
    let a = one_more t x xs (h x (zero, omega arith, refl)) in
    let b = count_each t xs (λ y c. h y (later x y xs c)) in
    omega (arith, a, b)

-- one is counted once at most
count_step : (t : ℤ) (x : Instance) (xs : List Instance) → before t (x ∷ xs) ≤ before t xs + 1
count_step t x xs =
    by_lt_z x.start t (λ l. let a = one_more t x xs l in omega (arith, a)) (λ l. let a = no_more t x xs l in omega (arith, a))

count_most : (t : ℤ) (xs : List Instance) → before t xs ≤ length xs
count_most t [] = omega arith
count_most t (x ∷ xs) =
    let a = count_step t x xs in
    let b = count_most t xs in
    omega (arith, a, b)

-- where one isn't counted, there is one more
count_fewer : (t : ℤ) (i : Instance) (xs : List Instance) → t ≤ℤ i.start → Contains xs i → before t xs + 1 ≤ length xs
count_fewer t i [] l c = absurd (none_in i c)
count_fewer t i (x ∷ xs) l (zero, w, e) =
    let a = no_more t x xs (subst (λ (b : Instance). t ≤ℤ b.start) (sym e) l) in
    let b = count_most t xs in
    omega (arith, a, b)
count_fewer t i (x ∷ xs) l (suc k, w, e) =
    let a = count_fewer t i xs l (k, omega (arith, w), e) in
    let b = count_step t x xs in
    omega (arith, a, b)

-- how many were drawn for a walk: those behind, and its next one
abbrev pub drawn_for : ℤ → Option Span → List Instance → ℕ
drawn_for bound next xs = before (place_of_walk bound next) xs + one_if next

module _ (series : Event) (known : AreKnownByStart series) (bound : ℤ) where
  -- one that comes before another starts earlier
  earlier : (a b : Instance) → IsInstance series a → IsInstance series b → ComesBefore a b → a.start <ℤ b.start
  earlier a b h k (inl l) = l
  earlier a b h k (inr (same, l)) =
      let s = known.slots a h in
      let t = known.slots b k in
      absurd (omega (arith, ints, s, t, same, l))

  -- past the one that starts there it is one more
  count_past : (p q : ℤ) (i : Instance) (xs : List Instance) → i.start ≡ p → p <ℤ q → ((b : Instance) → StartsBelow series bound b → p <ℤ b.start → q ≤ℤ b.start) → ((y : Instance) → Contains xs y → StartsBelow series bound y)
      → AllPairs ComesBefore xs → Contains xs i → before q xs ≡ before p xs + 1
  count_past p q i [] at further none each ordered c = absurd (none_in i c)
  count_past p q i (x ∷ xs) at further none each ordered (zero, w, e) =
      let start : x.start ≡ p = ap (λ (b : Instance). b.start) e ∙ at in
      let after = λ (y : Instance) (c : Contains xs y). earlier x y (each x (zero, omega arith, refl)).0 (each y (later x y xs c)).0 (head_pairs ComesBefore x y xs ordered c) in
      let a = one_more q x xs (omega (arith, ints, start, further)) in
      let b = no_more p x xs (omega (arith, ints, start)) in
      let c = count_none q xs (λ y c. none y (each y (later x y xs c)) (let l = after y c in omega (arith, ints, start, l))) in
      let d = count_none p xs (λ y c. let l = after y c in omega (arith, ints, start, l)) in
      omega (arith, a, b, c, d)
  count_past p q i (x ∷ xs) at further none each ordered (suc k, w, e) =
      let there : Contains xs i = (k, omega (arith, w), e) in
      let l = earlier x i (each x (zero, omega arith, refl)).0 (each i (suc k, w, e)).0 (head_pairs ComesBefore x i xs ordered there) in
      let a = one_more q x xs (omega (arith, ints, l, at, further)) in
      let b = one_more p x xs (omega (arith, ints, l, at)) in
      let c = count_past p q i xs at further none (λ y c. each y (later x y xs c)) (tail_pairs ComesBefore x xs ordered) there in
      omega (arith, a, b, c)

  -- ---- of a walk

  module _ (xs : List Instance) (are : AreBelow series bound xs) where
    is_below : (y : Instance) → Contains xs y → StartsBelow series bound y
    is_below y c = All-contains (StartsBelow series bound) xs y are.each c

    is_behind : (place : ℤ) (y : Instance) → Contains xs y → y.start <ℤ place → IsWalkedPast (IsBelow series bound) place y.start y.end
    is_behind place y c l = let own = is_below y c in (((y, own.0, refl, refl), own.1), l)

    module _ (Coming : ℤ → ℤ → Type 0) (walk : Walk) where
      pub first_counted : BeginsAtFirst (IsBelow series bound) Coming bound walk → drawn_for bound walk.next xs ≡ one_if walk.next
      first_counted b =
          let none = count_none (place_of_walk bound walk.next) xs
          (λ y c. by_lt_z y.start (place_of_walk bound walk.next) (λ l. absurd (subst (IsLastWalkedPast (IsBelow series bound) (place_of_walk bound walk.next)) b.none b.is_walk.last y.start y.end (is_behind _ y c l))) (λ l. l)) in
          ap (λ n. n + one_if walk.next) none ∙ omega arith

      module _ (is : IsWalkThrough (IsBelow series bound) Coming bound walk) where
        next_in : (next : Span) → walk.next ≡ Some next → (y : Instance) × Contains xs y × (y.start ≡ next.start)
        next_in next e =
            let ((b, it, s, f), l) = subst (λ (o : Option Span). IfSome o (λ x. IsBelow series bound x.start x.end)) e is.next in
            (b, are.all b (it, omega (arith, ints, l, s)), s)

        pub past_counted : (Left : ℤ → ℤ → Type 0) (new : Walk) (next : Span) → walk.next ≡ Some next → PassesOne (IsBelow series bound) Left bound next walk new
            → drawn_for bound new.next xs ≡ drawn_for bound walk.next xs + one_if new.next
        past_counted Left new next e g =
            let (i, there, s) = next_in next e in
            let at : place_of_walk bound walk.next ≡ next.start = ap (place_of_walk bound) e in
            let one : one_if walk.next ≡ 1 = ap (λ (o : Option Span). one_if o) e in
            let more = count_past (place_of_walk bound walk.next) (place_of_walk bound new.next) i xs (s ∙ sym at) g.further none is_below are.ordered there in
            omega (arith, more, one)
          where
            none : (b : Instance) → StartsBelow series bound b → place_of_walk bound walk.next <ℤ b.start → place_of_walk bound new.next ≤ℤ b.start
            none b own l = by_lt_z b.start (place_of_walk bound new.next)
                (λ less. elim (g.one b.start b.end (((b, own.0, refl, refl), own.1), less)) [
                  | inl old ↦ absurd (omega (arith, ints, l, old.1))
                  | inr same ↦ let at : place_of_walk bound walk.next ≡ next.start = ap (place_of_walk bound) e in absurd (omega (arith, ints, l, same.0, at))
                ])
                (λ most. most)

        pub some_counted : drawn_for bound walk.next xs ≤ length xs
        some_counted = go walk.next refl
          where
            go : (o : Option Span) → walk.next ≡ o → drawn_for bound o xs ≤ length xs
            go None e = let l = count_most bound xs in omega (arith, l)
            go (Some x) e =
                let (i, there, s) = next_in x e in
                let l = count_fewer x.start i xs (omega (arith, ints, s)) there in
                omega (arith, l)

        pub all_counted : walk.next ≡ None → drawn_for bound walk.next xs ≡ length xs
        all_counted e =
            let all = count_each bound xs (λ y c. (is_below y c).1) in
            ap (λ (o : Option Span). drawn_for bound o xs) e ∙ omega (arith, all)

        pub one_counted : (l : Span) → walk.last ≡ Some l → 1 ≤ drawn_for bound walk.next xs
        one_counted l e =
            let (((b, it, s, f), below), less) = (subst (IsLastWalkedPast (IsBelow series bound) (place_of_walk bound walk.next)) e is.last).0 in
            let n = count_some (place_of_walk bound walk.next) b xs (omega (arith, ints, s, less)) (are.all b (it, omega (arith, ints, s, below))) in
            omega (arith, n)
