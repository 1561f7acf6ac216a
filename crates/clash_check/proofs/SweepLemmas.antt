-- How a sweep through two series, or through one, goes on.
use Rattle.std.proofs.Common.{◌≡◌, ◌≢◌, ◌∙◌, ap, sym, refl, subst, inl, inr, ℕ, ◌+◌, ◌-◌, ◌<◌, zero, suc, true, arith, List, [], ◌∷◌, length, ℤ, ◌-ℤ◌, ◌<ℤ◌, ◌≤ℤ◌, unsigned_abs}
use Rattle.std.specs.Prelude.{Option, Some, None, ◌↔◌, IfSome, Contains}
use Rattle.std.specs.List.{slice_get}
use Rattle.std.proofs.lemmas.Int.{ints}
use Rattle.std.proofs.lemmas.Option.{slice_get_within, get_or_from_slice_get}
use Rattle.profile.specs.checker.Instances.{Key, Instance as SaidInstance, horizon}
use Rattle.profile.specs.checker.Certificates.{IsSeriesAt}
use Rattle.profile.specs.events.Events.{Event}
use Rattle.profile.specs.events.Starts.{SharesInstant}
use Rattle.profile.specs.events.Confirmed.{Confirmed}
use Rattle.profile.specs.events.Spans.{StartsBelow}
use Rattle.cal_events.specs.Series.{AreKnownByStart}
use Rattle.cal_events.specs.declared.sweep.Span.{Span}
use Rattle.cal_events.proofs.shared_lemmas.Overlaps.{abs_is}
use Rattle.clash_check.specs.Counted.{AreBelow}
use Rattle.clash_check.specs.Draws.{IsPlaceIn, IsDrawable, drawn_more, one_if}
use Rattle.clash_check.specs.Sweeps.{HaveShared, AreApart, HasShared, IsApart, IsCountDrawn}
use Rattle.clash_check.specs.Walks.{IsBelow, place_of_walk, IsWalkedPast, IsLastWalkedPast, IsWalkThrough, BeginsAtFirst, PassesOne, MeetsLast, SharesWithNone}
use Rattle.clash_check.specs.declared.walk.Walk.{Walk}
use Rattle.clash_check.proofs.Counts.{drawn_for, first_counted, past_counted, some_counted, all_counted, one_counted}

-- ---- the series at a place

some_at : {X : Type 0} (xs : List X) (k : ℕ) → k < length xs → (x : X) × (slice_get xs k ≡ Some x)
some_at [] k w = absurd (omega (arith, w))
some_at (x ∷ xs) zero w = (x, refl)
some_at (x ∷ xs) (suc k) w = some_at xs k (omega (arith, w))

pub series_there : (all : Confirmed) (i : ℕ) → IsPlaceIn (length all.series) i → (a : Event) × IsSeriesAt all i a
series_there all i p = let b = p.0 in let c = p.1 in some_at all.series (i - 1) (omega (arith, b, c))

pub series_in : (all : Confirmed) (i : ℕ) (a : Event) → IsSeriesAt all i a → Contains all.series a
series_in all i a e = (i - 1, slice_get_within all.series (i - 1) a e, get_or_from_slice_get all.series (i - 1) a a e)

pub known_at : (all : Confirmed) → IsDrawable all → (i : ℕ) (a : Event) → IsSeriesAt all i a → AreKnownByStart a
known_at all drawable i a e = drawable.known a (series_in all i a e)

-- ---- two spans

pub turned : (s e u v : ℤ) → SharesInstant s e u v → SharesInstant u v s e
turned s e u v h = record { instant = h.instant; before = h.before; in_first = h.in_second; in_second = h.in_first }

module _ (Is : ℤ → ℤ → Type 0) (place : ℤ) (last : Option Span) (ends : IsLastWalkedPast Is place last) (next : Span) where
  -- it meets none of those behind
  pub meets_none : SharesWithNone last next → (s e : ℤ) → IsWalkedPast Is place s e → SharesInstant s e next.start next.end → ⊥
  meets_none none s e h share = go last ends none
    where
      go : (o : Option Span) → IsLastWalkedPast Is place o → SharesWithNone o next → ⊥
      go None ends none = ends s e h
      go (Some l) ends (inl short) = omega (arith, ints, short, share.in_second.0, share.in_second.1)
      go (Some l) ends (inr over) = let k = ends.1 s e h in omega (arith, ints, k, over, share.in_first.1, share.in_second.0)

  -- it meets the last of them
  pub met : ((s e : ℤ) → IsWalkedPast Is place s e → s ≤ℤ next.start) → next.start <ℤ horizon → (m : MeetsLast last next)
      → IsWalkedPast Is place m.0.start m.0.end × SharesInstant m.0.start m.0.end next.start next.end
  met early before m =
      let l = m.0 in
      let behind = (subst (IsLastWalkedPast Is place) m.1 ends).0 in
      let first = early l.start l.end behind in (
        behind,
        record { instant = next.start; before = before; in_first = (first, m.3); in_second = (omega (arith, ints), m.2) },
      )

-- what shares as spans shares as instances
shared_as : (x y : SaidInstance) (s e u v : ℤ) → x.start ≡ s → x.end ≡ e → y.start ≡ u → y.end ≡ v → SharesInstant s e u v → SharesInstant x.start x.end y.start y.end
shared_as x y s e u v p q m n h =
    let i = h.in_first in
    let j = h.in_second in
    record {
      instant = h.instant;
      before = h.before;
      in_first = (let l = i.0 in omega (arith, ints, p, l), let l = i.1 in omega (arith, ints, q, l));
      in_second = (let l = j.0 in omega (arith, ints, m, l), let l = j.1 in omega (arith, ints, n, l));
    }

pub have_shared : (a b : Event) (bound s e u v : ℤ) → IsBelow a bound s e → IsBelow b bound u v → SharesInstant s e u v → HaveShared a b bound
have_shared a b bound s e u v ((x, is, p, q), l) ((y, it, m, n), k) h = record {
  x = x;
  y = y;
  first = (is, omega (arith, ints, l, p));
  second = (it, omega (arith, ints, k, m));
  shared = shared_as x y s e u v p q m n h;
}

pub has_shared : (a : Event) (bound s e u v : ℤ) → AreKnownByStart a → IsBelow a bound s e → IsBelow a bound u v → s <ℤ u → SharesInstant s e u v → HasShared a bound
has_shared a bound s e u v known ((x, is, p, q), l) ((y, it, m, n), k) less h = record {
  x = x;
  y = y;
  first = (is, omega (arith, ints, l, p));
  second = (it, omega (arith, ints, k, m));
  differ = λ same.
      let c = known.slots x is in
      let d = known.slots y it in
      let f = ap (λ (z : Key). z.slot) same in
      omega (arith, ints, c, d, f, p, m, less);
  shared = shared_as x y s e u v p q m n h;
}

pub as_span : (a : Event) (bound : ℤ) (x : SaidInstance) → StartsBelow a bound x → IsBelow a bound x.start x.end
as_span a bound x h = ((x, h.0, refl, refl), h.1)

pub start_before : (a : Event) (bound s e : ℤ) → AreKnownByStart a → IsBelow a bound s e → s <ℤ horizon
start_before a bound s e known ((x, is, p, q), l) = let d = (known.dates x is).1 in omega (arith, ints, d, p)

-- ---- a walk

-- what comes in the same way
pub still : (Is Old New : ℤ → ℤ → Type 0) (bound : ℤ) (walk : Walk) → ((s e : ℤ) → New s e ↔ Old s e) → IsWalkThrough Is Old bound walk → IsWalkThrough Is New bound walk
still Is Old New bound walk same is = record {
  next = is.next;
  rest = λ s e. (λ n. (is.rest s e).0 ((same s e).0 n), λ h. (same s e).1 ((is.rest s e).1 h));
  last = is.last;
}

-- how far it is to the bound
abbrev pub steps_left : ℤ → Walk → ℕ
steps_left bound walk = unsigned_abs (bound -ℤ place_of_walk bound walk.next)

place_within : (Is Coming : ℤ → ℤ → Type 0) (bound : ℤ) → ((s e : ℤ) → Is s e → s <ℤ bound) → (walk : Walk) → IsWalkThrough Is Coming bound walk → place_of_walk bound walk.next ≤ℤ bound
place_within Is Coming bound below walk is = go walk.next is.next
  where
    go : (o : Option Span) → IfSome o (λ x. Is x.start x.end) → place_of_walk bound o ≤ℤ bound
    go None h = omega (arith, ints)
    go (Some x) h = let l = below x.start x.end h in omega (arith, ints, l)

pub fewer_left : (a : Event) (Coming : ℤ → ℤ → Type 0) (bound : ℤ) (next : Span) (old new : Walk) → PassesOne (IsBelow a bound) Coming bound next old new → steps_left bound new < steps_left bound old
fewer_left a Coming bound next old new g =
    let within = place_within (IsBelow a bound) Coming bound (λ s e h. h.1) new g.is_walk in
    let further = g.further in
    let x = abs_is (bound -ℤ place_of_walk bound new.next) (omega (arith, ints, within)) in
    let y = abs_is (bound -ℤ place_of_walk bound old.next) (omega (arith, ints, within, further)) in
    omega (arith, ints, x, y, further)

-- at its end all are behind
all_behind : (a : Event) (bound : ℤ) (walk : Walk) → walk.next ≡ None → (x : SaidInstance) → StartsBelow a bound x → IsWalkedPast (IsBelow a bound) (place_of_walk bound walk.next) x.start x.end
all_behind a bound walk end x h = (as_span a bound x h, let at : place_of_walk bound walk.next ≡ bound = ap (place_of_walk bound) end in let l = h.1 in omega (arith, ints, at, l))

-- its next one
pub next_of : (Is Coming : ℤ → ℤ → Type 0) (bound : ℤ) (walk : Walk) (next : Span) → IsWalkThrough Is Coming bound walk → walk.next ≡ Some next → Is next.start next.end
next_of Is Coming bound walk next is e = subst (λ (o : Option Span). IfSome o (λ x. Is x.start x.end)) e is.next

-- ---- a sweep through one series

-- those behind share no instant
pub record IsAloneAt (all : Confirmed) (i : ℕ) (bound : ℤ) (calendar : Confirmed) (Coming : ℤ → ℤ → Type 0) (old new : ℕ) (walk : Walk) : Type 0 where
  pub same : calendar ≡ all
  pub series : walk.series ≡ i
  pub is : (a : Event) → IsSeriesAt all i a → IsWalkThrough (IsBelow a bound) Coming bound walk
  pub clear : (a : Event) → IsSeriesAt all i a → (s e u v : ℤ) → IsWalkedPast (IsBelow a bound) (place_of_walk bound walk.next) s e → IsWalkedPast (IsBelow a bound) (place_of_walk bound walk.next) u v → s ≢ u
      → SharesInstant s e u v → ⊥
  pub count : (a : Event) → IsSeriesAt all i a → (xs : List SaidInstance) → AreBelow a bound xs → new ≡ drawn_more old (drawn_for bound walk.next xs)

pub alone_first : (all : Confirmed) → IsDrawable all → (i : ℕ) (bound : ℤ) (calendar : Confirmed) (Coming : ℤ → ℤ → Type 0) (old new : ℕ) (walk : Walk) → calendar ≡ all → walk.series ≡ i
    → ((a : Event) → IsSeriesAt all i a → AreKnownByStart a → BeginsAtFirst (IsBelow a bound) Coming bound walk) → new ≡ drawn_more old (one_if walk.next) → IsAloneAt all i bound calendar Coming old new walk
alone_first all drawable i bound calendar Coming old new walk same series begins counted = record {
  same = same;
  series = series;
  is = λ a at. (begins a at (known_at all drawable i a at)).is_walk;
  clear = λ a at s e u v h k differ share.
      let b = begins a at (known_at all drawable i a at) in
      subst (IsLastWalkedPast (IsBelow a bound) (place_of_walk bound walk.next)) b.none b.is_walk.last s e h;
  count = λ a at xs are.
      let known = known_at all drawable i a at in
      counted ∙ ap (drawn_more old) (sym (first_counted a known bound xs are Coming walk (begins a at known)));
}

module _ (all : Confirmed) (drawable : IsDrawable all) (i : ℕ) (place : IsPlaceIn (length all.series) i) (bound : ℤ) (calendar : Confirmed) (Coming : ℤ → ℤ → Type 0) (old new : ℕ) (walk : Walk)
    (at : IsAloneAt all i bound calendar Coming old new walk) where
  pub alone_apart : walk.next ≡ None → (a : Event) → IsSeriesAt all i a → IsApart a bound
  alone_apart end a there x y h k differ share =
      let known = known_at all drawable i a there in
      at.clear a there x.start x.end y.start y.end (all_behind a bound walk end x h) (all_behind a bound walk end y k) (λ e. differ (ap (λ (z : SaidInstance). z.key) (known.one x y h.0 k.0 e))) share

  pub alone_all : walk.next ≡ None → (a : Event) → IsSeriesAt all i a → (xs : List SaidInstance) → AreBelow a bound xs → new ≡ drawn_more old (length xs)
  alone_all end a there xs are = at.count a there xs are ∙ ap (drawn_more old) (all_counted a (known_at all drawable i a there) bound xs are Coming walk (at.is a there) end)

  module _ (next : Span) (is : walk.next ≡ Some next) where
    pub alone_found : MeetsLast walk.last next → (a : Event) → IsSeriesAt all i a → HasShared a bound
    alone_found m a there =
        let known = known_at all drawable i a there in
        let own = next_of (IsBelow a bound) Coming bound walk next (at.is a there) is in
        let starts : place_of_walk bound walk.next ≡ next.start = ap (place_of_walk bound) is in
        let f = met (IsBelow a bound) (place_of_walk bound walk.next) walk.last (at.is a there).last next (λ s e h. let l = h.1 in omega (arith, ints, l, starts)) (start_before a bound next.start next.end known own) m in
        let less = f.0.1 in
        has_shared a bound m.0.start m.0.end next.start next.end known f.0.0 own (omega (arith, ints, less, starts)) f.1

    pub alone_some : MeetsLast walk.last next → (a : Event) → IsSeriesAt all i a → (xs : List SaidInstance) → AreBelow a bound xs → IsCountDrawn true old new (length xs)
    alone_some m a there xs are =
        let known = known_at all drawable i a there in (
          drawn_for bound walk.next xs,
          one_counted a known bound xs are Coming walk (at.is a there) m.0 m.1,
          some_counted a known bound xs are Coming walk (at.is a there),
          at.count a there xs are,
        )

    pub alone_past : (calendar' : Confirmed) (Left : ℤ → ℤ → Type 0) (after : ℕ) (past : Walk) → calendar' ≡ calendar → past.series ≡ walk.series → SharesWithNone walk.last next
        → ((a : Event) (b : ℤ) → AreKnownByStart a → IsWalkThrough (IsBelow a b) Coming b walk → PassesOne (IsBelow a b) Left b next walk past)
        → after ≡ drawn_more new (one_if past.next) → IsAloneAt all i bound calendar' Left old after past
    alone_past calendar' Left after past same series none goes counted = record {
      same = same ∙ at.same;
      series = series ∙ at.series;
      is = λ a there. (gone a there).is_walk;
      clear = λ a there s e u v h k differ share. elim ((gone a there).one s e h) [
        | inl was ↦ elim ((gone a there).one u v k) [
          | inl were ↦ at.clear a there s e u v was were differ share
          | inr y ↦ never a there s e was (subst (λ x. SharesInstant s e x next.end) y.0 (subst (λ x. SharesInstant s e u x) y.1 share))
        ]
        | inr x ↦ elim ((gone a there).one u v k) [
          | inl were ↦ never a there u v were (turned next.start next.end u v (subst (λ z. SharesInstant z next.end u v) x.0 (subst (λ z. SharesInstant s z u v) x.1 share)))
          | inr y ↦ differ (x.0 ∙ sym y.0)
        ]
      ];
      count = λ a there xs are.
          let known = known_at all drawable i a there in
          let more = past_counted a known bound xs are Coming walk (at.is a there) Left past next is (gone a there) in
          let was = at.count a there xs are in
          omega (arith, more, was, counted);
    }
      where
        gone : (a : Event) → IsSeriesAt all i a → PassesOne (IsBelow a bound) Left bound next walk past
        gone a there = goes a bound (known_at all drawable i a there) (at.is a there)

        never : (a : Event) → IsSeriesAt all i a → (s e : ℤ) → IsWalkedPast (IsBelow a bound) (place_of_walk bound walk.next) s e → SharesInstant s e next.start next.end → ⊥
        never a there = meets_none (IsBelow a bound) (place_of_walk bound walk.next) walk.last (at.is a there).last next none

    pub alone_fewer : (Left : ℤ → ℤ → Type 0) (past : Walk) → ((a : Event) (b : ℤ) → AreKnownByStart a → IsWalkThrough (IsBelow a b) Coming b walk → PassesOne (IsBelow a b) Left b next walk past)
        → steps_left bound past < steps_left bound walk
    alone_fewer Left past goes =
        let (a, there) = series_there all i place in
        fewer_left a Left bound next walk past (goes a bound (known_at all drawable i a there) (at.is a there))

-- ---- a sweep through two series

-- those behind share no instant, and none of the one starts after the place of the other
pub record AreAbreast (a b : Event) (bound p q : ℤ) : Type 0 where
  pub clear : (s e u v : ℤ) → IsWalkedPast (IsBelow a bound) p s e → IsWalkedPast (IsBelow b bound) q u v → SharesInstant s e u v → ⊥
  pub first : (s e : ℤ) → IsWalkedPast (IsBelow a bound) p s e → s ≤ℤ q
  pub second : (u v : ℤ) → IsWalkedPast (IsBelow b bound) q u v → u ≤ℤ p

pub record IsPairAt (all : Confirmed) (i j : ℕ) (bound : ℤ) (calendar : Confirmed) (Coming : ℕ → ℤ → ℤ → Type 0) (old new : ℕ) (first second : Walk) : Type 0 where
  pub same : calendar ≡ all
  pub first_series : first.series ≡ i
  pub second_series : second.series ≡ j
  pub in_first : (a : Event) → IsSeriesAt all i a → IsWalkThrough (IsBelow a bound) (Coming first.series) bound first
  pub in_second : (b : Event) → IsSeriesAt all j b → IsWalkThrough (IsBelow b bound) (Coming second.series) bound second
  pub abreast : (a b : Event) → IsSeriesAt all i a → IsSeriesAt all j b → AreAbreast a b bound (place_of_walk bound first.next) (place_of_walk bound second.next)
  pub count : (a b : Event) → IsSeriesAt all i a → IsSeriesAt all j b → (xs ys : List SaidInstance) → AreBelow a bound xs → AreBelow b bound ys
      → new ≡ drawn_more old (drawn_for bound first.next xs + drawn_for bound second.next ys)

pub pair_turned : (all : Confirmed) (i j : ℕ) (bound : ℤ) (calendar : Confirmed) (Coming : ℕ → ℤ → ℤ → Type 0) (old new : ℕ) (first second : Walk)
    → IsPairAt all i j bound calendar Coming old new first second → IsPairAt all j i bound calendar Coming old new second first
pair_turned all i j bound calendar Coming old new first second at = record {
  same = at.same;
  first_series = at.second_series;
  second_series = at.first_series;
  in_first = at.in_second;
  in_second = at.in_first;
  abreast = λ b a there here.
      let l = at.abreast a b here there in
      record { clear = λ s e u v h k share. l.clear u v s e k h (turned s e u v share); first = l.second; second = l.first };
  count = λ b a there here ys xs of_b of_a. let n = at.count a b here there xs ys of_a of_b in omega (arith, n);
}

module _ (all : Confirmed) (drawable : IsDrawable all) (i j : ℕ) (bound : ℤ) where
  pub pair_first : (calendar middle : Confirmed) (Coming Between : ℕ → ℤ → ℤ → Type 0) (old half new : ℕ) (first second : Walk) → i ≢ j → middle ≡ all → calendar ≡ middle
      → first.series ≡ i → second.series ≡ j
      → ((a : Event) → IsSeriesAt all i a → AreKnownByStart a → BeginsAtFirst (IsBelow a bound) (Between first.series) bound first)
      → ((b : Event) → IsSeriesAt middle j b → AreKnownByStart b → BeginsAtFirst (IsBelow b bound) (Coming second.series) bound second)
      → ((k : ℕ) → k ≢ j → (s e : ℤ) → Coming k s e ↔ Between k s e)
      → half ≡ drawn_more old (one_if first.next) → new ≡ drawn_more half (one_if second.next)
      → IsPairAt all i j bound calendar Coming old new first second
  pair_first calendar middle Coming Between old half new first second differ same again at_i at_j begins starts others one two = record {
    same = again ∙ same;
    first_series = at_i;
    second_series = at_j;
    in_first = λ a there. still (IsBelow a bound) (Between first.series) (Coming first.series) bound first (others first.series (λ e. differ (sym at_i ∙ e))) (first_walk a there).is_walk;
    in_second = λ b there. (second_walk b there).is_walk;
    abreast = λ a b here there. record {
      clear = λ s e u v h k share. none (IsBelow a bound) (Between first.series) first (first_walk a here) s e h;
      first = λ s e h. absurd (none (IsBelow a bound) (Between first.series) first (first_walk a here) s e h);
      second = λ u v k. absurd (none (IsBelow b bound) (Coming second.series) second (second_walk b there) u v k);
    };
    count = λ a b here there xs ys of_a of_b.
        let x = first_counted a (known_at all drawable i a here) bound xs of_a (Between first.series) first (first_walk a here) in
        let y = first_counted b (known_at all drawable j b there) bound ys of_b (Coming second.series) second (second_walk b there) in
        omega (arith, one, two, x, y);
  }
    where
      none : (Is Left : ℤ → ℤ → Type 0) (walk : Walk) → BeginsAtFirst Is Left bound walk → (s e : ℤ) → IsWalkedPast Is (place_of_walk bound walk.next) s e → ⊥
      none Is Left walk b = subst (IsLastWalkedPast Is (place_of_walk bound walk.next)) b.none b.is_walk.last

      first_walk : (a : Event) → IsSeriesAt all i a → BeginsAtFirst (IsBelow a bound) (Between first.series) bound first
      first_walk a here = begins a here (known_at all drawable i a here)

      second_walk : (b : Event) → IsSeriesAt all j b → BeginsAtFirst (IsBelow b bound) (Coming second.series) bound second
      second_walk b there = starts b (subst (λ (c : Confirmed). IsSeriesAt c j b) (sym same) there) (known_at all drawable j b there)

  module _ (place : IsPlaceIn (length all.series) i) (calendar : Confirmed) (Coming : ℕ → ℤ → ℤ → Type 0) (old new : ℕ) (first second : Walk)
      (at : IsPairAt all i j bound calendar Coming old new first second) where
    pub pair_apart : first.next ≡ None → second.next ≡ None → (a b : Event) → IsSeriesAt all i a → IsSeriesAt all j b → AreApart a b bound
    pair_apart end over a b here there x y h k share =
        (at.abreast a b here there).clear x.start x.end y.start y.end (all_behind a bound first end x h) (all_behind b bound second over y k) share

    pub pair_all : first.next ≡ None → second.next ≡ None → (a b : Event) → IsSeriesAt all i a → IsSeriesAt all j b → (xs ys : List SaidInstance) → AreBelow a bound xs → AreBelow b bound ys
        → new ≡ drawn_more old (length xs + length ys)
    pair_all end over a b here there xs ys of_a of_b =
        let x = all_counted a (known_at all drawable i a here) bound xs of_a (Coming first.series) first (at.in_first a here) end in
        let y = all_counted b (known_at all drawable j b there) bound ys of_b (Coming second.series) second (at.in_second b there) over in
        let n = at.count a b here there xs ys of_a of_b in
        omega (arith, n, x, y)

    module _ (next : Span) (is : first.next ≡ Some next) where
      pub pair_found : MeetsLast second.last next → (a b : Event) → IsSeriesAt all i a → IsSeriesAt all j b → HaveShared a b bound
      pair_found m a b here there =
          let own = next_of (IsBelow a bound) (Coming first.series) bound first next (at.in_first a here) is in
          let starts : place_of_walk bound first.next ≡ next.start = ap (place_of_walk bound) is in
          let f = met (IsBelow b bound) (place_of_walk bound second.next) second.last (at.in_second b there).last next
          (λ u v k. let l = (at.abreast a b here there).second u v k in omega (arith, ints, l, starts)) (start_before a bound next.start next.end (known_at all drawable i a here) own) m in
          have_shared a b bound next.start next.end m.0.start m.0.end own f.0.0 (turned m.0.start m.0.end next.start next.end f.1)

      pub pair_some : MeetsLast second.last next → (a b : Event) → IsSeriesAt all i a → IsSeriesAt all j b → (xs ys : List SaidInstance) → AreBelow a bound xs → AreBelow b bound ys
          → IsCountDrawn true old new (length xs + length ys)
      pair_some m a b here there xs ys of_a of_b =
          let x = some_counted a (known_at all drawable i a here) bound xs of_a (Coming first.series) first (at.in_first a here) in
          let y = some_counted b (known_at all drawable j b there) bound ys of_b (Coming second.series) second (at.in_second b there) in
          let one = one_counted b (known_at all drawable j b there) bound ys of_b (Coming second.series) second (at.in_second b there) m.0 m.1 in (
            drawn_for bound first.next xs + drawn_for bound second.next ys,
            omega (arith, one),
            omega (arith, x, y),
            at.count a b here there xs ys of_a of_b,
          )

      pub pair_fewer : (Left : ℤ → ℤ → Type 0) (past : Walk) → ((a : Event) (b : ℤ) → AreKnownByStart a → IsWalkThrough (IsBelow a b) (Coming first.series) b first → PassesOne (IsBelow a b) Left b next first past)
          → steps_left bound past < steps_left bound first
      pair_fewer Left past goes =
          let (a, here) = series_there all i place in
          fewer_left a Left bound next first past (goes a bound (known_at all drawable i a here) (at.in_first a here))

      pub pair_past : i ≢ j → IfSome second.next (λ y. next.start ≤ℤ y.start) → (calendar' : Confirmed) (Left : ℕ → ℤ → ℤ → Type 0) (after : ℕ) (past : Walk)
          → calendar' ≡ calendar → past.series ≡ first.series → SharesWithNone second.last next
          → ((a : Event) (b : ℤ) → AreKnownByStart a → IsWalkThrough (IsBelow a b) (Coming first.series) b first → PassesOne (IsBelow a b) (Left past.series) b next first past)
          → ((k : ℕ) → k ≢ first.series → (s e : ℤ) → Left k s e ↔ Coming k s e)
          → after ≡ drawn_more new (one_if past.next) → IsPairAt all i j bound calendar' Left old after past second
      pair_past differ turn calendar' Left after past same series none goes others counted = record {
        same = same ∙ at.same;
        first_series = series ∙ at.first_series;
        second_series = at.second_series;
        in_first = λ a here. (gone a here).is_walk;
        in_second = λ b there. still (IsBelow b bound) (Coming second.series) (Left second.series) bound second (others second.series (λ e. differ (sym at.first_series ∙ sym e ∙ at.second_series))) (at.in_second b there);
        abreast = λ a b here there.
            let l = at.abreast a b here there in
            let starts : place_of_walk bound first.next ≡ next.start = ap (place_of_walk bound) is in
            let further = (gone a here).further in
            record {
              clear = λ s e u v h k share. elim ((gone a here).one s e h) [
                | inl was ↦ l.clear s e u v was k share
                | inr x ↦ meets_none (IsBelow b bound) (place_of_walk bound second.next) second.last (at.in_second b there).last next none u v k
                    (turned next.start next.end u v (subst (λ z. SharesInstant z next.end u v) x.0 (subst (λ z. SharesInstant s z u v) x.1 share)))
              ];
              first = λ s e h. elim ((gone a here).one s e h) [
                | inl was ↦ l.first s e was
                | inr x ↦ let m = before second.next turn (next_of (IsBelow a bound) (Coming first.series) bound first next (at.in_first a here) is).1 in let p = x.0 in omega (arith, ints, m, p)
              ];
              second = λ u v k. let m = l.second u v k in omega (arith, ints, m, further);
            };
        count = λ a b here there xs ys of_a of_b.
            let more = past_counted a (known_at all drawable i a here) bound xs of_a (Coming first.series) first (at.in_first a here) (Left past.series) past next is (gone a here) in
            let was = at.count a b here there xs ys of_a of_b in
            omega (arith, more, was, counted);
      }
        where
          gone : (a : Event) → IsSeriesAt all i a → PassesOne (IsBelow a bound) (Left past.series) bound next first past
          gone a here = goes a bound (known_at all drawable i a here) (at.in_first a here)

          before : (o : Option Span) → IfSome o (λ y. next.start ≤ℤ y.start) → next.start <ℤ bound → next.start ≤ℤ place_of_walk bound o
          before None h l = omega (arith, ints, l)
          before (Some y) h l = h

pub have_turned : (a b : Event) (bound : ℤ) → HaveShared b a bound → HaveShared a b bound
have_turned a b bound h = record {
  x = h.y;
  y = h.x;
  first = h.second;
  second = h.first;
  shared = turned h.x.start h.x.end h.y.start h.y.end h.shared;
}

pub some_turned : (old new m n : ℕ) → IsCountDrawn true old new (m + n) → IsCountDrawn true old new (n + m)
some_turned old new m n (k, some, most, is) = (k, some, omega (arith, most), is)
