-- An entry of a certificate, judged by what is drawn of its two series.
use Rattle.std.proofs.Common.{◌≡◌, ◌≢◌, ◌∙◌, ap, sym, refl, subst, inl, inr, ℕ, zero, suc, ◌+◌, ◌-◌, ◌==◌, true, false, Bool, cond, arith, List, [], ◌∷◌, length, ℤ}
use Rattle.std.specs.Prelude.{MatchBool, Contains, not}
use Rattle.std.proofs.lemmas.Bool.Decides.{nat_tests}
use Rattle.std.proofs.lemmas.Option.{same_Some}
use Rattle.profile.specs.checker.Instances.{Instance as SaidInstance, horizon, AreClear, HasClash}
use Rattle.profile.specs.checker.Certificates.{Entry, End, Span, IsPair, IsSeriesAt, EntryHolds, EntryFails}
use Rattle.profile.specs.events.Events.{Event}
use Rattle.profile.specs.events.Confirmed.{Confirmed}
use Rattle.profile.specs.events.Spans.{IsSpan, SpanHolds, SpanFails, StartsBelow, IsBoundOf}
use Rattle.cal_events.specs.Calendar.{HaveOwnKeys}
use Rattle.clash_cert.proofs.MakingLemmas.{keys_apart}
use Rattle.clash_check.specs.Counted.{AreBelow, IsComparedCount, IsEntryCount, pair_count}
use Rattle.clash_check.specs.Draws.{IsDrawable, drawn_more}
use Rattle.clash_check.specs.Entries.{IsMore, IsSomeMore, HasEntryCompared, IsDrawn, IsEntryDrawn}
use Rattle.clash_check.specs.Sweeps.{HaveShared, AreApart, HasShared, IsApart, IsCountDrawn}
use Rattle.clash_check.proofs.PeriodLemmas.{one_bound}
use Rattle.clash_check.proofs.SweepLemmas.{series_there, known_at}

-- ---- clear or not

as_clash : (a b : Event) (bound : ℤ) (h : HaveShared a b bound) → h.x.key ≢ h.y.key → HasClash (StartsBelow a bound) (StartsBelow b bound)
as_clash a b bound h differ = record {
  a = h.x;
  b = h.y;
  t = h.shared.instant;
  first = h.first;
  second = h.second;
  clash = record { differ = differ; before = h.shared.before; in_first = h.shared.in_first; in_second = h.shared.in_second };
}

pub pair_clear : (all : Confirmed) → HaveOwnKeys all → (i j : ℕ) (a b : Event) (bound : ℤ) → IsPair (length all.series) i j → i ≢ j → IsSeriesAt all i a → IsSeriesAt all j b
    → (r : Bool) → MatchBool r (HaveShared a b bound) (AreApart a b bound) → MatchBool (not r) (AreClear (StartsBelow a bound) (StartsBelow b bound)) (HasClash (StartsBelow a bound) (StartsBelow b bound))
pair_clear all own i j a b bound pair differ here there true h =
    let x = pair.0 in
    let y = pair.1 in
    let z = pair.2 in
    as_clash a b bound h
    (keys_apart all own (i - 1) (j - 1) a b h.x h.y (omega (arith, y)) (omega (arith, x, y, z)) here there h.first.0 h.second.0 (λ same. absurd (differ (omega (arith, same, x, y)))))
pair_clear all own i j a b bound pair differ here there false h =
    λ x y t m n clash. h x y m n (record { instant = t; before = clash.before; in_first = clash.in_first; in_second = clash.in_second })

pub alone_clear : (all : Confirmed) (i j : ℕ) (a b : Event) (bound : ℤ) → i ≡ j → IsSeriesAt all i a → IsSeriesAt all j b
    → (r : Bool) → MatchBool r (HasShared a bound) (IsApart a bound) → MatchBool (not r) (AreClear (StartsBelow a bound) (StartsBelow b bound)) (HasClash (StartsBelow a bound) (StartsBelow b bound))
alone_clear all i j a b bound same here there r h = subst (λ (m : Event). MatchBool (not r) (AreClear (StartsBelow a bound) (StartsBelow m bound)) (HasClash (StartsBelow a bound) (StartsBelow m bound))) one (go r h)
  where
    one : a ≡ b
    one = same_Some a b (sym here ∙ subst (λ k. IsSeriesAt all k b) (sym same) there)

    go : (r : Bool) → MatchBool r (HasShared a bound) (IsApart a bound) → MatchBool (not r) (AreClear (StartsBelow a bound) (StartsBelow a bound)) (HasClash (StartsBelow a bound) (StartsBelow a bound))
    go true h = record {
      a = h.x;
      b = h.y;
      t = h.shared.instant;
      first = h.first;
      second = h.second;
      clash = record { differ = h.differ; before = h.shared.before; in_first = h.shared.in_first; in_second = h.shared.in_second };
    }
    go false h = λ x y t m n clash. h x y m n clash.differ (record { instant = t; before = clash.before; in_first = clash.in_first; in_second = clash.in_second })

pub one_place : (i j : ℕ) → i ≡ j → (i == j) ≡ true
one_place i j e = grind (arith, nat_tests)

pub two_places : (i j : ℕ) → (i ≡ j → ⊥) → (i == j) ≡ false
two_places i j f = grind (arith, nat_tests)

pub pair_drawn : (i j old new m n : ℕ) → i ≢ j → (r : Bool) → IsCountDrawn r old new (m + n) → IsCountDrawn (not (not r)) old new (pair_count i j m n)
pair_drawn i j old new m n differ r h = subst (λ v. IsCountDrawn v old new (pair_count i j m n)) (sym (twice r)) (subst (IsCountDrawn r old new) (sym (ap (λ (v : Bool). cond v m (m + n)) (two_places i j differ))) h)
  where
    twice : (v : Bool) → not (not v) ≡ v
    twice true = refl
    twice false = refl

pub alone_drawn : (i j old new m n : ℕ) → i ≡ j → (r : Bool) → IsCountDrawn r old new m → IsCountDrawn (not (not r)) old new (pair_count i j m n)
alone_drawn i j old new m n same r h = subst (λ v. IsCountDrawn v old new (pair_count i j m n)) (sym (twice r)) (subst (IsCountDrawn r old new) (sym (ap (λ (v : Bool). cond v m (m + n)) (one_place i j same))) h)
  where
    twice : (v : Bool) → not (not v) ≡ v
    twice true = refl
    twice false = refl

-- ---- what is drawn

-- what two counts of 64 bits say
drawn_is_more : (old new n : ℕ) → new ≡ drawn_more old n → IsMore old new n
drawn_is_more old new n e = omega (arith, e)

some_is_more : (old new most : ℕ) → IsCountDrawn true old new most → IsSomeMore old new most
some_is_more old new most (n, some, few, is) = (n, some, few, drawn_is_more old new n is)

-- of what is compared
pub compared_drawn : (Compared : Type 0) → Compared → (r : Bool) (old new n : ℕ) → IsCountDrawn (not r) old new n → IsDrawn Compared r old new n
compared_drawn Compared compared true old new n h = drawn_is_more old new n h
compared_drawn Compared compared false old new n h = inl (compared, some_is_more old new n h)

-- and of what isn't
pub none_drawn : (Compared : Type 0) → (Compared → ⊥) → (old new n : ℕ) → new ≡ old → IsDrawn Compared false old new n
none_drawn Compared none old new n e = inr (none, omega (arith, e))

-- all that start before a bound are drawn, or some of them where two clash
abbrev pub AreBothDrawn : Confirmed → ℕ → ℕ → ℤ → Bool → ℕ → ℕ → Type 0
AreBothDrawn all i j bound r old new =
    (a b : Event) → IsSeriesAt all i a → IsSeriesAt all j b → (xs ys : List SaidInstance) → AreBelow a bound xs → AreBelow b bound ys
    → IsCountDrawn (not r) old new (pair_count i j (length xs) (length ys))

both_drawn : (all : Confirmed) (i j : ℕ) (entry : Entry) (bound : ℤ) (r : Bool) (old new : ℕ) → AreBothDrawn all i j bound r old new
    → (n : ℕ) (c : IsComparedCount all i j entry n) → c.bound ≡ bound → IsCountDrawn (not r) old new n
both_drawn all i j entry bound r old new drawn n c same =
    subst (IsCountDrawn (not r) old new) (sym c.count)
    (drawn c.a c.b c.at_first c.at_second c.xs c.ys (subst (λ (t : ℤ). AreBelow c.a t c.xs) same c.of_first) (subst (λ (t : ℤ). AreBelow c.b t c.ys) same c.of_second))

-- ---- END

-- the two series of a pair
both_there : (all : Confirmed) (i j : ℕ) → IsPair (length all.series) i j → (a : Event) × (b : Event) × IsSeriesAt all i a × IsSeriesAt all j b
both_there all i j pair =
    let x = pair.0 in
    let y = pair.1 in
    let z = pair.2 in
    let (a, here) = series_there all i (x, omega (arith, y, z)) in
    let (b, there) = series_there all j (omega (arith, x, y), z) in
    (a, b, here, there)

-- each instance starts before the horizon
pub end_judged : (all : Confirmed) → IsDrawable all → (i j : ℕ) → IsPair (length all.series) i j → (r : Bool)
    → ((a b : Event) → IsSeriesAt all i a → IsSeriesAt all j b → MatchBool r (AreClear (StartsBelow a horizon) (StartsBelow b horizon)) (HasClash (StartsBelow a horizon) (StartsBelow b horizon)))
    → MatchBool r (EntryHolds all i j End) (EntryFails all i j End)
end_judged all drawable i j pair true h = λ a b here there x y t is it clash.
    h a b here there x y t (is, ((known_at all drawable i a here).dates x is).1) (it, ((known_at all drawable j b there).dates y it).1) clash
end_judged all drawable i j pair false h =
    let (a, b, here, there) = both_there all i j pair in
    let c = h a b here there in
    (a, b, here, there, record { a = c.a; b = c.b; t = c.t; first = c.first.0; second = c.second.0; clash = c.clash })

pub end_drawn : (all : Confirmed) (i j : ℕ) (r : Bool) (old new : ℕ) → AreBothDrawn all i j horizon r old new → (n : ℕ) → IsEntryCount all i j End n → IsEntryDrawn all i j End r old new n
end_drawn all i j r old new drawn n c = compared_drawn (HasEntryCompared all i j End) tt r old new n (both_drawn all i j End horizon r old new drawn n c c.is)

-- ---- SPAN

only : (a c : Event) → Contains (a ∷ []) c → c ≡ a
only a c (zero, l, e) = sym e
only a c (suc n, l, e) = absurd (omega (arith, l))

alone : (a : Event) → Contains (a ∷ []) a
alone a = (zero, omega arith, refl)

pub span_judged : (a b : Event) (from : ℤ) (days : ℕ) (bound : ℤ) → IsSpan (a ∷ b ∷ []) from days → IsBoundOf (a ∷ b ∷ []) from days bound → (r : Bool)
    → MatchBool r (AreClear (StartsBelow a bound) (StartsBelow b bound)) (HasClash (StartsBelow a bound) (StartsBelow b bound))
    → MatchBool r (SpanHolds (a ∷ []) (b ∷ []) from days) (SpanFails (a ∷ []) (b ∷ []) from days)
span_judged a b from days bound span is true h = record {
  span = span;
  bound = bound;
  is = is;
  clear = λ c d f g. subst (λ (x : Event). AreClear (StartsBelow x bound) (StartsBelow d bound)) (sym (only a c f))
      (subst (λ (y : Event). AreClear (StartsBelow a bound) (StartsBelow y bound)) (sym (only b d g)) h);
}
span_judged a b from days bound span is false h = inr (bound, is, record { a = a; b = b; first = alone a; second = alone b; clash = h })

-- it is one of the two series, whichever they are
abbrev pub IsSpanAt : Confirmed → ℕ → ℕ → ℤ → ℕ → Type 0
IsSpanAt all i j from days = (a b : Event) → IsSeriesAt all i a → IsSeriesAt all j b → IsSpan (a ∷ b ∷ []) from days

abbrev pub IsBoundAt : Confirmed → ℕ → ℕ → ℤ → ℕ → ℤ → Type 0
IsBoundAt all i j from days bound = (a b : Event) → IsSeriesAt all i a → IsSeriesAt all j b → IsBoundOf (a ∷ b ∷ []) from days bound

pub span_drawn : (all : Confirmed) (i j : ℕ) (from : ℤ) (days : ℕ) (bound : ℤ) → IsSpanAt all i j from days → IsBoundAt all i j from days bound → (r : Bool) (old new : ℕ)
    → AreBothDrawn all i j bound r old new → (n : ℕ) → IsEntryCount all i j (Span from days) n → IsEntryDrawn all i j (Span from days) r old new n
span_drawn all i j from days bound span is r old new drawn n c =
    compared_drawn (HasEntryCompared all i j (Span from days)) span r old new n
    (both_drawn all i j (Span from days) bound r old new drawn n c (one_bound (c.a ∷ c.b ∷ []) from days c.bound bound c.is (is c.a c.b c.at_first c.at_second)))

pub no_span_drawn : (all : Confirmed) (i j : ℕ) (from : ℤ) (days old new n : ℕ) → ((a b : Event) → IsSeriesAt all i a → IsSeriesAt all j b → IsSpan (a ∷ b ∷ []) from days → ⊥)
    → IsEntryCount all i j (Span from days) n → new ≡ old → IsEntryDrawn all i j (Span from days) false old new n
no_span_drawn all i j from days old new n none c e =
    none_drawn (HasEntryCompared all i j (Span from days)) (λ compared. none c.a c.b c.at_first c.at_second (compared c.a c.b c.at_first c.at_second)) old new n e

pub span_entry : (all : Confirmed) (i j : ℕ) → IsPair (length all.series) i j → (from : ℤ) (days : ℕ) (r : Bool)
    → ((a b : Event) → IsSeriesAt all i a → IsSeriesAt all j b → MatchBool r (SpanHolds (a ∷ []) (b ∷ []) from days) (SpanFails (a ∷ []) (b ∷ []) from days))
    → MatchBool r (EntryHolds all i j (Span from days)) (EntryFails all i j (Span from days))
span_entry all i j pair from days true h = h
span_entry all i j pair from days false h =
    let (a, b, here, there) = both_there all i j pair in
    (a, b, here, there, h a b here there)
