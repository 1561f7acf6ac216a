-- The entry of two series is that of the same two the other way round.
use Rattle.std.proofs.Common.{◌≡◌, ℕ, zero, suc, ℤ, false, List, [], ◌∷◌, sym, arith, lit<}
use Rattle.std.specs.Prelude.{Contains}
use Rattle.std.proofs.lemmas.Bool.{true≢false}
use Rattle.profile.specs.series.Repeating.{IsCongruent, ArcsMeet}
use Rattle.profile.specs.events.Events.{Event}
use Rattle.profile.specs.events.Spans.{IsSpan, IsBoundOf}
use Rattle.profile.specs.events.Residues.{AreArcsApart, ResiduesHold, IsLeastStride}
use Rattle.profile.specs.checker.Certificates.{Entry, End, Span, Res, InGroup, IsLeastSpan, IsShortSpan, AreSettling, NoneSettle, IsEntryMade}

-- ---- residues

congruent_turned : (m : ℕ) (x y : ℤ) → IsCongruent m x y → IsCongruent m y x
congruent_turned m x y (k, l, e) = (l, k, sym e)

arcs_turned : (m r s : ℕ) (w v : ℤ) → ArcsMeet m r w s v → ArcsMeet m s v r w
arcs_turned m r s w v meet = record { i = meet.j; j = meet.i; in_first = meet.in_second; in_second = meet.in_first; same = congruent_turned m _ _ meet.same }

apart_turned : (a b : Event) (m : ℕ) → AreArcsApart a b m → AreArcsApart b a m
apart_turned a b m (w, v, of_w, of_v, apart) = (v, w, of_v, of_w, λ r s of_r of_s meet. apart s r of_s of_r (arcs_turned m r s v w meet))

stride_turned : (a b : Event) (days : ℕ) → IsLeastStride a b days → IsLeastStride b a days
stride_turned a b days is = record { some = is.some; first = is.second; second = is.first; least = λ n some f g. is.least n some g f }

residues_turned : (a b : Event) (m : ℕ) → ResiduesHold false a b m → ResiduesHold false b a m
residues_turned a b m hold = record { modulus = hold.modulus; two = λ e. apart_turned a b m (hold.two e); one = λ e. absurd (true≢false (sym e)) }

settling_turned : (a b : Event) (m : ℕ) → AreSettling false a b m → AreSettling false b a m
settling_turned a b m (days, least, e, hold) = (days, stride_turned a b days least, e, residues_turned a b m hold)

none_turned : (a b : Event) → NoneSettle false a b → NoneSettle false b a
none_turned a b none m settling = none m (settling_turned b a m settling)

-- ---- spans

-- the span of some series is that of a list of the same ones
module _ (these those : List Event) (there : (a : Event) → Contains these a → Contains those a) (back : (a : Event) → Contains those a → Contains these a) where
  span_same : (from : ℤ) (days : ℕ) → IsSpan these from days → IsSpan those from days
  span_same from days is = record { some = is.some; most = is.most; past = λ a c. is.past a (back a c); period = λ a c. is.period a (back a c) }

  bound_same : (from : ℤ) (days : ℕ) (bound : ℤ) → IsBoundOf these from days bound → IsBoundOf those from days bound
  bound_same from days bound (width, is, e) = (
    width,
    record { one = (is.one.0, there is.one.0 is.one.1, is.one.2); none_greater = λ a w c. is.none_greater a w (back a c) },
    e,
  )

  least_same : (from : ℤ) (days : ℕ) → IsLeastSpan these from days → IsLeastSpan those from days
  least_same from days is = record {
    span = span_same from days is.span;
    midnight = is.midnight;
    first = λ n past. is.first n (λ a c. past a (there a c));
    least = λ n some periods. is.least n some (λ a c. periods a (there a c));
  }

  short_same : (from : ℤ) (days : ℕ) → IsShortSpan these from days → IsShortSpan those from days
  short_same from days is = record { least = least_same from days is.least; bound = is.bound; is = bound_same from days is.bound is.is; before = is.before }

-- two are the same two the other way round
two_turned : {X : Type 0} (a b x : X) → Contains (a ∷ b ∷ []) x → Contains (b ∷ a ∷ []) x
two_turned a b x (zero, l, e) = (1, lit< tt, e)
two_turned a b x (suc zero, l, e) = (0, lit< tt, e)
two_turned a b x (suc (suc k), l, e) = absurd (omega (arith, l))

short_turned : (a b : Event) (from : ℤ) (days : ℕ) → IsShortSpan (a ∷ b ∷ []) from days → IsShortSpan (b ∷ a ∷ []) from days
short_turned a b from days is = short_same (a ∷ b ∷ []) (b ∷ a ∷ []) (two_turned a b) (two_turned b a) from days is

-- ---- entries

pub entry_turned : (a b : Event) (entry : Entry) → IsEntryMade false a b entry → IsEntryMade false b a entry
entry_turned a b (Res m) made = settling_turned a b m made
entry_turned a b (Span from days) (none, short) = (none_turned a b none, short_turned a b from days short)
entry_turned a b End (none, late) = (none_turned a b none, λ from days short. late from days (short_turned b a from days short))
entry_turned a b (InGroup n) made = absurd made
