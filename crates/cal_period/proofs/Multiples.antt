-- Periods: their sums and differences are periods, so they are the multiples of the least one.
use Rattle.std.proofs.Common.{◌≡◌, ◌∙◌, refl, sym, subst, ap, inl, inr, arith, ℕ, zero, suc, ◌+◌, ◌-◌, ◌*◌, ◌/◌, ◌%◌, ◌<◌, ◌≤◌, true, false, true≢false}
use Rattle.std.proofs.Math.Nat.{mod-eq-sub-div-mul, mod-lt}
use Rattle.std.proofs.lemmas.Nat.{div-add-mod'}
use Rattle.std.proofs.lemmas.Bool.{cases_lt}
use Rattle.std.proofs.lemmas.Option.{same_Some}
use Rattle.std.specs.Prelude.{◌↔◌, Some}
use Rattle.profile.specs.series.Days.{Frequency, Daily, Weekly, Monthly, Yearly}
use Rattle.profile.specs.series.Rules.{Pattern, Rule}
use Rattle.profile.specs.series.Zones.{Zone, Constant, Single, Pair}
use Rattle.profile.specs.series.Periods.{IsMultiple, IsLeastMultiple, IsInStep, IsShift, IsPeriod, HasNoPeriod, most_period}
use Rattle.profile.specs.events.ZonedTimes.{clock_of}
use Rattle.profile.specs.events.EventComponents.{EventComponent}
use Rattle.profile.specs.events.Events.{Event}
use Rattle.profile.specs.events.Spans.{has_end, IsRulePeriod, IsZonePeriod, IsPeriodOf, IsLeastPeriodOf}
use Rattle.cal_zones.specs.Repeats.{IsLeastZonePeriod}
use Rattle.cal_period.specs.Recurring.{AreMultiples}

-- ---- multiples of one number

sum_times : (k l c : ℕ) → (k + l) * c ≡ k * c + l * c
sum_times zero l c = let z : 0 * c ≡ 0 = omega arith in let e : 0 + l ≡ l = omega arith in rw e (omega (arith, z))
sum_times (suc k) l c =
    let e = sum_times k l c in
    let a : (suc k + l) * c ≡ c + (k + l) * c = omega arith in
    let b : suc k * c ≡ c + k * c = omega arith in
    omega (arith, a, b, e)

none_multiple : (c : ℕ) → IsMultiple 0 c
none_multiple c = (0, (let z : 0 * c ≡ 0 = omega arith in omega (arith, z)))

sum_multiple : (a b c : ℕ) → IsMultiple a c → IsMultiple b c → IsMultiple (a + b) c
sum_multiple a b c (k, e) (l, f) = (k + l, (let s = sum_times k l c in omega (arith, s, e, f)))

-- how many of the first number are left beside the second
left_multiple : (a b c : ℕ) → IsMultiple a c → IsMultiple b c → IsMultiple (a - b) c
left_multiple a b c (k, e) (l, f) =
    elim (cases_lt k l) [
      | inl less ↦
          let s = sum_times k (l - k) c in
          let g : l * c ≡ (k + (l - k)) * c = ap (λ x. x * c) (omega (arith, less)) in
          let z : 0 * c ≡ 0 = omega arith in
          (0, omega (arith, s, e, f, g, z))
      | inr most ↦
          let s = sum_times l (k - l) c in
          let g : k * c ≡ (l + (k - l)) * c = ap (λ x. x * c) (omega (arith, most)) in
          (k - l, omega (arith, s, e, f, g))
    ]

-- ---- numbers of which the sums and the differences are such numbers

pub record AreClosed (P : ℕ → Type 0) : Type 0 where
  pub none : P 0
  pub sum : (a b : ℕ) → P a → P b → P (a + b)
  pub left : (a b : ℕ) → P a → P b → b ≤ a → P (a - b)

module _ (P : ℕ → Type 0) (closed : AreClosed P) (d : ℕ) (some : 0 < d) (is : P d) (least : (n : ℕ) → 0 < n → P n → d ≤ n) where
  times : (k : ℕ) → P (k * d)
  times zero = let z : 0 ≡ 0 * d = omega arith in subst P z closed.none
  times (suc k) = let e : d + k * d ≡ suc k * d = omega arith in subst P e (closed.sum d (k * d) is (times k))

  -- the rest would be a smaller one
  no_rest : (n : ℕ) → P n → n % d ≡ 0
  no_rest n p =
      let e = div-add-mod' n d in
      let less : n % d < d = mod-lt n {m = d} some in
      let rest : P (n % d) = subst P (sym (mod-eq-sub-div-mul n d)) (closed.left n (n / d * d) p (times (n / d)) (omega (arith, e))) in
      elim (cases_lt 0 (n % d)) [
        | inl more ↦ let m = least (n % d) more rest in absurd (omega (arith, m, less))
        | inr most ↦ omega (arith, most)
      ]

  pub multiples : (n : ℕ) → P n ↔ IsMultiple n d
  multiples n = (
    λ p. (n / d, (let e = div-add-mod' n d in let r = no_rest n p in omega (arith, e, r))),
    λ (k, e). subst P (sym e) (times k),
  )

-- the least multiple of two numbers divides each
pub common_multiples : (a b m n : ℕ) → IsLeastMultiple a b m → (IsMultiple n a × IsMultiple n b) ↔ IsMultiple n m
common_multiples a b m n is =
    multiples (λ k. IsMultiple k a × IsMultiple k b) both m is.some (is.of_first, is.of_second) (λ k some (p, q). is.least k some p q) n
  where
    both : AreClosed (λ k. IsMultiple k a × IsMultiple k b)
    both = record {
      none = (none_multiple a, none_multiple b);
      sum = λ k l (p, q) (r, s). (sum_multiple k l a p r, sum_multiple k l b q s);
      left = λ k l (p, q) (r, s) _. (left_multiple k l a p r, left_multiple k l b q s);
    }

-- a multiple isn't less
pub least_multiple : (n d : ℕ) → 0 < n → IsMultiple n d → d ≤ n
least_multiple n d some (zero, e) = let z : 0 * d ≡ 0 = omega arith in absurd (omega (arith, some, e, z))
least_multiple n d some (suc k, e) = let f : suc k * d ≡ d + k * d = omega arith in omega (arith, e, f)

-- ---- rules

step_closed : (f : Frequency) (interval : ℕ) → AreClosed (IsInStep f interval)
step_closed Daily interval = record { none = none_multiple interval; sum = λ a b. sum_multiple a b interval; left = λ a b p q l. left_multiple a b interval p q }
step_closed Weekly interval =
    record { none = none_multiple (7 * interval); sum = λ a b. sum_multiple a b (7 * interval); left = λ a b p q l. left_multiple a b (7 * interval) p q }
step_closed Monthly interval = record {
  none = (0, refl, none_multiple interval);
  sum = λ a b (p, e, m) (q, f, n).
      (p + q, omega (arith, e, f), (let g : p * 4800 + q * 4800 ≡ (p + q) * 4800 = omega arith in subst (λ x. IsMultiple x interval) g (sum_multiple (p * 4800) (q * 4800) interval m n)));
  left = λ a b (p, e, m) (q, f, n) l.
      (p - q, omega (arith, e, f), (let g : p * 4800 - q * 4800 ≡ (p - q) * 4800 = omega arith in subst (λ x. IsMultiple x interval) g (left_multiple (p * 4800) (q * 4800) interval m n)));
}
step_closed Yearly interval = record {
  none = (0, refl, none_multiple interval);
  sum = λ a b (p, e, m) (q, f, n).
      (p + q, omega (arith, e, f), (let g : p * 400 + q * 400 ≡ (p + q) * 400 = omega arith in subst (λ x. IsMultiple x interval) g (sum_multiple (p * 400) (q * 400) interval m n)));
  left = λ a b (p, e, m) (q, f, n) l.
      (p - q, omega (arith, e, f), (let g : p * 400 - q * 400 ≡ (p - q) * 400 = omega arith in subst (λ x. IsMultiple x interval) g (left_multiple (p * 400) (q * 400) interval m n)));
}

shift_closed : (p : Pattern) → AreClosed (IsShift p)
shift_closed p =
    let step = step_closed p.frequency p.interval in
    record {
      none = record { steps = step.none; weeks = λ _. none_multiple 7; dates = λ _. none_multiple 146_097 };
      sum = λ a b x y. record {
        steps = step.sum a b x.steps y.steps;
        weeks = λ e. sum_multiple a b 7 (x.weeks e) (y.weeks e);
        dates = λ e. sum_multiple a b 146_097 (x.dates e) (y.dates e);
      };
      left = λ a b x y l. record {
        steps = step.left a b x.steps y.steps l;
        weeks = λ e. left_multiple a b 7 (x.weeks e) (y.weeks e);
        dates = λ e. left_multiple a b 146_097 (x.dates e) (y.dates e);
      };
    }

rule_closed : (r : Rule) → AreClosed (IsRulePeriod r)
rule_closed r =
    let shift = shift_closed r.pattern in
    record { none = λ e. shift.none; sum = λ a b x y e. shift.sum a b (x e) (y e); left = λ a b x y l e. shift.left a b (x e) (y e) l }

-- ---- zones

zone_closed : (z : Zone) → AreClosed (IsZonePeriod z)
zone_closed (Constant k) = record { none = tt; sum = λ a b x y. tt; left = λ a b x y l. tt }
zone_closed (Single a) = record { none = tt; sum = λ a b x y. tt; left = λ a b x y l. tt }
zone_closed (Pair a b) =
    record { none = none_multiple 146_097; sum = λ a b. sum_multiple a b 146_097; left = λ a b x y l. left_multiple a b 146_097 x y }

-- ---- series

record IsPeriodAt (m : EventComponent) (days : ℕ) : Type 0 where
  rule : (rule : Rule) → m.rule ≡ Some rule → IsRulePeriod rule days
  zone : IsZonePeriod (clock_of m.times.zone) days

at_closed : (m : EventComponent) → AreClosed (IsPeriodAt m)
at_closed m =
    let zone = zone_closed (clock_of m.times.zone) in
    record {
      none = record { rule = λ r e. (rule_closed r).none; zone = zone.none };
      sum = λ a b x y. record { rule = λ r e. (rule_closed r).sum a b (x.rule r e) (y.rule r e); zone = zone.sum a b x.zone y.zone };
      left = λ a b x y l. record { rule = λ r e. (rule_closed r).left a b (x.rule r e) (y.rule r e) l; zone = zone.left a b x.zone y.zone l };
    }

period_at : (a : Event) (m : EventComponent) (n : ℕ) → a.master ≡ Some m → IsPeriodOf a n → IsPeriodAt m n
period_at a m n e p = subst (λ x. IsPeriodAt x n) (same_Some p.master m (sym p.is ∙ e)) (record { rule = p.rule; zone = p.zone })

period_of : (a : Event) (m : EventComponent) (n : ℕ) → a.master ≡ Some m → IsPeriodAt m n → IsPeriodOf a n
period_of a m n e p = record { master = m; is = e; rule = p.rule; zone = p.zone }

pub series_multiples : (a : Event) (days n : ℕ) → IsLeastPeriodOf a days → IsPeriodOf a n ↔ IsMultiple n days
series_multiples a days n l =
    let m = l.is.master in
    let e = l.is.is in
    let w = multiples (IsPeriodAt m) (at_closed m) days l.some (period_at a m days e l.is) (λ n some p. l.least n some (period_of a m n e p)) n in
    (λ p. w.0 (period_at a m n e p), λ k. period_of a m n e (w.1 k))

pub series_are : (a : Event) (days : ℕ) → IsLeastPeriodOf a days → AreMultiples (IsPeriodOf a) days
series_are a days l = record { some = l.some; most = l.most; multiples = λ n. series_multiples a days n l }

pub zone_are : (z : Zone) (days : ℕ) → IsLeastZonePeriod z days → AreMultiples (IsZonePeriod z) days
zone_are z days l = record {
  some = l.some;
  most = let m = l.least 146_097 (omega arith) (each z) in omega (arith, m);
  multiples = multiples (IsZonePeriod z) (zone_closed z) days l.some l.is l.least;
}
  where
    each : (z : Zone) → IsZonePeriod z 146_097
    each (Constant k) = tt
    each (Single a) = tt
    each (Pair a b) = (1, refl)

-- a rule that ends has each number of days as a period
pub ended_are : (r : Rule) → has_end r ≡ true → AreMultiples (IsRulePeriod r) 1
ended_are r e = record {
  some = omega arith;
  most = omega arith;
  multiples = λ n. (λ p. (n, omega arith), λ m f. absurd (true≢false (sym e ∙ f)));
}

pub endless_are : (r : Rule) (days : ℕ) → has_end r ≡ false → days ≤ most_period → IsPeriod r.pattern days → AreMultiples (IsRulePeriod r) days
endless_are r days e most p = record {
  some = p.some;
  most = most;
  multiples = multiples (IsRulePeriod r) (rule_closed r) days p.some (λ _. p.shift) (λ n some q. p.least n some (q e));
}

pub endless_none : (r : Rule) → has_end r ≡ false → HasNoPeriod r.pattern → (n : ℕ) → 0 < n → IsRulePeriod r n → most_period < n
endless_none r e none n some p = none n some (p e)
