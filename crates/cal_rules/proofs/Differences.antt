-- The shifts of a rule are the multiples of its period: they are closed under sums and differences.
-- Cited by shifts_are_multiples of law.
use Rattle.std.proofs.Common.{◌≡◌, ◌∙◌, ap, sym, refl, subst, inl, inr, ℕ, zero, suc, ◌+◌, ◌-◌, ◌*◌, ◌/◌, ◌%◌, ◌≤◌, arith}
use Rattle.std.proofs.Math.Nat.{add-mul, mul-sub, mul_comm, mod-lt}
use Rattle.std.proofs.lemmas.Nat.{div-add-mod'}
use Rattle.std.proofs.lemmas.Bool.{cases_lt}
use Rattle.profile.specs.series.Days.{Frequency, Daily, Weekly, Monthly, Yearly}
use Rattle.profile.specs.series.Rules.{Pattern}
use Rattle.profile.specs.series.Periods.{IsMultiple, IsInStep, IsShift, IsPeriod}

-- ---- numbers

pub none : (of : ℕ) → IsMultiple 0 of
none of = (0, omega arith)

pub sum : (a b of : ℕ) → IsMultiple a of → IsMultiple b of → IsMultiple (a + b) of
sum a b of (k, e) (j, f) = let m = add-mul k j of in (k + j, omega (arith, e, f, m))

pub difference : (a b of : ℕ) → IsMultiple (a + b) of → IsMultiple a of → IsMultiple b of
difference a b of (k, e) (j, f) = let m : (k - j) * of ≡ k * of - j * of = mul_comm (k - j) of ∙ mul-sub of k j ∙ rw (mul_comm of k, mul_comm of j) refl in (k - j, omega (arith, e, f, m))

-- so many cycles, and a multiple of an interval of periods
abbrev AreCycles : ℕ → ℕ → ℕ → Type 0
AreCycles periods interval days = (q : ℕ) × (days ≡ q * 146_097) × IsMultiple (q * periods) interval

cycles_sum : (periods interval a b : ℕ) → AreCycles periods interval a → AreCycles periods interval b → AreCycles periods interval (a + b)
cycles_sum periods interval a b (q, e, m) (r, f, n) =
    let d = add-mul q r periods in
    (q + r, omega (arith, e, f), subst (λ x. IsMultiple x interval) (sym d) (sum (q * periods) (r * periods) interval m n))

cycles_difference : (periods interval a b : ℕ) → AreCycles periods interval (a + b) → AreCycles periods interval a → AreCycles periods interval b
cycles_difference periods interval a b (q, e, m) (r, f, n) =
    let more : r ≤ q = omega (arith, e, f) in
    let d = add-mul r (q - r) periods in
    let whole : r + (q - r) ≡ q = omega (arith, more) in
    let joined : q * periods ≡ r * periods + (q - r) * periods = ap (λ x. x * periods) (sym whole) ∙ d in
    (q - r, omega (arith, e, f, more), difference (r * periods) ((q - r) * periods) interval (subst (λ x. IsMultiple x interval) joined m) n)

-- ---- shifts

step_sum : (f : Frequency) (interval a b : ℕ) → IsInStep f interval a → IsInStep f interval b → IsInStep f interval (a + b)
step_sum Daily interval a b h k = sum a b interval h k
step_sum Weekly interval a b h k = sum a b (7 * interval) h k
step_sum Monthly interval a b h k = cycles_sum 4_800 interval a b h k
step_sum Yearly interval a b h k = cycles_sum 400 interval a b h k

step_difference : (f : Frequency) (interval a b : ℕ) → IsInStep f interval (a + b) → IsInStep f interval a → IsInStep f interval b
step_difference Daily interval a b h k = difference a b interval h k
step_difference Weekly interval a b h k = difference a b (7 * interval) h k
step_difference Monthly interval a b h k = cycles_difference 4_800 interval a b h k
step_difference Yearly interval a b h k = cycles_difference 400 interval a b h k

no_step : (f : Frequency) (interval : ℕ) → IsInStep f interval 0
no_step Daily interval = none interval
no_step Weekly interval = none (7 * interval)
no_step Monthly interval = (0, refl, none interval)
no_step Yearly interval = (0, refl, none interval)

module _ (p : Pattern) where
  no_shift : IsShift p 0
  no_shift = record { steps = no_step p.frequency p.interval; weeks = λ _. (0, refl); dates = λ _. (0, refl) }

  shift_sum : (a b : ℕ) → IsShift p a → IsShift p b → IsShift p (a + b)
  shift_sum a b h k = record {
    steps = step_sum p.frequency p.interval a b h.steps k.steps;
    weeks = λ w. sum a b 7 (h.weeks w) (k.weeks w);
    dates = λ d. sum a b 146_097 (h.dates d) (k.dates d);
  }

  shift_difference : (a b : ℕ) → IsShift p (a + b) → IsShift p a → IsShift p b
  shift_difference a b h k = record {
    steps = step_difference p.frequency p.interval a b h.steps k.steps;
    weeks = λ w. difference a b 7 (h.weeks w) (k.weeks w);
    dates = λ d. difference a b 146_097 (h.dates d) (k.dates d);
  }

  -- each multiple of a shift is one
  shift_times : (k d : ℕ) → IsShift p d → IsShift p (k * d)
  shift_times zero d h = let e : 0 ≡ 0 * d = omega arith in subst (IsShift p) e no_shift
  shift_times (suc k) d h = let e : d + k * d ≡ suc k * d = omega arith in subst (IsShift p) e (shift_sum d (k * d) h (shift_times k d h))

  pub multiple_shifts : (d n : ℕ) → IsPeriod p d → IsMultiple n d → IsShift p n
  multiple_shifts d n h (k, e) = subst (IsShift p) (sym e) (shift_times k d h.shift)

  -- what is left of a shift less the least one, as often as that goes, is a lesser one, so none
  pub shift_multiple : (d n : ℕ) → IsPeriod p d → IsShift p n → IsMultiple n d
  shift_multiple d n h s =
      let some = h.some in
      let whole = div-add-mod' n d in
      let rest = shift_difference (n / d * d) (n % d) (subst (IsShift p) (sym whole) s) (shift_times (n / d) d h.shift) in
      let less = mod-lt n some in
      elim (cases_lt 0 (n % d)) [
        | inl left ↦ let l = h.least (n % d) left rest in absurd (omega (arith, l, less))
        | inr none ↦ (n / d, omega (arith, whole, none))
      ]
