-- Whole periods passed over.
use Rattle.std.proofs.Common.{◌≡◌, ◌∙◌, sym, inl, inr, ℕ, zero, suc, ◌+◌, ◌-◌, ◌*◌, ◌%◌, ◌<◌, ◌≤◌, true, false, arith}
use Rattle.std.proofs.Math.Nat.{mod-add-mod, mod-eq_of_lt, add-mod_left}
use Rattle.std.proofs.lemmas.Bool.{cases_lt, ne_eqb, eq-eqb}
use Rattle.cal_days.specs.Views.{PeriodsAscend, PeriodsLast}
use Rattle.profile.specs.series.Days.{period_of, shortest_period}
use Rattle.profile.specs.series.Rules.{Pattern, is_in_step}
use Rattle.cal_rules.specs.Spans.{IsPeriodSpan}
use Rattle.cal_rules.specs.Counted.{NoneIn, is_chosen}
use Rattle.cal_rules.proofs.Positions.{chosen_step}

-- below the remainder that is looked for
pub none_below : (interval here there j : ℕ) → there < interval → here + j < there → (here + j) % interval ≡ there → ⊥
none_below interval here there j bound low e =
    let small : here + j < interval = omega arith in
    omega (arith, sym (mod-eq_of_lt small) ∙ e)

-- and above it, round the interval
pub none_round : (interval here there j : ℕ) → there < here → here < interval → here + j < interval + there → (here + j) % interval ≡ there → ⊥
none_round interval here there j high bound low e =
    elim (cases_lt (here + j) interval) [
      | inl lt ↦ omega (arith, sym (mod-eq_of_lt lt) ∙ e)
      | inr ge ↦
          let k = here + j - interval in
          let split : here + j ≡ interval + k = omega arith in
          let small : k < interval = omega arith in
          let e' : (interval + k) % interval ≡ there = rw split at e in
          omega (arith, sym (mod-eq_of_lt small) ∙ sym (add-mod_left interval k) ∙ e')
    ]

-- no day of the periods passed over is in step
pub passed_over : (p : Pattern) (day n ahead : ℕ) → PeriodsAscend → PeriodsLast → 1 ≤ ahead → day ≤ n → n ≤ day + shortest_period p.frequency * (ahead - 1) → ((j : ℕ) → j < ahead → (period_of p.frequency p.week_start day % p.interval + j) % p.interval ≡ period_of p.frequency p.week_start p.start % p.interval → ⊥) → is_in_step p n ≡ false
unfolding is_in_step
passed_over p day n ahead ascend last some low high none =
    let here = period_of p.frequency p.week_start day in
    let period = period_of p.frequency p.week_start n in
    let up : here ≤ period = ascend p.frequency p.week_start day n low in
    let down : period ≤ here + (ahead - 1) = last p.frequency p.week_start day n (ahead - 1) high in
    let split : here + (period - here) ≡ period = omega arith in
    let same : (here % p.interval + (period - here)) % p.interval ≡ period % p.interval =
    rw split at (mod-add-mod here p.interval (period - here)) in
    ne_eqb (period % p.interval) (period_of p.frequency p.week_start p.start % p.interval)
    (λ e. none (period - here) (omega arith) (same ∙ e))

-- a period that isn't a multiple of the interval away
pub out_of_step : (p : Pattern) (n ahead : ℕ) → PeriodsAscend → PeriodsLast → 1 ≤ ahead → ((j : ℕ) → j < ahead → (period_of p.frequency p.week_start n % p.interval + j) % p.interval ≡ period_of p.frequency p.week_start p.start % p.interval → ⊥) → is_in_step p n ≡ false
out_of_step p n ahead ascend last some none =
    passed_over p n n ahead ascend last some (omega arith) (omega arith) none

-- each period is a multiple of 1 away
pub step_of_one : (p : Pattern) (n : ℕ) → p.interval ≡ 1 → is_in_step p n ≡ true
unfolding is_in_step
step_of_one p n e =
    rw e (eq-eqb (period_of p.frequency p.week_start n % 1) (period_of p.frequency p.week_start p.start % 1) (omega arith))

pub step_here : (p : Pattern) (n : ℕ) → period_of p.frequency p.week_start n % p.interval ≡ period_of p.frequency p.week_start p.start % p.interval → is_in_step p n ≡ true
unfolding is_in_step
step_here p n e = eq-eqb _ _ e

-- from a period to the next one in step
pub beyond_none : (p : Pattern) (from n first end ahead : ℕ) → PeriodsAscend → PeriodsLast → IsPeriodSpan p.frequency p.week_start n first end → NoneIn (is_chosen p) from n → NoneIn (is_chosen p) n end → ((j : ℕ) → j < ahead → (period_of p.frequency p.week_start n % p.interval + j) % p.interval ≡ period_of p.frequency p.week_start p.start % p.interval → ⊥) → NoneIn (is_chosen p) from (end + shortest_period p.frequency * (ahead - 1))
beyond_none p from n first end zero ascend last s before here none m a b =
    elim (cases_lt m n) [
      | inl lt ↦ before m a lt
      | inr ge ↦ here m ge (omega arith)
    ]
beyond_none p from n first end (suc ahead) ascend last s before here none m a b =
    let low = s.not_before in
    let high = s.not_after in
    elim (cases_lt m n) [
      | inl lt ↦ before m a lt
      | inr ge ↦ elim (cases_lt m end) [
        | inl inside ↦ here m ge inside
        | inr past ↦
            let same = s.same (end - 1) (omega arith) (omega arith) in
            chosen_step p m (passed_over p (end - 1) m (suc ahead) ascend last (omega arith) (omega arith) (omega arith) (λ j lt e. none j lt (rw same at e)))
      ]
    ]
