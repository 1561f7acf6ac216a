-- The days of one cycle stand for all that the form of a rule allows.
use Rattle.std.proofs.Common.{◌≡◌, ◌∙◌, ap, sym, refl, inl, inr, ◌⊎◌, ℕ, suc, ◌+◌, ◌-◌, ◌*◌, ◌/◌, ◌%◌, ◌<◌, ◌≤◌, Bool, true, false, not, ◌&&◌, ◌||◌, ◌==◌, arith}
use Rattle.std.proofs.Math.Nat.{add-mul, mul_assoc, mul_comm}
use Rattle.std.proofs.lemmas.Nat.{div-add-mod'}
use Rattle.std.proofs.lemmas.Bool.{and_parts, true≢false, cases_lt, lt-ltb, le-ltb, eqb-true, eq-eqb}
use Rattle.profile.specs.series.Days.{Frequency, Daily, Weekly, Monthly, Yearly, period_of}
use Rattle.profile.specs.series.Rules.{Pattern, is_long, is_missing, is_in_step, weekdays_meant}
use Rattle.profile.specs.series.Periods.{IsMultiple}
use Rattle.profile.specs.series.Residues.{IsStride, is_in_form, is_in_form_step, is_on_weekday}
use Rattle.cal_rules.specs.Forms.{AreApartBy, IsCovered, form_cycle, form_day, is_listed, week_day}
use Rattle.cal_rules.proofs.Shifts.{seven_times}
use Rattle.cal_rules.proofs.Forms.{form_shift, stride_times}

-- ---- numbers a multiple apart

same_mod : (c a b : ℕ) → a % c ≡ b % c → AreApartBy c a b
same_mod c a b e =
    let m = div-add-mod' a c in
    let n = div-add-mod' b c in
    (b / c, a / c, omega (arith, m, n, e))

in_first : (i n start : ℕ) → AreApartBy i n start → AreApartBy i n (start + i * 0)
in_first i n start (k, l, e) = let z : i * 0 ≡ 0 = omega arith in (k, l, omega (arith, e, z))

-- one of seven multiples from a day on is a multiple of seven times as many from it
in_seven : (i n start k l : ℕ) → n + k * i ≡ start + l * i → AreApartBy (7 * i) n (start + i * ((l + 6 * k) % 7))
in_seven i n start k l e =
    let j = (l + 6 * k) % 7 in
    let q = (l + 6 * k) / 7 in
    let whole : l + 6 * k ≡ j + q * 7 = omega arith in
    let times : (l + 6 * k) * i ≡ (j + q * 7) * i = ap (λ x. x * i) whole in
    let a = add-mul l (6 * k) i in
    let b = mul_assoc 6 k i in
    let c = add-mul j (q * 7) i in
    let d = mul_assoc q 7 i in
    let f = seven_times k i in
    let g = mul_comm i j in
    (k, q, omega (arith, e, times, a, b, c, d, f, g))

-- the same of weeks
in_week : (i ws n start k l : ℕ) → 1 ≤ i → ws < 7 → (n + 12 - ws) / 7 + k * i ≡ (start + 12 - ws) / 7 + l * i → AreApartBy (7 * i) n (week_day i ws start ((n + 6 * start) % 7))
in_week i ws n start k l some h e = by (cases_lt ((start + 12 - ws) % 7 + j) 7)
  where
    j : ℕ
    j = (n + 6 * start) % 7

    by : (((start + 12 - ws) % 7 + j < 7) ⊎ (7 ≤ (start + 12 - ws) % 7 + j)) → AreApartBy (7 * i) n (week_day i ws start j)
    by (inl less) =
        let same : n + 7 * ((start + 12 - ws) / 7) ≡ start + j + 7 * ((n + 12 - ws) / 7) = omega (arith, less, h) in
        let a = seven_times k i in
        let b = seven_times l i in
        rw (lt-ltb _ _ less) (k, l, omega (arith, same, a, b, e))
    by (inr more) =
        let same : n + 7 * ((start + 12 - ws) / 7) + 7 ≡ start + j + 7 * ((n + 12 - ws) / 7) = omega (arith, more, h) in
        let a = seven_times k i in
        let b = seven_times l i in
        let c : suc k * (7 * i) ≡ 7 * i + k * (7 * i) = omega arith in
        rw (le-ltb _ _ more) (suc k, l, omega (arith, same, a, b, c, e, some))

in_days : (n start : ℕ) → AreApartBy 7 n (start + (n + 6 * start) % 7)
in_days n start = (start, (n + 6 * start) / 7, omega arith)

in_each : (n start : ℕ) → AreApartBy 1 n (start + 0)
in_each n start = (start, n, omega arith)

-- ---- a cycle

pub cycle_stride : (p : Pattern) → IsStride p (form_cycle p)
cycle_stride p = by p.frequency (is_missing p.weekdays) refl refl
  where
    once : (n : ℕ) → IsMultiple n n
    once n = (1, omega arith)

    by : (f : Frequency) (b : Bool) → p.frequency ≡ f → is_missing p.weekdays ≡ b → IsStride p (form_cycle p)
    by Daily true e m = record { steps = rw (e, m) (once p.interval); weeks = λ some. absurd (true≢false (sym m ∙ some)) }
    by Daily false e m = record { steps = rw (e, m) (7, refl); weeks = λ _. rw (e, m) (p.interval, mul_comm 7 p.interval) }
    by Weekly b e m = record { steps = rw e (once (7 * p.interval)); weeks = λ _. rw e (p.interval, mul_comm 7 p.interval) }
    by Monthly true e m = record { steps = rw e tt; weeks = λ some. absurd (true≢false (sym m ∙ some)) }
    by Monthly false e m = record { steps = rw e tt; weeks = λ _. rw (e, m) (once 7) }
    by Yearly true e m = record { steps = rw e tt; weeks = λ some. absurd (true≢false (sym m ∙ some)) }
    by Yearly false e m = record { steps = rw e tt; weeks = λ _. rw (e, m) (once 7) }

pub apart_form : (p : Pattern) (n m : ℕ) → 1 ≤ p.interval → p.week_start < 7 → AreApartBy (form_cycle p) n m → is_in_form p n ≡ is_in_form p m
apart_form p n m some h (k, l, e) =
    sym (form_shift p (k * form_cycle p) n (stride_times p k (form_cycle p) (cycle_stride p)) some h)
    ∙ (ap (is_in_form p) e ∙ form_shift p (l * form_cycle p) m (stride_times p l (form_cycle p) (cycle_stride p)) some h)

-- ---- the cover

pub listed_form : (p : Pattern) (i : ℕ) → is_listed p i ≡ true → is_in_form p (form_day p i) ≡ true
unfolding is_listed
listed_form p i e = (and_parts _ _ e).1

listed_by : (p : Pattern) (i : ℕ) → (i ≡ 0) ⊎ (is_missing (weekdays_meant p) ≡ false) → is_in_form p (form_day p i) ≡ true → is_listed p i ≡ true
unfolding is_listed
listed_by p i (inl e) form = rw (eq-eqb i 0 e, form) refl
listed_by p i (inr m) form = by (i == 0)
  where
    by : (b : Bool) → ((b || not (is_missing (weekdays_meant p))) && is_in_form p (form_day p i)) ≡ true
    by true = rw form refl
    by false = rw (m, form) refl

step_apart : (p : Pattern) (n : ℕ) → is_long p.frequency ≡ false → is_in_form p n ≡ true
    → AreApartBy p.interval (period_of p.frequency p.week_start n) (period_of p.frequency p.week_start p.start)
unfolding is_in_form is_in_step
step_apart p n short e = same_mod p.interval _ _ (eqb-true _ _ (rw short at (and_parts (is_in_form_step p n) (is_on_weekday p n) e).0))

daily_apart : (p : Pattern) (n : ℕ) → p.frequency ≡ Daily → is_in_form p n ≡ true → AreApartBy p.interval n p.start
unfolding period_of
daily_apart p n e form = rw e at (step_apart p n (rw e refl) form)

weekly_apart : (p : Pattern) (n : ℕ) → p.frequency ≡ Weekly → is_in_form p n ≡ true → AreApartBy p.interval ((n + 12 - p.week_start) / 7) ((p.start + 12 - p.week_start) / 7)
unfolding period_of
weekly_apart p n e form = rw e at (step_apart p n (rw e refl) form)

module _ (p : Pattern) (n : ℕ) (some : 1 ≤ p.interval) (h : p.week_start < 7) (form : is_in_form p n ≡ true) where
  covered : (i : ℕ) → i < 7 → (i ≡ 0) ⊎ (is_missing (weekdays_meant p) ≡ false) → AreApartBy (form_cycle p) n (form_day p i) → IsCovered p n
  covered i few stands same = record {
    i = i;
    few = few;
    listed = listed_by p i stands (sym (apart_form p n (form_day p i) some h same) ∙ form);
    same = same;
  }

  weekly_meant : (b : Bool) → p.frequency ≡ Weekly → is_missing p.weekdays ≡ b → is_missing (weekdays_meant p) ≡ false
  weekly_meant true e m = rw (e, m) refl
  weekly_meant false e m = rw (e, m) m

  daily_weeks : p.frequency ≡ Daily → is_missing p.weekdays ≡ false → AreApartBy p.interval n p.start → IsCovered p n
  daily_weeks e m (k, l, a) = covered ((l + 6 * k) % 7) (omega arith) (inr (rw e m)) (rw (e, m) (in_seven p.interval n p.start k l a))

  weeks : (b : Bool) → p.frequency ≡ Weekly → is_missing p.weekdays ≡ b → AreApartBy p.interval ((n + 12 - p.week_start) / 7) ((p.start + 12 - p.week_start) / 7) → IsCovered p n
  weeks b e m (k, l, a) = covered ((n + 6 * p.start) % 7) (omega arith) (inr (weekly_meant b e m)) (rw e (in_week p.interval p.week_start n p.start k l some h a))

  by_frequency : (f : Frequency) (b : Bool) → p.frequency ≡ f → is_missing p.weekdays ≡ b → IsCovered p n
  by_frequency Daily true e m = covered 0 (omega arith) (inl refl) (rw (e, m) (in_first p.interval n p.start (daily_apart p n e form)))
  by_frequency Daily false e m = daily_weeks e m (daily_apart p n e form)
  by_frequency Weekly b e m = weeks b e m (weekly_apart p n e form)
  by_frequency Monthly true e m = covered 0 (omega arith) (inl refl) (rw (e, m) (in_each n p.start))
  by_frequency Monthly false e m = covered ((n + 6 * p.start) % 7) (omega arith) (inr (rw e m)) (rw (e, m) (in_days n p.start))
  by_frequency Yearly true e m = covered 0 (omega arith) (inl refl) (rw (e, m) (in_each n p.start))
  by_frequency Yearly false e m = covered ((n + 6 * p.start) % 7) (omega arith) (inr (rw e m)) (rw (e, m) (in_days n p.start))

  pub cover : IsCovered p n
  cover = by_frequency p.frequency (is_missing p.weekdays) refl refl
