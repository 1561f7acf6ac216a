-- Set positions, counted among the days of one period.
use Rattle.std.proofs.Common.{◌≡◌, ◌∙◌, ap, refl, inl, inr, ℕ, zero, suc, ◌+◌, ◌-◌, ◌<◌, ◌≤◌, Bool, true, false, ◌==◌, nat_le, if◌then◌else◌, arith}
use Rattle.std.proofs.lemmas.Bool.{cases_lt, and_left, and_right, ne_eqb, eq-eqb}
use Rattle.std.proofs.lemmas.Bool.Decides.{nat_tests}
use Rattle.profile.specs.series.Days.{period_of}
use Rattle.profile.specs.series.Rules.{Pattern, allows, is_nth, is_missing, passes, is_in_step, is_base, count_days, reach, is_mate, mates_before, mates_after, is_placed}
use Rattle.cal_rules.specs.Spans.{IsPeriodSpan}
use Rattle.cal_rules.specs.Counted.{NoneIn, is_chosen}
use Rattle.cal_rules.proofs.Periods.{reach_max}

-- COUNTS

pub count_zero : (test : ℕ → Bool) (from days : ℕ) → days ≡ 0 → count_days test from days ≡ 0
unfolding count_days
count_zero test from days e = rw e refl

pub count_max : (test : ℕ → Bool) (from days : ℕ) → count_days test from days ≤ days
unfolding count_days
count_max test from zero = omega arith
count_max test from (suc days) =
    let few = count_max test from days in
    elim (test (from + days)) as (λ b. count_days test from days + (if b then 1 else 0) ≤ suc days) [
      | true ↦ omega arith
      | false ↦ omega arith
    ]

-- one more day
pub count_step : (test : ℕ → Bool) (from day : ℕ) → from ≤ day → count_days test from (day + 1 - from) ≡ count_days test from (day - from) + (if test day then 1 else 0)
unfolding count_days
count_step test from day h =
    let e : day + 1 - from ≡ suc (day - from) = omega arith in
    let k : from + (day - from) ≡ day = omega arith in
    rw e (rw k refl)

pub count_split : (test : ℕ → Bool) (from a b : ℕ) → count_days test from (a + b) ≡ count_days test from a + count_days test (from + a) b
unfolding count_days
count_split test from a zero = let e : a + 0 ≡ a = omega arith in rw e (omega arith)
count_split test from a (suc b) =
    let e : a + suc b ≡ suc (a + b) = omega arith in
    let k : from + a + b ≡ from + (a + b) = omega arith in
    rw e (rw k (omega (arith, count_split test from a b)))

count_one : (test : ℕ → Bool) (from : ℕ) → count_days test from 1 ≡ (if test from then 1 else 0)
unfolding count_days
count_one test from = let k : from + 0 ≡ from = omega arith in rw k (omega arith)

-- from the first day on
pub count_rest : (test : ℕ → Bool) (day end : ℕ) → day < end → count_days test day (end - day) ≡ (if test day then 1 else 0) + count_days test (day + 1) (end - (day + 1))
count_rest test day end h =
    let e : end - day ≡ 1 + (end - (day + 1)) = omega arith in
    ap (λ k. count_days test day k) e ∙ count_split test day 1 (end - (day + 1)) ∙ ap (λ k. k + count_days test (day + 1) (end - (day + 1))) (count_one test day)

pub count_same : (test other : ℕ → Bool) (from days : ℕ) → ((n : ℕ) → from ≤ n → n < from + days → test n ≡ other n) → count_days test from days ≡ count_days other from days
unfolding count_days
count_same test other from zero h = refl
count_same test other from (suc days) h =
    rw (h (from + days) (omega arith) (omega arith), count_same test other from days (λ n a b. h n a (omega arith))) refl

count_none : (test : ℕ → Bool) (from days : ℕ) → ((n : ℕ) → from ≤ n → n < from + days → test n ≡ false) → count_days test from days ≡ 0
unfolding count_days
count_none test from zero h = refl
count_none test from (suc days) h =
    rw (h (from + days) (omega arith) (omega arith), count_none test from days (λ n a b. h n a (omega arith))) refl

-- THE BASE DAYS OF A PERIOD

pub step_same : (p : Pattern) (n m : ℕ) → period_of p.frequency p.week_start m ≡ period_of p.frequency p.week_start n → is_in_step p m ≡ is_in_step p n
unfolding is_in_step
step_same p n m e = rw e refl

not_mate : (p : Pattern) (n m : ℕ) → (366 ≤ m → period_of p.frequency p.week_start m ≡ period_of p.frequency p.week_start n → ⊥) → is_mate p n m ≡ false
unfolding is_mate
not_mate p n m h =
    elim (cases_lt m 366) [
      | inl lt ↦ let no : nat_le 366 m ≡ false = grind (arith, nat_tests) in and_left _ _ (and_left _ _ (and_left _ _ no))
      | inr ge ↦ and_left _ _ (and_right _ _ (ne_eqb (period_of p.frequency p.week_start m) (period_of p.frequency p.week_start n) (h ge)))
    ]

mate : (p : Pattern) (n first end m : ℕ) → IsPeriodSpan p.frequency p.week_start n first end → is_in_step p n ≡ true → first ≤ m → m < end → m ≤ 3_653_155 → is_mate p n m ≡ passes p m
unfolding is_mate is_base
mate p n first end m s step low high day =
    let e = s.same m low high in
    let begins : 366 ≤ m = omega (arith, s.first_day) in
    let a : nat_le 366 m ≡ true = grind (arith, nat_tests) in
    let b : nat_le m 3_653_155 ≡ true = grind (arith, nat_tests) in
    let same : (period_of p.frequency p.week_start m == period_of p.frequency p.week_start n) ≡ true = eq-eqb (period_of p.frequency p.week_start m) (period_of p.frequency p.week_start n) e in
    let stepped : is_in_step p m ≡ true = step_same p n m e ∙ step in
    rw (a, b, same, stepped) refl

mates_before_is : (p : Pattern) (n first end : ℕ) → IsPeriodSpan p.frequency p.week_start n first end → is_in_step p n ≡ true → end ≤ 3_653_155 → mates_before p n ≡ count_days (passes p) first (n - first)
unfolding mates_before
mates_before_is p n first end s step high =
    let width = reach_max p.frequency in
    let low = s.first_day in
    let a = s.not_before in
    let b = s.not_after in
    let c = s.narrow in
    let far : n - reach p.frequency ≤ first = omega arith in
    let whole : reach p.frequency ≡ (first - (n - reach p.frequency)) + (n - first) = omega arith in
    let place : n - reach p.frequency + (first - (n - reach p.frequency)) ≡ first = omega arith in
    let none : count_days (is_mate p n) (n - reach p.frequency) (first - (n - reach p.frequency)) ≡ 0 = count_none (is_mate p n) _ _ (λ m from to. not_mate p n m (λ day. s.none_before m day (omega arith))) in
    let some : count_days (is_mate p n) first (n - first) ≡ count_days (passes p) first (n - first) = count_same (is_mate p n) (passes p) first (n - first) (λ m from to. mate p n first end m s step from (omega arith) (omega arith)) in
    let split = count_split (is_mate p n) (n - reach p.frequency) (first - (n - reach p.frequency)) (n - first) in
    ap (λ k. count_days (is_mate p n) (n - reach p.frequency) k) whole ∙ split ∙ rw (none, place, some) (omega arith)

mates_after_is : (p : Pattern) (n first end : ℕ) → IsPeriodSpan p.frequency p.week_start n first end → is_in_step p n ≡ true → end ≤ 3_653_155 → mates_after p n ≡ count_days (passes p) (n + 1) (end - (n + 1))
unfolding mates_after
mates_after_is p n first end s step high =
    let low = s.first_day in
    let a = s.not_before in
    let b = s.not_after in
    let c = s.narrow in
    let whole : reach p.frequency ≡ (end - (n + 1)) + (reach p.frequency - (end - (n + 1))) = omega arith in
    let none : count_days (is_mate p n) (n + 1 + (end - (n + 1))) (reach p.frequency - (end - (n + 1))) ≡ 0 = count_none (is_mate p n) _ _ (λ m from to. not_mate p n m (λ day. s.none_after m (omega arith))) in
    let some : count_days (is_mate p n) (n + 1) (end - (n + 1)) ≡ count_days (passes p) (n + 1) (end - (n + 1)) = count_same (is_mate p n) (passes p) (n + 1) (end - (n + 1)) (λ m from to. mate p n first end m s step (omega arith) (omega arith) (omega arith)) in
    let split = count_split (is_mate p n) (n + 1) (end - (n + 1)) (reach p.frequency - (end - (n + 1))) in
    ap (λ k. count_days (is_mate p n) (n + 1) k) whole ∙ split ∙ rw (none, some) (omega arith)

-- in a period in step a day that passes each part is chosen by its place among those that do
pub chosen_by_place : (p : Pattern) (n first end before rest : ℕ) → IsPeriodSpan p.frequency p.week_start n first end → is_in_step p n ≡ true → end ≤ 3_653_155 → passes p n ≡ true → before ≡ count_days (passes p) first (n - first) → rest ≡ count_days (passes p) (n + 1) (end - (n + 1)) → is_chosen p n ≡ allows (λ k. is_nth k before rest) p.positions
unfolding is_base is_placed
chosen_by_place p n first end before rest s step high here a b =
    rw (step, here, mates_before_is p n first end s step high, mates_after_is p n first end s step high, a, b) refl

-- and where no set position is written each is
pub chosen_plain : (p : Pattern) (n : ℕ) → is_in_step p n ≡ true → is_missing p.positions ≡ true → passes p n ≡ true → is_chosen p n ≡ true
unfolding is_base is_placed
chosen_plain p n step none here = rw (step, none, here) refl

pub chosen_passes : (p : Pattern) (n : ℕ) → passes p n ≡ false → is_chosen p n ≡ false
unfolding is_base
chosen_passes p n out = and_left _ _ (and_right _ _ out)

pub chosen_step : (p : Pattern) (n : ℕ) → is_in_step p n ≡ false → is_chosen p n ≡ false
unfolding is_base
chosen_step p n h = rw h refl

-- in a period out of step there is none
pub none_away : (p : Pattern) (n first end : ℕ) → IsPeriodSpan p.frequency p.week_start n first end → is_in_step p n ≡ false → NoneIn (is_chosen p) n end
none_away p n first end s away m from to =
    chosen_step p m (step_same p n m (s.same m (omega (arith, s.not_before)) to) ∙ away)
