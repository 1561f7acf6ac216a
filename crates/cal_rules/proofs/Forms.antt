-- What the form of a rule allows comes again, and a few days stand for all.
use Rattle.std.proofs.Common.{◌≡◌, ◌∙◌, ap, sym, refl, subst, inl, inr, ℕ, zero, suc, ◌+◌, ◌*◌, ◌/◌, ◌%◌, ◌<◌, ◌≤◌, Bool, true, false, ◌&&◌, ◌||◌, ◌==◌, List, [], ◌∷◌, arith}
use Rattle.std.specs.List.{list_any}
use Rattle.std.proofs.Math.Nat.{mul_comm, mod-lt}
use Rattle.std.proofs.lemmas.Nat.{div-add-mod'}
use Rattle.std.proofs.lemmas.Bool.{and_parts, true≢false, cases_lt}
use Rattle.profile.specs.series.Days.{Frequency, Daily, Weekly, Monthly, Yearly, weekday_of}
use Rattle.profile.specs.series.Rules.{Pattern, Rule, WeekdayNumber, allows, is_long, is_missing, is_in_step, is_base, is_counted, is_rule_day, names_weekday, passes, passes_weekday, weekdays_meant}
use Rattle.profile.specs.series.Periods.{IsMultiple, IsInStep}
use Rattle.profile.specs.series.Residues.{IsFormStep, IsLeastStrideOf, IsStride, is_in_form, is_in_form_step, is_on_weekday}
use Rattle.cal_rules.proofs.Shifts.{seven_times, step_same, weekday_weeks}
use Rattle.cal_rules.proofs.Differences.{none, sum, difference}
use Rattle.cal_rules.proofs.Lists.{counted_rule_day}

-- ---- a stride

form_step : (p : Pattern) (days n : ℕ) → p.week_start < 7 → IsFormStep p.frequency p.interval days → is_in_form_step p (n + days) ≡ is_in_form_step p n
form_step p days n h s = by p.frequency refl
  where
    by : (f : Frequency) → p.frequency ≡ f → is_in_form_step p (n + days) ≡ is_in_form_step p n
    by Daily e = ap (λ b. is_long p.frequency || b) (step_same p days n h (subst (λ f. IsInStep f p.interval days) (sym e) (subst (λ f. IsFormStep f p.interval days) e s)))
    by Weekly e = ap (λ b. is_long p.frequency || b) (step_same p days n h (subst (λ f. IsInStep f p.interval days) (sym e) (subst (λ f. IsFormStep f p.interval days) e s)))
    by Monthly e = rw e refl
    by Yearly e = rw e refl

-- where weekdays are meant, it is some weeks
meant_weeks : (p : Pattern) (days : ℕ) → IsStride p days → is_missing (weekdays_meant p) ≡ false → IsMultiple days 7
meant_weeks p days s meant = by (is_missing p.weekdays) refl
  where
    weekly : IsMultiple days (7 * p.interval) → IsMultiple days 7
    weekly (k, e) = (k * p.interval, e ∙ (seven_times k p.interval ∙ mul_comm 7 (k * p.interval)))

    named : (f : Frequency) → p.frequency ≡ f → is_missing p.weekdays ≡ true → IsMultiple days 7
    named Weekly e n = weekly (subst (λ f. IsFormStep f p.interval days) e s.steps)
    named Daily e n = let m : is_missing p.weekdays ≡ false = rw e at meant in absurd (true≢false (sym n ∙ m))
    named Monthly e n = let m : is_missing p.weekdays ≡ false = rw e at meant in absurd (true≢false (sym n ∙ m))
    named Yearly e n = let m : is_missing p.weekdays ≡ false = rw e at meant in absurd (true≢false (sym n ∙ m))

    by : (b : Bool) → is_missing p.weekdays ≡ b → IsMultiple days 7
    by false some = s.weeks some
    by true n = named p.frequency refl n

same_weekday : (p : Pattern) (n m : ℕ) → weekday_of n ≡ weekday_of m → is_on_weekday p n ≡ is_on_weekday p m
same_weekday p n m e = ap (λ w. allows (λ entry. entry.weekday == w) (weekdays_meant p)) e

each_weekday : (p : Pattern) (n : ℕ) → is_missing (weekdays_meant p) ≡ true → is_on_weekday p n ≡ true
each_weekday p n e = rw e refl

on_weekday : (p : Pattern) (days n : ℕ) → IsStride p days → is_on_weekday p (n + days) ≡ is_on_weekday p n
on_weekday p days n s = by (is_missing (weekdays_meant p)) refl
  where
    by : (b : Bool) → is_missing (weekdays_meant p) ≡ b → is_on_weekday p (n + days) ≡ is_on_weekday p n
    by true e = each_weekday p (n + days) e ∙ sym (each_weekday p n e)
    by false e = let w = meant_weeks p days s e in same_weekday p (n + days) n (subst (λ d. weekday_of (n + d) ≡ weekday_of n) (sym w.1) (weekday_weeks n w.0))

pub form_shift : (p : Pattern) (days n : ℕ) → IsStride p days → 1 ≤ p.interval → p.week_start < 7 → is_in_form p (n + days) ≡ is_in_form p n
unfolding is_in_form
form_shift p days n s some h = rw (form_step p days n h s.steps, on_weekday p days n s) refl

-- ---- strides

step_sum : (f : Frequency) (interval a b : ℕ) → IsFormStep f interval a → IsFormStep f interval b → IsFormStep f interval (a + b)
step_sum Daily interval a b h k = sum a b interval h k
step_sum Weekly interval a b h k = sum a b (7 * interval) h k
step_sum Monthly interval a b h k = tt
step_sum Yearly interval a b h k = tt

step_difference : (f : Frequency) (interval a b : ℕ) → IsFormStep f interval (a + b) → IsFormStep f interval a → IsFormStep f interval b
step_difference Daily interval a b h k = difference a b interval h k
step_difference Weekly interval a b h k = difference a b (7 * interval) h k
step_difference Monthly interval a b h k = tt
step_difference Yearly interval a b h k = tt

no_step : (f : Frequency) (interval : ℕ) → IsFormStep f interval 0
no_step Daily interval = none interval
no_step Weekly interval = none (7 * interval)
no_step Monthly interval = tt
no_step Yearly interval = tt

module _ (p : Pattern) where
  no_stride : IsStride p 0
  no_stride = record { steps = no_step p.frequency p.interval; weeks = λ _. (0, refl) }

  stride_sum : (a b : ℕ) → IsStride p a → IsStride p b → IsStride p (a + b)
  stride_sum a b h k = record { steps = step_sum p.frequency p.interval a b h.steps k.steps; weeks = λ w. sum a b 7 (h.weeks w) (k.weeks w) }

  stride_difference : (a b : ℕ) → IsStride p (a + b) → IsStride p a → IsStride p b
  stride_difference a b h k = record { steps = step_difference p.frequency p.interval a b h.steps k.steps; weeks = λ w. difference a b 7 (h.weeks w) (k.weeks w) }

  pub stride_times : (k d : ℕ) → IsStride p d → IsStride p (k * d)
  stride_times zero d h = let e : 0 ≡ 0 * d = omega arith in subst (IsStride p) e no_stride
  stride_times (suc k) d h = let e : d + k * d ≡ suc k * d = omega arith in subst (IsStride p) e (stride_sum d (k * d) h (stride_times k d h))

  multiple_stride : (d n : ℕ) → IsLeastStrideOf p d → IsMultiple n d → IsStride p n
  multiple_stride d n h (k, e) = subst (IsStride p) (sym e) (stride_times k d h.is)

  -- what is left of a stride less the least one, as often as that goes, is a lesser one, so none
  stride_multiple : (d n : ℕ) → IsLeastStrideOf p d → IsStride p n → IsMultiple n d
  stride_multiple d n h s =
      let some = h.some in
      let whole = div-add-mod' n d in
      let rest = stride_difference (n / d * d) (n % d) (subst (IsStride p) (sym whole) s) (stride_times (n / d) d h.is) in
      let less = mod-lt n some in
      elim (cases_lt 0 (n % d)) [
        | inl left ↦ let l = h.least (n % d) left rest in absurd (omega (arith, l, less))
        | inr none ↦ (n / d, omega (arith, whole, none))
      ]

  pub strides_are_multiples : (d n : ℕ) → IsLeastStrideOf p d → (IsStride p n → IsMultiple n d) × (IsMultiple n d → IsStride p n)
  strides_are_multiples d n h = (stride_multiple d n h, multiple_stride d n h)

-- ---- rule days

any_weekday : (w before after : ℕ) (entries : List WeekdayNumber) → list_any (names_weekday w before after) entries ≡ true → list_any (λ entry. entry.weekday == w) entries ≡ true
any_weekday w before after [] e = e
any_weekday w before after (x ∷ xs) e = by (x.weekday == w) refl (any_weekday w before after xs)
  where
    by : (b : Bool) → (x.weekday == w) ≡ b → (list_any (names_weekday w before after) xs ≡ true → list_any (λ entry. entry.weekday == w) xs ≡ true)
        → list_any (λ entry. entry.weekday == w) (x ∷ xs) ≡ true
    by true h rest = rw h refl
    by false h rest = rw h (rest (rw h at e))

allows_weekday : (w before after : ℕ) (entries : List WeekdayNumber) → allows (names_weekday w before after) entries ≡ true → allows (λ entry. entry.weekday == w) entries ≡ true
allows_weekday w before after [] e = refl
allows_weekday w before after (x ∷ xs) e = any_weekday w before after (x ∷ xs) e

passes_form : (p : Pattern) (n : ℕ) → passes p n ≡ true → is_on_weekday p n ≡ true
unfolding passes passes_weekday
passes_form p n e = allows_weekday _ _ _ (weekdays_meant p) (and_parts _ _ e).1

base_form : (p : Pattern) (n : ℕ) → is_base p n ≡ true → is_in_form p n ≡ true
unfolding is_base is_in_form
base_form p n e =
    let both = and_parts (is_in_step p n) (passes p n) e in
    rw (both.0, passes_form p n both.1) (by (is_long p.frequency))
  where
    by : (b : Bool) → ((b || true) && true) ≡ true
    by true = refl
    by false = refl

counted_base : (r : Rule) (n : ℕ) → is_counted r n ≡ true → is_base r.pattern n ≡ true
unfolding is_counted
counted_base r n e = (and_parts _ _ (and_parts _ _ e).0).1

pub rule_day_form : (r : Rule) (n : ℕ) → is_rule_day r n ≡ true → is_in_form r.pattern n ≡ true
rule_day_form r n e = base_form r.pattern n (counted_base r n (counted_rule_day r n e))
