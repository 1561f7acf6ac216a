-- The parts of a rule and its form.
use Rattle.std.proofs.Common.{◌≡◌, ◌∙◌, ap, sym, refl, subst, inl, inr, ◌⊎◌, ℕ, suc, ◌+◌, ◌-◌, ◌*◌, ◌/◌, ◌%◌, ◌<◌, ◌≤◌, Bool, true, false, not, ◌&&◌, ◌||◌, ◌==◌, IsTrue, Option, None, Some, if◌then◌else◌, List, [], ◌∷◌, length, map, arith}
use Rattle.std.specs.Prelude.{MatchOption}
use Rattle.std.specs.Option.{IsSome}
use Rattle.std.proofs.Math.Nat.{add-mul-mod_self_left, add-mod_right, mul_comm, mul-le-mul_right}
use Rattle.std.proofs.lemmas.Bool.{and_right, cases_lt, true≢false, lt-ltb, le-ltb, eq-eqb}
use Rattle.std.proofs.lemmas.Bool.Decides.{nat_tests}
use Rattle.profile.specs.series.Days.{Frequency, Daily, Weekly, Monthly, Yearly, period_of}
use Rattle.profile.specs.series.Rules.{Pattern, Rule, RuleText, IsAllowed, is_in_range, is_missing, is_in_step, rule_of, text_in, weekdays_meant}
use Rattle.profile.specs.series.Periods.{IsMultiple, IsLeastMultiple, HasNoMultiple}
use Rattle.profile.specs.series.Residues.{IsLeastStrideOf, is_in_form, is_in_form_step, is_on_weekday}
use Rattle.cal_rules.specs.Forms.{form_day, is_listed, listed_day, week_day}
use Rattle.cal_rules.specs.Views.{pattern_of, rule_text_said}
use Rattle.cal_rules.specs.declared.written.Written as rust

-- ---- what a text that is taken has

pub record Ranges (t : RuleText) : Type 0 where
  pub some : 1 ≤ t.interval
  pub few : t.interval ≤ 9_999
  pub week : t.week_start < 7

pub in_range : (t : RuleText) → IsTrue (is_in_range t) → Ranges t
unfolding is_in_range
in_range t h = record { some = grind (arith, nat_tests); few = grind (arith, nat_tests); week = grind (arith, nat_tests) }

pub interval_of : (w : rust.Written) (t : RuleText) → rule_text_said w ≡ t → IsAllowed t → (1 ≤ w.interval) × (w.interval ≤ 9_999)
interval_of w t e h = let r = in_range (rule_text_said w) (subst IsAllowed (sym e) h).0 in (r.some, r.few)

pub week_of : (w : rust.Written) (t : RuleText) → rule_text_said w ≡ t → IsAllowed t → w.week_start < 7
week_of w t e h = (in_range (rule_text_said w) (subst IsAllowed (sym e) h).0).week

pub pattern_is : (w : rust.Written) (t : RuleText) (r : Rule) (start : ℕ) → rule_text_said w ≡ t → t ≡ text_in r → start ≡ r.pattern.start → pattern_of w start ≡ r.pattern
pattern_is w t r start e f g = ap (λ t. (rule_of t start r.last).pattern) (e ∙ f) ∙ ap (λ s. (rule_of (text_in r) s r.last).pattern) g

-- ---- the days that stand for all

week_same : (i ws start j : ℕ) → 1 ≤ i → ws < 7 → j < 7 → ((week_day i ws start j + 12 - ws) / 7) % i ≡ ((start + 12 - ws) / 7) % i
week_same i ws start j some h few = by (cases_lt ((start + 12 - ws) % 7 + j) 7)
  where
    by : (((start + 12 - ws) % 7 + j < 7) ⊎ (7 ≤ (start + 12 - ws) % 7 + j)) → ((week_day i ws start j + 12 - ws) / 7) % i ≡ ((start + 12 - ws) / 7) % i
    by (inl less) =
        let e : (start + j + 12 - ws) / 7 ≡ (start + 12 - ws) / 7 = omega (arith, less, h) in
        rw (lt-ltb _ _ less) (ap (λ x. x % i) e)
    by (inr more) =
        let e : (start + j + 7 * (i - 1) + 12 - ws) / 7 ≡ (start + 12 - ws) / 7 + i = omega (arith, more, h, few, some) in
        rw (le-ltb _ _ more) (ap (λ x. x % i) e ∙ add-mod_right ((start + 12 - ws) / 7) i)

in_step : (p : Pattern) (j : ℕ) → 1 ≤ p.interval → p.week_start < 7 → j < 7 → is_in_form_step p (form_day p j) ≡ true
unfolding is_in_step period_of
in_step p j some h few = by p.frequency refl
  where
    by : (f : Frequency) → p.frequency ≡ f → is_in_form_step p (form_day p j) ≡ true
    by Daily e = rw e (eq-eqb _ _ (add-mul-mod_self_left p.start p.interval j))
    by Weekly e = rw e (eq-eqb _ _ (week_same p.interval p.week_start p.start j some h few))
    by Monthly e = rw e refl
    by Yearly e = rw e refl

pub not_meant : (p : Pattern) (i : ℕ) → 0 < i → not (is_missing (weekdays_meant p)) ≡ false → None ≡ listed_day p i
unfolding is_listed
not_meant p i some e = let n : (i == 0) ≡ false = grind (arith, nat_tests) in rw (n, e) refl

pub not_on_weekday : (p : Pattern) (i : ℕ) → is_on_weekday p (form_day p i) ≡ false → None ≡ listed_day p i
unfolding is_listed is_in_form
not_on_weekday p i e = rw (e, and_right (is_in_form_step p (form_day p i)) false refl, and_right ((i == 0) || not (is_missing (weekdays_meant p))) false refl) refl

pub listed : (p : Pattern) (i : ℕ) → 1 ≤ p.interval → p.week_start < 7 → i < 7 → (i ≡ 0) ⊎ (not (is_missing (weekdays_meant p)) ≡ true) → is_on_weekday p (form_day p i) ≡ true
    → Some (form_day p i) ≡ listed_day p i
unfolding is_listed is_in_form
listed p i some h few (inl e) on = rw (eq-eqb i 0 e, in_step p i some h few, on) refl
listed p i some h few (inr m) on = rw (m, in_step p i some h few, on) (by (i == 0))
  where
    by : (b : Bool) → Some (form_day p i) ≡ (if ((b || true) && (true && true)) then Some (form_day p i) else None)
    by true = refl
    by false = refl

-- ---- the stride

pub has_multiple : (a b : ℕ) (r : Option ℕ) → 1 ≤ a → a ≤ 9_999 → 1 ≤ b → b ≤ 7 → MatchOption r (HasNoMultiple a b) (IsLeastMultiple a b) → IsSome r
has_multiple a b None some few any week h =
    let m = mul-le-mul_right {m = b} {n = 7} a week in
    let n = mul-le-mul_right {m = 1} {n = b} a any in
    let past = h (b * a) (omega (arith, n, some)) (b, refl) (a, mul_comm b a) in
    absurd (omega (arith, m, past, few))
has_multiple a b (Some days) some few any week h = refl

pub few_days : (a b days : ℕ) → 1 ≤ a → a ≤ 9_999 → 1 ≤ b → b ≤ 7 → IsLeastMultiple a b days → days ≤ 69_993
few_days a b days some few any week h =
    let m = mul-le-mul_right {m = b} {n = 7} a week in
    let n = mul-le-mul_right {m = 1} {n = b} a any in
    let l = h.least (b * a) (omega (arith, n, some)) (b, refl) (a, mul_comm b a) in
    omega (arith, l, m, few)

some_length : (n : ℕ) → (suc n == 0) ≡ false
some_length n = grind (arith, nat_tests)

pub missing : {A B : Type 0} (f : A → B) (xs : List A) (b : Bool) → (length xs == 0) ≡ b → is_missing (map f xs) ≡ b
missing f [] b e = e
missing f (x ∷ xs) b e = sym (some_length (length xs)) ∙ e

each : (n : ℕ) → IsMultiple n 1
each n = (n, omega arith)

pub daily_stride : (p : Pattern) (weeks days : ℕ) → p.frequency ≡ Daily → ((is_missing p.weekdays ≡ true) × (weeks ≡ 1)) ⊎ ((is_missing p.weekdays ≡ false) × (weeks ≡ 7))
    → IsLeastMultiple p.interval weeks days → IsLeastStrideOf p days
daily_stride p weeks days e (inl (none, w)) m = record {
  some = m.some;
  is = record { steps = rw e m.of_first; weeks = λ some. absurd (true≢false (sym none ∙ some)) };
  least = λ n some s. m.least n some (rw e at s.steps) (rw w (each n));
}
daily_stride p weeks days e (inr (some, w)) m = record {
  some = m.some;
  is = record { steps = rw e m.of_first; weeks = λ _. rw w at m.of_second };
  least = λ n some' s. m.least n some' (rw e at s.steps) (rw w (s.weeks some));
}
