-- A text with the month day of DTSTART written out is allowed where it was before.
use Rattle.std.proofs.Common.{◌≡◌, ◌∙◌, ap, refl, ℕ, ℤ, suc, pos, ◌≤◌, ◌++◌, true, List, [], ◌∷◌, IsTrue, subst, sym, arith}
use Rattle.std.proofs.lemmas.Bool.Decides.{nat_tests}
use Rattle.profile.specs.series.Rules.{RuleText, IsAllowed, is_missing, leaves_day_to_start, is_in_range, go_together}

abbrev pub with_day : ℕ → RuleText → RuleText
with_day n t = record {
  frequency = t.frequency;
  interval = t.interval;
  week_start = t.week_start;
  months = t.months;
  month_days = pos (suc n) ∷ [];
  weekdays = t.weekdays;
  positions = t.positions;
  count = t.count;
  until = t.until;
}

pub range_filled : (t : RuleText) (n : ℕ) → n ≤ 30 → IsTrue (is_in_range t) → IsTrue (is_in_range (with_day n t))
unfolding is_in_range
range_filled t n small h = grind (arith, nat_tests)

pub together_filled : (t : RuleText) (n : ℕ) → leaves_day_to_start t ≡ true → IsTrue (go_together t) → IsTrue (go_together (with_day n t))
unfolding go_together
together_filled t n leaves h = grind (arith, nat_tests)

pub allowed_filled : (t : RuleText) (n : ℕ) → n ≤ 30 → leaves_day_to_start t ≡ true → IsAllowed t → IsAllowed (with_day n t)
allowed_filled t n small leaves h = (range_filled t n small h.0, together_filled t n leaves h.1, h.2)

pub none_missing : {A : Type 0} (xs : List A) → is_missing xs ≡ true → xs ≡ []
none_missing [] h = refl
none_missing (x ∷ xs) h = grind (arith, nat_tests)

pub no_month_days : (t : RuleText) → leaves_day_to_start t ≡ true → is_missing t.month_days ≡ true
no_month_days t h = grind (arith, nat_tests)

-- the days that are written were none, and one was added to them
pub day_added : (t : RuleText) (days : List ℤ) (x : ℤ) (n : ℕ) → leaves_day_to_start t ≡ true → days ≡ t.month_days ++ x ∷ [] → x ≡ pos (suc n) → days ≡ pos (suc n) ∷ []
day_added t days x n leaves e h =
    e ∙ ap (λ xs. xs ++ x ∷ []) (none_missing t.month_days (no_month_days t leaves)) ∙ ap (λ y. y ∷ []) h

-- what is so of a text with the day is so with these days
pub day_there : (t : RuleText) (days : List ℤ) (n : ℕ) (P : List ℤ → Type 0) → days ≡ pos (suc n) ∷ [] → P (pos (suc n) ∷ []) → P days
day_there t days n P e h = subst P (sym e) h
