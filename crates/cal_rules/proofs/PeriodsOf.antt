-- The period of a rule, by its frequency.
use Rattle.std.proofs.Common.{◌≡◌, refl, ℕ, ◌*◌, ◌<◌, ◌≤◌, Bool, true, false, arith}
use Rattle.std.specs.Prelude.{IfSome, MatchOption, Option, None, Some}
use Rattle.profile.specs.series.Days.{Daily, Weekly, Monthly, Yearly}
use Rattle.profile.specs.series.Rules.{Pattern, is_missing}
use Rattle.profile.specs.series.Periods.{IsMultiple, IsInStep, IsPeriod, HasNoPeriod, IsLeastMultiple, HasNoMultiple, most_period, names_dates}
use Rattle.cal_rules.specs.Shifting.{days_of_parts, IsLeastCycle, HasNoCycle}
use Rattle.cal_rules.proofs.Multiples.{some_times}

weeks_of_cycles : (n : ℕ) → IsMultiple n 146_097 → IsMultiple n 7
weeks_of_cycles n (k, e) = (k * 20_871, omega (arith, e))

any : (n : ℕ) → IsMultiple n 1
any n = (n, omega arith)

-- what the parts name is there again exactly after a multiple of so many days
to_parts : (p : Pattern) (n : ℕ) → (is_missing p.weekdays ≡ false → IsMultiple n 7) → (names_dates p ≡ true → IsMultiple n 146_097) → IsMultiple n (days_of_parts p)
to_parts p n weeks dates = by (names_dates p) (is_missing p.weekdays) refl refl
  where
    by : (a b : Bool) → names_dates p ≡ a → is_missing p.weekdays ≡ b → IsMultiple n (days_of_parts p)
    by true b d w = rw d (dates d)
    by false true d w = rw (d, w) (any n)
    by false false d w = rw (d, w) (weeks w)

from_parts_weeks : (p : Pattern) (n : ℕ) → IsMultiple n (days_of_parts p) → is_missing p.weekdays ≡ false → IsMultiple n 7
from_parts_weeks p n m w = by (names_dates p) refl
  where
    by : (a : Bool) → names_dates p ≡ a → IsMultiple n 7
    by true d = weeks_of_cycles n (rw d at m)
    by false d = rw (d, w) at m

from_parts_dates : (p : Pattern) (n : ℕ) → IsMultiple n (days_of_parts p) → names_dates p ≡ true → IsMultiple n 146_097
from_parts_dates p n m d = rw d at m

-- ---- days and weeks

module _ (p : Pattern) (base : ℕ) (to : (n : ℕ) → IsMultiple n base → IsInStep p.frequency p.interval n) (from : (n : ℕ) → IsInStep p.frequency p.interval n → IsMultiple n base) where
  pub short_period : (days : ℕ) → IsLeastMultiple base (days_of_parts p) days → IsPeriod p days
  short_period days m = record {
    some = m.some;
    shift = record {
      steps = to days m.of_first;
      weeks = from_parts_weeks p days m.of_second;
      dates = from_parts_dates p days m.of_second;
    };
    least = λ n some shift. m.least n some (from n shift.steps) (to_parts p n shift.weeks shift.dates);
  }

  pub no_short_period : HasNoMultiple base (days_of_parts p) → HasNoPeriod p
  no_short_period none n some shift = none n some (from n shift.steps) (to_parts p n shift.weeks shift.dates)

-- ---- months and years

module _ (p : Pattern) (periods : ℕ)
    (to : (n : ℕ) → ((q : ℕ) × (n ≡ q * 146_097) × IsMultiple (q * periods) p.interval) → IsInStep p.frequency p.interval n)
    (from : (n : ℕ) → IsInStep p.frequency p.interval n → ((q : ℕ) × (n ≡ q * 146_097) × IsMultiple (q * periods) p.interval)) where
  pub long_period : (days : ℕ) → IsLeastCycle periods p.interval days → IsPeriod p days
  long_period days c = record {
    some = let e = c.are in let s = c.some in omega (arith, e, s);
    shift = record {
      steps = to days (c.cycles, c.are, c.in_step);
      weeks = λ _. weeks_of_cycles days (c.cycles, c.are);
      dates = λ _. (c.cycles, c.are);
    };
    least = λ n some shift.
        let s = from n shift.steps in
        let e = s.1 in
        let l = c.least s.0 (some_times s.0 146_097 n some e) s.2 in
        let are = c.are in
        omega (arith, e, l, are);
  }

  pub no_long_period : HasNoCycle periods p.interval → HasNoPeriod p
  no_long_period none n some shift =
      let s = from n shift.steps in
      let e = s.1 in
      let l = none s.0 (some_times s.0 146_097 n some e) s.2 in
      omega (arith, e, l)

-- ---- each frequency

pub found : {A : Type 0} {P P' : Type 0} {Q Q' : A → Type 0} (r : Option A) → (P → P') → ((x : A) → Q x → Q' x) → MatchOption r P Q → MatchOption r P' Q'
found None f g m = f m
found (Some x) f g m = g x m

pub by_days : (p : Pattern) (interval parts : ℕ) (result : Option ℕ) → p.frequency ≡ Daily → interval ≡ p.interval → parts ≡ days_of_parts p
    → MatchOption result (HasNoMultiple interval parts) (IsLeastMultiple interval parts) → MatchOption result (HasNoPeriod p) (IsPeriod p)
by_days p interval parts result f i d m =
    let to : (n : ℕ) → IsMultiple n p.interval → IsInStep p.frequency p.interval n = λ n h. rw f h in
    let from : (n : ℕ) → IsInStep p.frequency p.interval n → IsMultiple n p.interval = λ n h. rw f at h in
    found result (no_short_period p p.interval to from) (short_period p p.interval to from) (rw (i, d) at m)

pub by_weeks : (p : Pattern) (interval parts : ℕ) (result : Option ℕ) → p.frequency ≡ Weekly → interval ≡ p.interval → parts ≡ days_of_parts p
    → MatchOption result (HasNoMultiple (7 * interval) parts) (IsLeastMultiple (7 * interval) parts) → MatchOption result (HasNoPeriod p) (IsPeriod p)
by_weeks p interval parts result f i d m =
    let to : (n : ℕ) → IsMultiple n (7 * p.interval) → IsInStep p.frequency p.interval n = λ n h. rw f h in
    let from : (n : ℕ) → IsInStep p.frequency p.interval n → IsMultiple n (7 * p.interval) = λ n h. rw f at h in
    found result (no_short_period p (7 * p.interval) to from) (short_period p (7 * p.interval) to from) (rw (i, d) at m)

pub by_months : (p : Pattern) (interval : ℕ) (result : Option ℕ) → p.frequency ≡ Monthly → interval ≡ p.interval
    → MatchOption result (HasNoCycle 4_800 interval) (IsLeastCycle 4_800 interval) → MatchOption result (HasNoPeriod p) (IsPeriod p)
by_months p interval result f i m =
    let to : (n : ℕ) → ((q : ℕ) × (n ≡ q * 146_097) × IsMultiple (q * 4_800) p.interval) → IsInStep p.frequency p.interval n = λ n h. rw f h in
    let from : (n : ℕ) → IsInStep p.frequency p.interval n → ((q : ℕ) × (n ≡ q * 146_097) × IsMultiple (q * 4_800) p.interval) = λ n h. rw f at h in
    found result (no_long_period p 4_800 to from) (long_period p 4_800 to from) (rw i at m)

pub by_years : (p : Pattern) (interval : ℕ) (result : Option ℕ) → p.frequency ≡ Yearly → interval ≡ p.interval
    → MatchOption result (HasNoCycle 400 interval) (IsLeastCycle 400 interval) → MatchOption result (HasNoPeriod p) (IsPeriod p)
by_years p interval result f i m =
    let to : (n : ℕ) → ((q : ℕ) × (n ≡ q * 146_097) × IsMultiple (q * 400) p.interval) → IsInStep p.frequency p.interval n = λ n h. rw f h in
    let from : (n : ℕ) → IsInStep p.frequency p.interval n → ((q : ℕ) × (n ≡ q * 146_097) × IsMultiple (q * 400) p.interval) = λ n h. rw f at h in
    found result (no_long_period p 400 to from) (long_period p 400 to from) (rw i at m)

-- a period is some days
pub some_and_few : (p : Pattern) (found : Option ℕ) → MatchOption found (HasNoPeriod p) (IsPeriod p) → IfSome found (λ days. days ≤ most_period) → IfSome found (λ days. (0 < days) × (days ≤ most_period))
some_and_few p None h few = tt
some_and_few p (Some days) h few = (h.some, few)
