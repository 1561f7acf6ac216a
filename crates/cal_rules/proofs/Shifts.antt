-- After a shift of its period a rule does the same.
use Rattle.std.proofs.Common.{◌≡◌, ◌∙◌, ap, sym, refl, subst, ℕ, zero, suc, ◌+◌, ◌-◌, ◌*◌, ◌/◌, ◌%◌, ◌<◌, ◌≤◌, Bool, true, false, not, ◌&&◌, ◌||◌, ◌==◌, nat_le, List, [], ◌∷◌, arith}
use Rattle.std.specs.List.{list_any, list_all}
use Rattle.std.proofs.Math.Nat.{add-mul-mod_self_right, mul_comm}
use Rattle.std.specs.Prelude.{None}
use Rattle.std.proofs.lemmas.Bool.{and_parts, true≢false, leb-true, le-leb}
use Rattle.profile.specs.series.Days.{Frequency, Daily, Weekly, Monthly, Yearly, period_of, month_of, weekday_of, month_days_before, month_days_after, year_days_before, year_days_after}
use Rattle.profile.specs.series.Rules.{Pattern, Rule, WeekdayNumber, allows, is_plain, is_long, is_yearly, is_missing, implies_weekday, weekdays_meant, counts_in_year, same_weekdays_before, same_weekdays_after, names_weekday, passes_month, passes_month_day, passes_weekday, passes, is_in_step, is_base, count_days, reach, is_day, is_mate, mates_before, mates_after, is_placed, is_counted, is_within_count, is_rule_day, last_rule_day}
use Rattle.profile.specs.series.Periods.{IsMultiple, IsInStep, IsShift, names_dates}
use Rattle.cal_days.proofs.Dates.{named_later, weekday_later, year_days_before_later, year_days_after_later, month_days_before_later, month_days_after_later, period_later}
use Rattle.std.proofs.lemmas.Bool.Decides.{nat_tests}
use Rattle.cal_rules.proofs.Periods.{reach_max}

-- ---- many times 400 years

record SameDate (n m : ℕ) : Type 0 where
  month : month_of n ≡ month_of m
  before : month_days_before n ≡ month_days_before m
  after : month_days_after n ≡ month_days_after m
  year_before : year_days_before n ≡ year_days_before m
  year_after : year_days_after n ≡ year_days_after m
  weekday : weekday_of n ≡ weekday_of m

same_itself : (n m : ℕ) → n ≡ m → SameDate n m
same_itself n m e = rw e (record { month = refl; before = refl; after = refl; year_before = refl; year_after = refl; weekday = refl })

same_once : (n m : ℕ) → SameDate n m → SameDate (n + 146_097) m
same_once n m s = record {
  month = (named_later n).month ∙ s.month;
  before = month_days_before_later n ∙ s.before;
  after = month_days_after_later n ∙ s.after;
  year_before = year_days_before_later n ∙ s.year_before;
  year_after = year_days_after_later n ∙ s.year_after;
  weekday = weekday_later n ∙ s.weekday;
}

times_more : (n q : ℕ) → n + suc q * 146_097 ≡ (n + q * 146_097) + 146_097
times_more n q = omega arith

same_date : (n q : ℕ) → SameDate (n + q * 146_097) n
same_date n zero = same_itself (n + 0 * 146_097) n (omega arith)
same_date n (suc q) = rw (times_more n q) (same_once (n + q * 146_097) n (same_date n q))

-- ---- in step

period_many : (n q : ℕ) → (period_of Monthly 0 (n + q * 146_097) ≡ period_of Monthly 0 n + q * 4800) × (period_of Yearly 0 (n + q * 146_097) ≡ period_of Yearly 0 n + q * 400)
period_many n zero = let e : n + 0 * 146_097 ≡ n = omega arith in rw e (omega arith, omega arith)
period_many n (suc q) =
    let k = period_many n q in
    let m = period_later Monthly 0 (n + q * 146_097) (omega arith) in
    let y = period_later Yearly 0 (n + q * 146_097) (omega arith) in
    rw (times_more n q) (omega (arith, k.0, m), omega (arith, k.1, y))

pub seven_times : (k i : ℕ) → k * (7 * i) ≡ 7 * (k * i)
seven_times zero i = omega arith
seven_times (suc k) i = omega (arith, seven_times k i)

mod_same : (f : Frequency) (ws i days n : ℕ) → ws < 7 → IsInStep f i days → period_of f ws (n + days) % i ≡ period_of f ws n % i
unfolding period_of
mod_same Daily ws i days n h (k, e) = ap (λ d. (n + d) % i) e ∙ add-mul-mod_self_right n k i
mod_same Weekly ws i days n h (k, e) =
    let d : days ≡ 7 * (k * i) = e ∙ seven_times k i in
    let w : (n + days + 12 - ws) / 7 ≡ (n + 12 - ws) / 7 + k * i = omega (arith, d, h) in
    ap (λ x. x % i) w ∙ add-mul-mod_self_right ((n + 12 - ws) / 7) k i
mod_same Monthly ws i days n h (q, e, (k, m)) =
    ap (λ d. period_of Monthly 0 (n + d) % i) e ∙ (ap (λ x. x % i) ((period_many n q).0 ∙ ap (λ x. period_of Monthly 0 n + x) m) ∙ add-mul-mod_self_right (period_of Monthly 0 n) k i)
mod_same Yearly ws i days n h (q, e, (k, m)) =
    ap (λ d. period_of Yearly 0 (n + d) % i) e ∙ (ap (λ x. x % i) ((period_many n q).1 ∙ ap (λ x. period_of Yearly 0 n + x) m) ∙ add-mul-mod_self_right (period_of Yearly 0 n) k i)

pub step_same : (p : Pattern) (days n : ℕ) → p.week_start < 7 → IsInStep p.frequency p.interval days → is_in_step p (n + days) ≡ is_in_step p n
unfolding is_in_step
step_same p days n h s =
    ap (λ x. x == period_of p.frequency p.week_start p.start % p.interval) (mod_same p.frequency p.week_start p.interval days n h s)

-- ---- passing each part

passes_dates : (p : Pattern) (n m : ℕ) → SameDate n m → passes p n ≡ passes p m
unfolding passes passes_month passes_month_day passes_weekday
passes_dates p n m s = rw (s.month, s.before, s.after, s.year_before, s.year_after, s.weekday) refl

plain_entry : (w a b c d : ℕ) (entry : WeekdayNumber) → is_plain entry.number ≡ true → names_weekday w a b entry ≡ names_weekday w c d entry
plain_entry w a b c d entry e = rw e refl

any_plain : (w a b c d : ℕ) (entries : List WeekdayNumber) → list_all (λ entry. is_plain entry.number) entries ≡ true
    → list_any (names_weekday w a b) entries ≡ list_any (names_weekday w c d) entries
any_plain w a b c d [] e = refl
any_plain w a b c d (x ∷ xs) e =
    let both = and_parts (is_plain x.number) (list_all (λ entry. is_plain entry.number) xs) e in
    rw (plain_entry w a b c d x both.0, any_plain w a b c d xs both.1) refl

allows_plain : (w a b c d : ℕ) (entries : List WeekdayNumber) → list_all (λ entry. is_plain entry.number) entries ≡ true
    → allows (names_weekday w a b) entries ≡ allows (names_weekday w c d) entries
allows_plain w a b c d entries e = ap (λ x. is_missing entries || x) (any_plain w a b c d entries e)

no_month : (p : Pattern) (n : ℕ) → is_yearly p.frequency ≡ false → is_missing p.months ≡ true → passes_month p n ≡ true
unfolding passes_month
no_month p n yearly months = rw (yearly, months) refl

no_month_day : (p : Pattern) (n : ℕ) → is_long p.frequency ≡ false → is_missing p.month_days ≡ true → passes_month_day p n ≡ true
unfolding passes_month_day
no_month_day p n long days = rw (long, days) refl

weekday_alone : (p : Pattern) (n m : ℕ) → list_all (λ entry. is_plain entry.number) (weekdays_meant p) ≡ true → weekday_of n ≡ weekday_of m → passes_weekday p n ≡ passes_weekday p m
unfolding passes_weekday
weekday_alone p n m plain w =
    let before = same_weekdays_before (counts_in_year p) in
    let after = same_weekdays_after (counts_in_year p) in
    ap (λ x. allows (names_weekday x (before n) (after n)) (weekdays_meant p)) w
    ∙ allows_plain (weekday_of m) (before n) (after n) (before m) (after m) (weekdays_meant p) plain

-- a rule of days or weeks without BYMONTH and BYMONTHDAY looks at the weekday alone
week_passes : (p : Pattern) (n m : ℕ) → is_long p.frequency ≡ false → is_yearly p.frequency ≡ false → is_missing p.months ≡ true → is_missing p.month_days ≡ true
    → list_all (λ entry. is_plain entry.number) (weekdays_meant p) ≡ true → weekday_of n ≡ weekday_of m → passes p n ≡ passes p m
unfolding passes
week_passes p n m long yearly months days plain w =
    rw (no_month p n yearly months, no_month p m yearly months, no_month_day p n long days, no_month_day p m long days) (weekday_alone p n m plain w)

-- ---- base days

both_true : (a b : Bool) → not (a && b) ≡ false → (a ≡ true) × (b ≡ true)
both_true true true e = (refl, refl)
both_true true false e = absurd (true≢false e)
both_true false b e = absurd (true≢false e)

missing_both : (p : Pattern) → names_dates p ≡ false → (is_missing p.months ≡ true) × (is_missing p.month_days ≡ true)
missing_both p e = both_true (is_missing p.months) (is_missing p.month_days) e

pub weekday_weeks : (n k : ℕ) → weekday_of (n + k * 7) ≡ weekday_of n
unfolding weekday_of
weekday_weeks n k = let e : n + k * 7 + 5 ≡ n + 5 + k * 7 = omega arith in ap (λ x. x % 7) e ∙ add-mul-mod_self_right (n + 5) k 7

by_dates : (p : Pattern) (days n : ℕ) → IsMultiple days 146_097 → passes p (n + days) ≡ passes p n
by_dates p days n (q, e) = passes_dates p (n + days) n (subst (λ d. SameDate (n + d) n) (sym e) (same_date n q))

-- a rule of days that names nothing is of all days that are in step
all_pass : (p : Pattern) (n : ℕ) → p.frequency ≡ Daily → is_missing p.months ≡ true → is_missing p.month_days ≡ true → is_missing p.weekdays ≡ true → passes p n ≡ true
unfolding passes passes_month passes_month_day passes_weekday
all_pass p n e months days weekdays = rw (e, months, days, weekdays) refl

plain_meant : (p : Pattern) → list_all (λ entry. is_plain entry.number) p.weekdays ≡ true → list_all (λ entry. is_plain entry.number) (weekdays_meant p) ≡ true
plain_meant p plain = by (implies_weekday p) refl
  where
    by : (b : Bool) → implies_weekday p ≡ b → list_all (λ entry. is_plain entry.number) (weekdays_meant p) ≡ true
    by true e = rw e refl
    by false e = rw e plain

-- the weekdays that count are plain, and there are none or the shift is one of weeks
by_weeks : (p : Pattern) (days n : ℕ) → (f : Frequency) → p.frequency ≡ f → is_long f ≡ false → IsShift p days → names_dates p ≡ false
    → list_all (λ entry. is_plain entry.number) p.weekdays ≡ true → passes p (n + days) ≡ passes p n
by_weeks p days n Daily e long s dates plain = by (is_missing p.weekdays) refl
  where
    both : (is_missing p.months ≡ true) × (is_missing p.month_days ≡ true)
    both = missing_both p dates

    by : (b : Bool) → is_missing p.weekdays ≡ b → passes p (n + days) ≡ passes p n
    by true none = rw (all_pass p (n + days) e both.0 both.1 none, all_pass p n e both.0 both.1 none) refl
    by false some =
        let w = s.weeks some in
        week_passes p (n + days) n (ap is_long e) (ap is_yearly e) both.0 both.1 (rw e plain) (subst (λ d. weekday_of (n + d) ≡ weekday_of n) (sym w.1) (weekday_weeks n w.0))
by_weeks p days n Weekly e long s dates plain =
    let both = missing_both p dates in
    let w = subst (λ f. IsInStep f p.interval days) e s.steps in
    let d : days ≡ (w.0 * p.interval) * 7 = w.1 ∙ seven_times w.0 p.interval ∙ mul_comm 7 (w.0 * p.interval) in
    week_passes p (n + days) n (ap is_long e) (ap is_yearly e) both.0 both.1 (plain_meant p plain) (subst (λ x. weekday_of (n + x) ≡ weekday_of n) (sym d) (weekday_weeks n (w.0 * p.interval)))
by_weeks p days n Monthly e long s dates plain = absurd (true≢false long)
by_weeks p days n Yearly e long s dates plain = absurd (true≢false long)

pub base_shift : (p : Pattern) (days n : ℕ) → IsShift p days → p.week_start < 7
    → (is_long p.frequency ≡ false → list_all (λ entry. is_plain entry.number) p.weekdays ≡ true) → is_base p (n + days) ≡ is_base p n
unfolding is_base
base_shift p days n s h plain = rw (step_same p days n h s.steps, pass) refl
  where
    long : (f : Frequency) → p.frequency ≡ f → is_long f ≡ true → IsMultiple days 146_097
    long Monthly e l = let m = subst (λ f. IsInStep f p.interval days) e s.steps in (m.0, m.1)
    long Yearly e l = let m = subst (λ f. IsInStep f p.interval days) e s.steps in (m.0, m.1)
    long Daily e l = absurd (true≢false (sym l))
    long Weekly e l = absurd (true≢false (sym l))

    by : (a b : Bool) → is_long p.frequency ≡ a → names_dates p ≡ b → passes p (n + days) ≡ passes p n
    by true b l d = by_dates p days n (long p.frequency refl l)
    by false true l d = by_dates p days n (s.dates d)
    by false false l d = by_weeks p days n p.frequency refl l s d (plain l)

    pass : passes p (n + days) ≡ passes p n
    pass = by (is_long p.frequency) (names_dates p) refl refl

-- ---- set positions

-- by how many periods a shift is
record Moves (f : Frequency) (ws days : ℕ) : Type 0 where
  periods : ℕ
  later : (n : ℕ) → period_of f ws (n + days) ≡ period_of f ws n + periods

moves : (f : Frequency) (ws i days : ℕ) → ws < 7 → IsInStep f i days → Moves f ws days
unfolding period_of
moves Daily ws i days h s = record { periods = days; later = λ n. refl }
moves Weekly ws i days h (k, e) =
    let d : days ≡ 7 * (k * i) = e ∙ seven_times k i in
    record { periods = k * i; later = λ n. omega (arith, d, h) }
moves Monthly ws i days h (q, e, m) = record { periods = q * 4800; later = λ n. ap (λ d. period_of Monthly 0 (n + d)) e ∙ (period_many n q).0 }
moves Yearly ws i days h (q, e, m) = record { periods = q * 400; later = λ n. ap (λ d. period_of Yearly 0 (n + d)) e ∙ (period_many n q).1 }

eq_both : (a b k : ℕ) → (a + k == b + k) ≡ (a == b)
eq_both a b k = grind (arith, nat_tests)

day_test : (n : ℕ) → 366 ≤ n → n ≤ 3_653_155 → is_day n ≡ true
day_test n l m = grind (arith, nat_tests)

count_shift : (test other : ℕ → Bool) (from days k : ℕ) → ((n : ℕ) → from ≤ n → n < from + k → test (n + days) ≡ other n) → count_days test (from + days) k ≡ count_days other from k
unfolding count_days
count_shift test other from days zero h = refl
count_shift test other from days (suc k) h =
    let e : from + days + k ≡ from + k + days = omega arith in
    rw (e, h (from + k) (omega arith) (omega arith), count_shift test other from days k (λ n a b. h n a (omega arith))) refl

module _ (p : Pattern) (days : ℕ) (s : IsShift p days) (h : p.week_start < 7) (plain : is_long p.frequency ≡ false → list_all (λ entry. is_plain entry.number) p.weekdays ≡ true) where
  mate_shift : (n m : ℕ) → 366 ≤ m → m + days ≤ 3_653_155 → is_mate p (n + days) (m + days) ≡ is_mate p n m
  unfolding is_mate
  mate_shift n m l k =
      let v = moves p.frequency p.week_start p.interval days h s.steps in
      rw (day_test m l (omega (arith, k)), day_test (m + days) (omega (arith, l)) k, v.later n, v.later m, eq_both (period_of p.frequency p.week_start m) (period_of p.frequency p.week_start n) v.periods, base_shift p days m s h plain) refl

  before_shift : (n : ℕ) → 731 ≤ n → n + days ≤ 3_652_424 → mates_before p (n + days) ≡ mates_before p n
  unfolding mates_before
  before_shift n l k =
      let r = reach_max p.frequency in
      let e : n + days - reach p.frequency ≡ n - reach p.frequency + days = omega (arith, r, l) in
      rw e (count_shift (is_mate p (n + days)) (is_mate p n) (n - reach p.frequency) days (reach p.frequency) (λ m a b. mate_shift n m (omega (arith, a, r, l)) (omega (arith, b, r, l, k))))

  after_shift : (n : ℕ) → 731 ≤ n → n + days ≤ 3_652_424 → mates_after p (n + days) ≡ mates_after p n
  unfolding mates_after
  after_shift n l k =
      let r = reach_max p.frequency in
      let e : n + days + 1 ≡ n + 1 + days = omega arith in
      rw e (count_shift (is_mate p (n + days)) (is_mate p n) (n + 1) days (reach p.frequency) (λ m a b. mate_shift n m (omega (arith, a, l)) (omega (arith, b, r, l, k))))

  placed_shift : (n : ℕ) → 731 ≤ n → n + days ≤ 3_652_424 → is_placed p (n + days) ≡ is_placed p n
  unfolding is_placed
  placed_shift n l k = rw (before_shift n l k, after_shift n l k) refl

-- ---- rule days

-- what is asked of a rule day apart from COUNT
record Counted (r : Rule) (n : ℕ) : Type 0 where
  start : r.pattern.start ≤ n
  last : n ≤ r.last
  year : n ≤ 3_652_424
  base : is_base r.pattern n ≡ true
  placed : is_placed r.pattern n ≡ true

to_counted : (r : Rule) (n : ℕ) → is_counted r n ≡ true → Counted r n
unfolding is_counted
to_counted r n e =
    let a = and_parts (nat_le r.pattern.start n && nat_le n r.last && nat_le n last_rule_day && is_base r.pattern n) (is_placed r.pattern n) e in
    let b = and_parts (nat_le r.pattern.start n && nat_le n r.last && nat_le n last_rule_day) (is_base r.pattern n) a.0 in
    let c = and_parts (nat_le r.pattern.start n && nat_le n r.last) (nat_le n last_rule_day) b.0 in
    let d = and_parts (nat_le r.pattern.start n) (nat_le n r.last) c.0 in
    record { start = leb-true r.pattern.start n d.0; last = leb-true n r.last d.1; year = leb-true n last_rule_day c.1; base = b.1; placed = a.1 }

from_counted : (r : Rule) (n : ℕ) → Counted r n → is_counted r n ≡ true
unfolding is_counted
from_counted r n k = rw (le-leb r.pattern.start n k.start, le-leb n r.last k.last, le-leb n last_rule_day k.year, k.base, k.placed) refl

uncounted : (r : Rule) (n : ℕ) → r.count ≡ None → is_within_count r n ≡ true
unfolding is_within_count
uncounted r n e = rw e refl

pub counted_down : (r : Rule) (days n : ℕ) → IsShift r.pattern days → r.pattern.week_start < 7 → (is_long r.pattern.frequency ≡ false → list_all (λ entry. is_plain entry.number) r.pattern.weekdays ≡ true)
    → 731 ≤ n → r.pattern.start ≤ n → is_counted r (n + days) ≡ true → is_counted r n ≡ true
counted_down r days n s h plain early start e =
    let k = to_counted r (n + days) e in
    let year = k.year in
    let last = k.last in
    from_counted r n (record {
      start = start;
      last = omega (arith, last);
      year = omega (arith, year);
      base = sym (base_shift r.pattern days n s h plain) ∙ k.base;
      placed = sym (placed_shift r.pattern days s h plain n (omega (arith, early, start)) (omega (arith, year))) ∙ k.placed;
    })

pub counted_up : (r : Rule) (days n : ℕ) → IsShift r.pattern days → r.pattern.week_start < 7 → (is_long r.pattern.frequency ≡ false → list_all (λ entry. is_plain entry.number) r.pattern.weekdays ≡ true)
    → 731 ≤ n → n + days ≤ r.last → n + days ≤ last_rule_day → is_counted r n ≡ true → is_counted r (n + days) ≡ true
counted_up r days n s h plain early last year e =
    let k = to_counted r n e in
    let start = k.start in
    from_counted r (n + days) (record {
      start = omega (arith, start);
      last = last;
      year = year;
      base = base_shift r.pattern days n s h plain ∙ k.base;
      placed = placed_shift r.pattern days s h plain n (omega (arith, early, start)) year ∙ k.placed;
    })

pub rule_down : (r : Rule) (days n : ℕ) → IsShift r.pattern days → r.pattern.week_start < 7 → (is_long r.pattern.frequency ≡ false → list_all (λ entry. is_plain entry.number) r.pattern.weekdays ≡ true)
    → r.count ≡ None → 731 ≤ n → r.pattern.start ≤ n → is_rule_day r (n + days) ≡ true → is_rule_day r n ≡ true
unfolding is_rule_day
rule_down r days n s h plain none early start e =
    rw (counted_down r days n s h plain early start (and_parts (is_counted r (n + days)) (is_within_count r (n + days)) e).0, uncounted r n none) refl

pub rule_up : (r : Rule) (days n : ℕ) → IsShift r.pattern days → r.pattern.week_start < 7 → (is_long r.pattern.frequency ≡ false → list_all (λ entry. is_plain entry.number) r.pattern.weekdays ≡ true)
    → r.count ≡ None → 731 ≤ n → n + days ≤ r.last → n + days ≤ last_rule_day → is_rule_day r n ≡ true → is_rule_day r (n + days) ≡ true
unfolding is_rule_day
rule_up r days n s h plain none early last year e =
    rw (counted_up r days n s h plain early last year (and_parts (is_counted r n) (is_within_count r n) e).0, uncounted r (n + days) none) refl
