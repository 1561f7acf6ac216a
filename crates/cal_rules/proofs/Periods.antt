-- The days of the period of a day, by its frequency.
use Rattle.std.proofs.Common.{◌≡◌, ◌∙◌, sym, refl, ℕ, suc, ◌+◌, ◌-◌, ◌*◌, ◌%◌, ◌<◌, ◌≤◌, max, arith}
use Rattle.profile.specs.series.Days.{Frequency, Daily, Weekly, Monthly, Yearly, period_of, year_start, year_of, month_of, month_days_before, month_days_after, year_days_before, year_days_after}
use Rattle.profile.specs.series.Rules.{reach}
use Rattle.cal_days.proofs.Dates.{date_counts, in_month, in_year, month_length_max, month_range, year_begins, year_ends, year_length_max, year_start-is, year_start-step}
use Rattle.cal_days.proofs.Growth.{Within, ascends, year_short}
use Rattle.cal_rules.specs.Spans.{IsPeriodSpan}
use Rattle.cal_rules.specs.Known.{AreFacts}
use Rattle.cal_rules.specs.declared.facts.DayFacts.{DayFacts}
use Rattle.cal_rules.proofs.Tomorrow.{same_month}

pub reach_max : (frequency : Frequency) → reach frequency ≤ 365
reach_max Daily = omega arith
reach_max Weekly = omega arith
reach_max Monthly = omega arith
reach_max Yearly = omega arith

-- the same days are those of the period of each of them
pub span_of : (frequency : Frequency) (week_start n first end m : ℕ) → IsPeriodSpan frequency week_start n first end → first ≤ m → m < end → IsPeriodSpan frequency week_start m first end
span_of frequency week_start n first end m s low high =
    let e = s.same m low high in
    record {
      first_day = s.first_day;
      not_before = low;
      not_after = high;
      narrow = s.narrow;
      same = λ k a b. s.same k a b ∙ sym e;
      none_before = λ k d a f. s.none_before k d a (f ∙ e);
      none_after = λ k a f. s.none_after k a (f ∙ e);
    }

-- DAYS AND WEEKS

pub day_span : (week_start n : ℕ) → 366 ≤ n → IsPeriodSpan Daily week_start n n (n + 1)
unfolding period_of
day_span week_start n h =
    record {
      first_day = h;
      not_before = omega arith;
      not_after = omega arith;
      narrow = omega arith;
      same = λ m low high. omega arith;
      none_before = λ m day low e. omega arith;
      none_after = λ m high e. omega arith;
    }

pub week_span : (week_start n : ℕ) → 366 ≤ n → week_start < 256 → IsPeriodSpan Weekly week_start n (max (n - (n + 12 - week_start) % 7) 366) (n + 7 - (n + 12 - week_start) % 7)
unfolding period_of
week_span week_start n h w =
    record {
      first_day = omega arith;
      not_before = omega arith;
      not_after = omega arith;
      narrow = omega arith;
      same = λ m low high. omega arith;
      none_before = λ m day low e. omega arith;
      none_after = λ m high e. omega arith;
    }

-- MONTHS

year_low : (n : ℕ) → 366 ≤ n → 1 ≤ year_of n
year_low n h = omega (arith, year_ends n)

year_start_low : (year : ℕ) → 1 ≤ year → 366 ≤ year_start year
year_start_low year h = omega arith

month_low : (n : ℕ) → 366 ≤ n → 366 ≤ n - month_days_before n
month_low n h =
    omega (arith, date_counts n, year_start-is (year_of n), year_start_low (year_of n) (year_low n h))

month_short : (n : ℕ) → n + month_days_after n + 1 ≤ n - month_days_before n + 31
unfolding month_days_after
month_short n = omega (arith, in_month n, month_length_max (year_of n) (month_of n), date_counts n)

same_start : (n m : ℕ) → year_of m ≡ year_of n → month_of m ≡ month_of n → m + month_days_before n ≡ n + month_days_before m
same_start n m year month = omega (arith, date_counts n, rw (year, month) at (date_counts m))

month_holds : (n m : ℕ) → year_of m ≡ year_of n → month_of m ≡ month_of n → (n ≤ m + month_days_before n) × (m ≤ n + month_days_after n)
unfolding month_days_after
month_holds n m year month =
    let start = same_start n m year month in
    let inside = rw (year, month) at (in_month m) in
    (omega arith, omega arith)

same_period : (n m : ℕ) → 12 * year_of m + month_of m ≡ 12 * year_of n + month_of n → (year_of m ≡ year_of n) × (month_of m ≡ month_of n)
same_period n m e =
    (omega (arith, month_range n, month_range m), omega (arith, month_range n, month_range m))

in_period : (n m : ℕ) → 12 * year_of m + month_of m ≡ 12 * year_of n + month_of n → (n ≤ m + month_days_before n) × (m ≤ n + month_days_after n)
in_period n m e = let same = same_period n m e in month_holds n m same.0 same.1

pub month_span : (week_start n : ℕ) → 366 ≤ n → IsPeriodSpan Monthly week_start n (n - month_days_before n) (n + month_days_after n + 1)
unfolding period_of
month_span week_start n h =
    let low = month_low n h in
    record {
      first_day = low;
      not_before = omega arith;
      not_after = omega arith;
      narrow = omega (arith, month_short n);
      same = λ m from to. let k = same_month n m (omega arith) (omega arith) in rw (k.year, k.month) refl;
      none_before = λ m day to e. let k = in_period n m e in omega arith;
      none_after = λ m from e. let k = in_period n m e in omega arith;
    }

-- YEARS

year_in : (year m : ℕ) → year_start year ≤ m → m < year_start (suc year) → year_of m ≡ year
year_in year m low high =
    let here : Within year_start m year = record { begins = low; ends = high } in
    let there : Within year_start m (year_of m) = record { begins = year_begins m; ends = year_ends m } in
    let a : year_of m ≤ year = ascends year_start 365 year_short m m (year_of m) year there here (omega arith) in
    let b : year ≤ year_of m = ascends year_start 365 year_short m m year (year_of m) here there (omega arith) in
    omega arith

year_first : (n : ℕ) → n - year_days_before n ≡ year_start (year_of n)
unfolding year_days_before
year_first n = omega (arith, year_begins n)

year_before_max : (n : ℕ) → year_days_before n ≤ n
unfolding year_days_before
year_before_max n = omega arith

year_end : (n : ℕ) → n + year_days_after n + 1 ≡ year_start (suc (year_of n))
unfolding year_days_after
year_end n = omega (arith, in_year n, year_first n, year_before_max n, year_start-step (year_of n))

years : (week_start n first end : ℕ) → 366 ≤ n → first ≡ year_start (year_of n) → end ≡ year_start (suc (year_of n)) → IsPeriodSpan Yearly week_start n first end
unfolding period_of
years week_start n first end h a b =
    let begins = year_begins n in
    let ends = year_ends n in
    record {
      first_day = rw a (year_start_low (year_of n) (year_low n h));
      not_before = rw a begins;
      not_after = rw b ends;
      narrow = rw (a, b) (omega (arith, year_start-step (year_of n), year_length_max (year_of n)));
      same = λ m from to. year_in (year_of n) m (rw a at from) (rw b at to);
      none_before = λ m day to e. let k = rw e at (year_begins m) in let l = rw a at to in omega arith;
      none_after = λ m from e. let k = rw e at (year_ends m) in let l = rw b at from in omega arith;
    }

pub year_span : (week_start n : ℕ) → 366 ≤ n → IsPeriodSpan Yearly week_start n (n - year_days_before n) (n + year_days_after n + 1)
year_span week_start n h = years week_start n _ _ h (year_first n) (year_end n)

-- by what is known of a day

pub month_of_facts : (week_start : ℕ) (f : DayFacts) → AreFacts f → 366 ≤ f.index → IsPeriodSpan Monthly week_start f.index (f.index - f.month_before) (f.index + f.month_after + 1)
month_of_facts week_start f h low = rw (h.month_before, h.month_after) (month_span week_start f.index low)

pub year_of_facts : (week_start : ℕ) (f : DayFacts) → AreFacts f → 366 ≤ f.index → IsPeriodSpan Yearly week_start f.index (f.index - f.year_before) (f.index + f.year_after + 1)
year_of_facts week_start f h low = rw (h.year_before, h.year_after) (year_span week_start f.index low)
