-- The day after a day, and the day before it, in the same month.
use Rattle.std.proofs.Common.{◌≡◌, ◌∙◌, sym, ℕ, suc, ◌+◌, ◌-◌, ◌%◌, ◌<◌, ◌≤◌, arith}
use Rattle.profile.specs.series.Days.{days_in_month, year_of, month_of, weekday_of, month_days_before, month_days_after, year_days_before, year_days_after}
use Rattle.cal_days.proofs.Dates.{Named, named, date_counts, in_month, in_year, month_length_max, month_range, year_begins, year_length_max}
use Rattle.cal_rules.specs.declared.facts.DayFacts.{DayFacts}
use Rattle.cal_rules.specs.Known.{AreFacts}

-- how far a day can be in its week, its month and its year
pub record Ranges (n : ℕ) : Type 0 where
  pub weekday : weekday_of n < 7
  pub month_before : month_days_before n ≤ 30
  pub month_after : month_days_after n ≤ 30
  pub year_before : year_days_before n ≤ 365
  pub year_after : year_days_after n ≤ 365

pub ranges : (n : ℕ) → Ranges n
unfolding weekday_of month_days_after year_days_after
ranges n =
    let month = in_month n in
    let year = in_year n in
    let month_length = month_length_max (year_of n) (month_of n) in
    let year_length = year_length_max (year_of n) in
    record {
      weekday = omega arith;
      month_before = omega arith;
      month_after = omega arith;
      year_before = omega arith;
      year_after = omega arith;
    }

-- a day near it, in the same month
pub same_month : (n m : ℕ) → n ≤ m + month_days_before n → m ≤ n + month_days_after n → Named m (year_of n) (month_of n) (suc (m + month_days_before n - n))
unfolding month_days_after
same_month n m low high =
    let range = month_range n in
    let inside = in_month n in
    let count = date_counts n in
    named m (year_of n) (month_of n) (suc (m + month_days_before n - n)) (range.0, range.1, omega arith, omega arith) (omega arith)

year_before_on : (n : ℕ) → year_of (n + 1) ≡ year_of n → year_days_before (n + 1) ≡ year_days_before n + 1
unfolding year_days_before
year_before_on n e = rw e (omega (arith, year_begins n))

year_after_on : (n : ℕ) → year_of (n + 1) ≡ year_of n → year_days_after (n + 1) ≡ year_days_after n - 1
unfolding year_days_after
year_after_on n e = rw (e, year_before_on n e) (omega arith)

month_after_on : (n : ℕ) → year_of (n + 1) ≡ year_of n → month_of (n + 1) ≡ month_of n → month_days_before (n + 1) ≡ month_days_before n + 1 → month_days_after (n + 1) ≡ month_days_after n - 1
unfolding month_days_after
month_after_on n year month before = rw (year, month, before) (omega arith)

weekday_on : (n : ℕ) → weekday_of (n + 1) ≡ (weekday_of n + 1) % 7
unfolding weekday_of
weekday_on n = omega arith

-- the facts of the next day
pub record Next (n : ℕ) : Type 0 where
  pub year : year_of (n + 1) ≡ year_of n
  pub weekday : weekday_of (n + 1) ≡ (weekday_of n + 1) % 7
  pub month : month_of (n + 1) ≡ month_of n
  pub month_before : month_days_before (n + 1) ≡ month_days_before n + 1
  pub month_after : month_days_after (n + 1) ≡ month_days_after n - 1
  pub year_before : year_days_before (n + 1) ≡ year_days_before n + 1
  pub year_after : year_days_after (n + 1) ≡ year_days_after n - 1

pub next : (n : ℕ) → 1 ≤ month_days_after n → Next n
next n h =
    let k = same_month n (n + 1) (omega arith) (omega arith) in
    let before : month_days_before (n + 1) ≡ month_days_before n + 1 = omega (arith, k.day) in
    record {
      year = k.year;
      weekday = weekday_on n;
      month = k.month;
      month_before = before;
      month_after = month_after_on n k.year k.month before;
      year_before = year_before_on n k.year;
      year_after = year_after_on n k.year;
    }

-- where the month goes on, the year does
pub year_goes_on : (n : ℕ) → 1 ≤ month_days_after n → 1 ≤ year_days_after n
unfolding year_days_after
year_goes_on n h =
    let k = next n h in
    let inside = rw k.year at (in_year (n + 1)) in
    omega (arith, k.year_before)

-- the days of its month after a day, by its date
pub month_left : (n : ℕ) → days_in_month (year_of n) (month_of n) - suc (month_days_before n) ≡ month_days_after n
unfolding month_days_after
month_left n = omega arith

pub month_has : (n : ℕ) → suc (month_days_before n) ≤ days_in_month (year_of n) (month_of n)
month_has n = omega (arith, in_month n)

pub facts_on : (f : DayFacts) → AreFacts f → 1 ≤ f.month_after → f.index < 3_653_155 → AreFacts (record { index = f.index + 1; weekday = (f.weekday + 1) % 7; month = f.month; month_before = f.month_before + 1; month_after = f.month_after - 1; year_before = f.year_before + 1; year_after = f.year_after - 1 })
facts_on f h more few =
    let left : 1 ≤ month_days_after f.index = omega (arith, h.month_after) in
    let k = next f.index left in
    let r = ranges (f.index + 1) in
    let bounds = h.ranges in
    let low = h.day in
    record {
      day = (omega arith, omega arith);
      weekday = rw h.weekday (sym k.weekday);
      month = h.month ∙ sym k.month;
      month_before = rw h.month_before (sym k.month_before);
      month_after = rw h.month_after (sym k.month_after);
      year_before = rw h.year_before (sym k.year_before);
      year_after = rw h.year_after (sym k.year_after);
      ranges = (omega arith, omega (arith, h.month_before, k.month_before, r.month_before), omega arith, omega (arith, h.year_before, k.year_before, r.year_before), omega arith);
    }

-- where the day isn't the first of its month, that of the day before goes on
pub month_went_on : (n : ℕ) → 1 ≤ n → 1 ≤ month_days_before n → 1 ≤ month_days_after (n - 1)
month_went_on n low h =
    let k = same_month n (n - 1) (omega arith) (omega arith) in
    let left = rw (k.year, k.month) at (month_left (n - 1)) in
    omega (arith, k.day, left, month_has n)

pub facts_back : (f : DayFacts) → AreFacts f → 1 ≤ f.month_before → 367 ≤ f.index → AreFacts (record { index = f.index - 1; weekday = (f.weekday + 6) % 7; month = f.month; month_before = f.month_before - 1; month_after = f.month_after + 1; year_before = f.year_before - 1; year_after = f.year_after + 1 })
facts_back f h more low =
    let m = f.index - 1 in
    let on : m + 1 ≡ f.index = omega arith in
    let went : 1 ≤ month_days_after m = month_went_on f.index (omega arith) (omega (arith, h.month_before)) in
    let k = next m went in
    let left = year_goes_on m went in
    let r = ranges m in
    let weekday : weekday_of f.index ≡ (weekday_of m + 1) % 7 = rw on at k.weekday in
    let month : month_of f.index ≡ month_of m = rw on at k.month in
    let month_before : month_days_before f.index ≡ month_days_before m + 1 = rw on at k.month_before in
    let month_after : month_days_after f.index ≡ month_days_after m - 1 = rw on at k.month_after in
    let year_before : year_days_before f.index ≡ year_days_before m + 1 = rw on at k.year_before in
    let year_after : year_days_after f.index ≡ year_days_after m - 1 = rw on at k.year_after in
    let high = h.day in
    let before : f.month_before - 1 ≡ month_days_before m = omega (arith, h.month_before, month_before) in
    let after : f.month_after + 1 ≡ month_days_after m = omega (arith, h.month_after, month_after, went) in
    let year_first : f.year_before - 1 ≡ year_days_before m = omega (arith, h.year_before, year_before) in
    let year_left : f.year_after + 1 ≡ year_days_after m = omega (arith, h.year_after, year_after, left) in
    record {
      day = (omega arith, omega arith);
      weekday = omega (arith, h.weekday, weekday, r.weekday);
      month = h.month ∙ month;
      month_before = before;
      month_after = after;
      year_before = year_first;
      year_after = year_left;
      ranges = (omega arith, omega (arith, before, r.month_before), omega (arith, after, r.month_after), omega (arith, year_first, r.year_before), omega (arith, year_left, r.year_after));
    }

-- and so does its year
pub year_went_on : (n : ℕ) → 1 ≤ n → 1 ≤ month_days_before n → 1 ≤ year_days_before n
year_went_on n low h =
    let on : n - 1 + 1 ≡ n = omega arith in
    let k = next (n - 1) (month_went_on n low h) in
    let before : year_days_before n ≡ year_days_before (n - 1) + 1 = rw on at k.year_before in
    omega (arith, before)
