-- The date that the definitions give a day is the one date of its number.
use Rattle.std.proofs.Common.{◌≡◌, ◌∙◌, inl, inr, ap, sym, refl, ℕ, zero, suc, ◌+◌, ◌-◌, ◌*◌, ◌/◌, ◌%◌, ◌<◌, ◌≤◌, Bool, true, false, nat_le, arith, ℤ, pos, negsuc, unsigned_abs, ◌+ℤ◌, ◌-ℤ◌}
use Rattle.std.proofs.lemmas.Bool.Decides.{nat_tests}
use Rattle.std.proofs.lemmas.Bool.{cases_order}
use Rattle.profile.specs.series.Days.{Frequency, Daily, Weekly, Monthly, Yearly, IsDate, IsDayDate, day_index, number_of_day, period_of, periods_in_400_years, is_leap_year, days_in_year, days_in_month, days_before_year, days_of_months, days_before, year_start, greatest, year_of, month_of, year_days_before, year_days_after, month_days_before, month_days_after, weekday_of}
use Rattle.jiff_core.specs.Calendar as jiff
use Rattle.jiff_core.proofs.SignedLemmas.{signed_arith, one_part}
use Rattle.jiff_core.proofs.MarchLemmas.{leap_day, leap_day-shift, days_of_years-march_days}
use Rattle.cal_days.proofs.Bridge.{years-later, months-later, days_in_month-later, leap_year-later}
use Rattle.cal_days.proofs.Order.{years_step, year_length, months_step, one_count}

-- the sum of the days of the years before one
pub year_start-is : (year : ℕ) → days_before_year year ≡ year_start year
unfolding days_before_year
year_start-is zero = refl
year_start-is (suc year) = grind (arith, nat_tests, year_start-is year)

pub year_start-step : (year : ℕ) → year_start (suc year) ≡ year_start year + days_in_year year
year_start-step year = sym (year_start-is (suc year)) ∙ years_step year ∙ ap (λ n. n + days_in_year year) (year_start-is year)

-- what the greatest number under a bound is
pub record Greatest (values : ℕ → ℕ) (bound last found : ℕ) : Type 0 where
  pub within : found ≤ last
  pub under : values found ≤ bound
  pub next : found < last → bound < values (suc found)

next_up : (values : ℕ → ℕ) (bound last found : ℕ) → Greatest values bound last found → bound < values (suc last) → found < suc last → bound < values (suc found)
next_up values bound last found g over k =
    elim (cases_order found last) [
      | inl e ↦ rw e over
      | inr (inl lt) ↦ g.next lt
      | inr (inr gt) ↦ absurd (omega (arith, g.within))
    ]

pub greatest-is : (values : ℕ → ℕ) (bound last : ℕ) → values 0 ≤ bound → Greatest values bound last (greatest values bound last)
unfolding greatest
greatest-is values bound zero h = record { within = omega arith; under = h; next = λ k. absurd (omega arith) }
greatest-is values bound (suc last) h =
    elim (nat_le (values (suc last)) bound) as (λ b. nat_le (values (suc last)) bound ≡ b → Greatest values bound (suc last) (elim b [ true ↦ suc last | false ↦ greatest values bound last ])) [
      | true ↦ λ e. record { within = omega arith; under = grind (arith, nat_tests); next = λ k. absurd (omega arith) }
      | false ↦ λ e.
          let g = greatest-is values bound last h in
          let over : bound < values (suc last) = grind (arith, nat_tests) in
          record { within = omega (arith, g.within); under = g.under; next = λ k. next_up values bound last _ g over k }
    ] refl

-- the year of a day
year_greatest : (n : ℕ) → Greatest year_start n (n / 365) (year_of n)
unfolding year_of
year_greatest n = greatest-is year_start n (n / 365) (omega arith)

pub year_begins : (n : ℕ) → year_start (year_of n) ≤ n
year_begins n = (year_greatest n).under

pub year_ends : (n : ℕ) → n < year_start (suc (year_of n))
year_ends n =
    elim (cases_order (year_of n) (n / 365)) [
      | inl e ↦ rw e (omega arith)
      | inr (inl lt) ↦ (year_greatest n).next lt
      | inr (inr gt) ↦ absurd (omega (arith, (year_greatest n).within))
    ]

pub in_year : (n : ℕ) → year_days_before n < days_in_year (year_of n)
unfolding year_days_before
in_year n = omega (arith, year_begins n, year_ends n, year_start-step (year_of n))

-- its month
pub months_from_0 : (year : ℕ) → days_of_months year 0 ≡ 0
unfolding days_of_months
months_from_0 year = refl

month_greatest : (n : ℕ) → Greatest (days_of_months (year_of n)) (year_days_before n) 11 (greatest (days_of_months (year_of n)) (year_days_before n) 11)
month_greatest n = greatest-is (days_of_months (year_of n)) (year_days_before n) 11 (rw months_from_0 (omega arith))

month_is : (n : ℕ) → month_of n ≡ suc (greatest (days_of_months (year_of n)) (year_days_before n) 11)
unfolding month_of
month_is n = refl

pub month_begins : (n : ℕ) → days_of_months (year_of n) (month_of n - 1) ≤ year_days_before n
month_begins n =
    let back : suc (greatest (days_of_months (year_of n)) (year_days_before n) 11) - 1 ≡ greatest (days_of_months (year_of n)) (year_days_before n) 11 = omega arith in
    rw (month_is n, back) (month_greatest n).under

pub month_ends : (n : ℕ) → year_days_before n < days_of_months (year_of n) (month_of n)
month_ends n =
    rw (month_is n) (
    elim (cases_order (greatest (days_of_months (year_of n)) (year_days_before n) 11) 11) [
      | inl e ↦ rw (e, year_length (year_of n)) (in_year n)
      | inr (inl lt) ↦ (month_greatest n).next lt
      | inr (inr gt) ↦ absurd (omega (arith, (month_greatest n).within))
    ])

pub month_range : (n : ℕ) → (1 ≤ month_of n) × (month_of n ≤ 12)
month_range n = omega (arith, month_is n, (month_greatest n).within)

pub in_month : (n : ℕ) → month_days_before n < days_in_month (year_of n) (month_of n)
unfolding month_days_before
in_month n = omega (arith, month_begins n, month_ends n, months_step (year_of n) (month_of n) (month_range n).0)

-- the date of a day is a date, and has its number
pub date_is : (n : ℕ) → IsDate (year_of n) (month_of n) (suc (month_days_before n))
date_is n = ((month_range n).0, (month_range n).1, omega arith, omega (arith, in_month n))

pub date_counts : (n : ℕ) → days_before (year_of n) (month_of n) (suc (month_days_before n)) ≡ n
unfolding month_days_before year_days_before
date_counts n = omega (arith, year_start-is (year_of n), year_begins n, month_begins n)

-- and no other date has it
pub record Named (n y m d : ℕ) : Type 0 where
  pub year : year_of n ≡ y
  pub month : month_of n ≡ m
  pub day : suc (month_days_before n) ≡ d

pub named : (n y m d : ℕ) → IsDate y m d → days_before y m d ≡ n → Named n y m d
named n y m d h e =
    let same = one_count (year_of n) (month_of n) (suc (month_days_before n)) y m d (date_is n) h (date_counts n ∙ sym e) in
    record { year = same.0; month = same.1; day = same.2 }

-- 400 years later
days_before_later : (y m d : ℕ) → days_before (y + 400) m d ≡ days_before y m d + 146_097
days_before_later y m d = omega (arith, years-later y, months-later y (m - 1))

date_later_is : (y m d : ℕ) → IsDate y m d → IsDate (y + 400) m d
date_later_is y m d h = (h.0, h.1, h.2, rw (days_in_month-later y m) h.3)

pub named_later : (n : ℕ) → Named (n + 146_097) (year_of n + 400) (month_of n) (suc (month_days_before n))
named_later n =
    named (n + 146_097) (year_of n + 400) (month_of n) (suc (month_days_before n)) (date_later_is (year_of n) (month_of n) (suc (month_days_before n)) (date_is n))
    (days_before_later (year_of n) (month_of n) (suc (month_days_before n)) ∙ ap (λ k. k + 146_097) (date_counts n))

pub weekday_later : (n : ℕ) → weekday_of (n + 146_097) ≡ weekday_of n
unfolding weekday_of
weekday_later n = omega arith

pub year_start_later : (year : ℕ) → year_start (year + 400) ≡ year_start year + 146_097
year_start_later year = omega arith

pub year_days_before_later : (n : ℕ) → year_days_before (n + 146_097) ≡ year_days_before n
unfolding year_days_before
year_days_before_later n = rw (named_later n).year (omega (arith, year_start_later (year_of n), year_begins n))

pub year_days_after_later : (n : ℕ) → year_days_after (n + 146_097) ≡ year_days_after n
unfolding year_days_after
year_days_after_later n = rw (year_days_before_later n, (named_later n).year, leap_year-later (year_of n)) refl

pub month_days_before_later : (n : ℕ) → month_days_before (n + 146_097) ≡ month_days_before n
month_days_before_later n = omega (arith, (named_later n).day)

pub month_days_after_later : (n : ℕ) → month_days_after (n + 146_097) ≡ month_days_after n
unfolding month_days_after
month_days_after_later n =
    rw (month_days_before_later n, (named_later n).year, (named_later n).month, days_in_month-later (year_of n) (month_of n)) refl

pub period_later : (frequency : Frequency) (week_start n : ℕ) → week_start < 7 → period_of frequency week_start (n + 146_097) ≡ period_of frequency week_start n + periods_in_400_years frequency
unfolding period_of
period_later Daily week_start n h = refl
period_later Weekly week_start n h = omega arith
period_later Monthly week_start n h = rw ((named_later n).year, (named_later n).month) (omega arith)
period_later Yearly week_start n h = (named_later n).year

-- what the code computes is what the definitions say
count_of_number : (count : ℕ) (number : ℤ) → pos count -ℤ pos 719_528 ≡ number → count ≡ unsigned_abs (number +ℤ pos 719_528)
count_of_number count number e = omega (arith, signed_arith, one_part (number +ℤ pos 719_528))

pub civil_parts : (year self : ℤ) (month day : ℕ) → IsDayDate year month day → number_of_day year month day ≡ self → (year ≡ pos (year_of (day_index self))) × (month ≡ month_of (day_index self)) × (day ≡ suc (month_days_before (day_index self)))
civil_parts (pos y) self month day h e =
    let k = named (day_index self) y month day h.2 (count_of_number (days_before y month day) self e) in
    (ap pos (sym k.year), sym k.month, sym k.day)
civil_parts (negsuc y) self month day h e = absurd (omega (arith, signed_arith))

pub year_length_max : (year : ℕ) → days_in_year year ≤ 366
year_length_max year = grind (arith, nat_tests)

pub record YearPlace (index start n : ℕ) : Type 0 where
  pub begins : start ≤ index
  pub value : index - start ≡ year_days_before n
  pub range : index - start ≤ 365

pub year_place : (index year start n : ℕ) → index ≡ n → year ≡ year_of n → start ≡ year_start year → YearPlace index start n
unfolding year_days_before
year_place index year start n i y s =
    let same : start ≡ year_start (year_of n) = s ∙ ap year_start y in
    record {
      begins = omega (arith, year_begins n);
      value = rw (i, same) refl;
      range = rw (i, same) (omega (arith, in_year n, year_length_max (year_of n)));
    }

pub record YearRest (length before n : ℕ) : Type 0 where
  pub within : 1 ≤ length - before
  pub value : length - before - 1 ≡ year_days_after n

pub year_rest : (year length before n : ℕ) → year ≡ year_of n → length ≡ days_in_year year → before ≡ year_days_before n → YearRest length before n
unfolding year_days_after
year_rest year length before n y l b =
    let same : length ≡ days_in_year (year_of n) = l ∙ ap days_in_year y in
    record { within = rw (same, b) (omega (arith, in_year n)); value = rw (same, b) refl }

pub month_length_max : (year month : ℕ) → days_in_month year month ≤ 31
month_length_max year month = grind (arith, nat_tests)

pub month_place_max : (n : ℕ) → month_days_before n ≤ 30
month_place_max n = omega (arith, in_month n, month_length_max (year_of n) (month_of n))

pub month_rest : (length before n : ℕ) → length ≡ days_in_month (year_of n) (month_of n) → before ≡ month_days_before n → (1 ≤ length - before) × (length - before - 1 ≡ month_days_after n)
unfolding month_days_after
month_rest length before n l b = (rw (l, b) (omega (arith, in_month n)), rw (l, b) refl)
