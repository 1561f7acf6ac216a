-- The calendar of the definitions and jiff's are one.
use Rattle.std.proofs.Common.{◌≡◌, ◌↔◌, ◌∙◌, sym, ℕ, zero, suc, ◌+◌, ◌-◌, ◌%◌, ◌≤◌, refl, arith, ℤ, pos, negsuc, unsigned_abs, ◌≤ℤ◌, ◌+ℤ◌}
use Rattle.std.proofs.lemmas.Int.{by_lt_z}
use Rattle.std.proofs.Common.{to_z, of_z, to_z-of_z, FitsSigned, w8, w32, w64, Result, IfOk, Ok}
use mir.Syntax.{w16}
use Rattle.jiff_core.specs.declared.error.Error.{Error}
use Rattle.jiff_core.specs.declared.civil.date.Date.{Date}
use Rattle.jiff_core.specs.Date.{epoch_day, IsYmd}
use Rattle.profile.specs.series.Days.{is_leap_year, days_in_month, days_before_year, days_of_months, days_before, number_of_date, number_of_day, IsDate}
use Rattle.jiff_core.specs.Calendar as jiff
use Rattle.jiff_core.proofs.SignedLemmas.{signed_arith, signed_casts}
use Rattle.jiff_core.proofs.MarchLemmas.{leap_day, leap_day-shift, days_of_years-suc, days_of_years-march_days, days_in_year-leap_day}
use Rattle.jiff_core.proofs.CalendarLemmas.{days_from_civil-day_count, day_count-lt_year}

-- jiff counts from the year -10000
years-start : jiff.days_of_years 10_000 ≡ 3_652_425
years-start = omega (arith, days_of_years-march_days 10_000)

years_same : (year : ℕ) → jiff.days_of_years (year + 10_000) ≡ days_before_year year + 3_652_425
unfolding days_before_year
years_same zero = years-start
years_same (suc year) =
    let turn : suc year + 10_000 ≡ suc (year + 10_000) = omega arith in
    rw turn (omega (arith, years_same year, days_of_years-suc (year + 10_000), leap_day-shift (pos year) (year + 10_000) refl, days_in_year-leap_day (pos year)))

pub months_same : (year months : ℕ) → jiff.days_of_months (pos year) months ≡ days_of_months year months
unfolding days_of_months jiff.days_of_months
months_same year zero = refl
months_same year (suc months) = rw (months_same year months) refl

count_same : (year month day : ℕ) → 1 ≤ day → jiff.day_count (pos year) month day ≡ days_before year month day + 3_652_425
unfolding jiff.day_count
count_same year month day h = omega (arith, years_same year, months_same year (month - 1))

-- the day number of a date is jiff's
pub number_same : (year month day : ℕ) → 1 ≤ day → jiff.days_from_civil (pos year) month day ≡ number_of_date year month day
number_same year month day h =
    omega (arith, signed_arith, days_from_civil-day_count (pos year) month day, count_same year month day h)

-- the rule of leap years repeats after 400 years
pub leap_year-later : (year : ℕ) → is_leap_year (year + 400) ≡ is_leap_year year
leap_year-later year =
    let four : (year + 400) % 4 ≡ year % 4 = omega arith in
    let hundred : (year + 400) % 100 ≡ year % 100 = omega arith in
    let all : (year + 400) % 400 ≡ year % 400 = omega arith in
    rw (four, hundred, all) refl

pub days_in_month-later : (year month : ℕ) → days_in_month (year + 400) month ≡ days_in_month year month
days_in_month-later year month = rw (leap_year-later year) refl

leap_day-later : (year : ℕ) → leap_day (pos (year + 400)) ≡ leap_day (pos year)
leap_day-later year = rw (leap_year-later year) refl

-- 400 years have 146,097 days
pub years-later : (year : ℕ) → days_before_year (year + 400) ≡ days_before_year year + 146_097
years-later year =
    omega (arith, years_same year, years_same (year + 400), days_of_years-march_days (year + 10_000), days_of_years-march_days (year + 400 + 10_000), leap_day-shift (pos year) (year + 10_000) refl, leap_day-shift (pos (year + 400)) (year + 400 + 10_000) refl, leap_day-later year)

pub months-later : (year months : ℕ) → days_of_months (year + 400) months ≡ days_of_months year months
unfolding days_of_months
months-later year zero = refl
months-later year (suc months) = rw (months-later year months, days_in_month-later year (suc months)) refl

-- the same date 400 years later is 146,097 days later
pub number-later : (year month day : ℕ) → number_of_date (year + 400) month day ≡ number_of_date year month day +ℤ pos 146_097
number-later year month day =
    omega (arith, signed_arith, years-later year, months-later year (month - 1))

-- no date before the year 1 has the number of one from then on
year_from_number : (year : ℤ) (month day : ℕ) → jiff.IsCivilDate year month day → negsuc 719_161 ≤ℤ jiff.days_from_civil year month day → pos 1 ≤ℤ year
unfolding days_before_year days_of_months
year_from_number year month day h low =
    by_lt_z year (pos 1)
    (λ lt. absurd (omega (arith, signed_arith, day_count-lt_year year month day (pos 1) 1 1 h (omega arith) lt, days_from_civil-day_count year month day, count_same 1 1 1 (omega arith))))
    (λ ge. ge)

-- a date of jiff's, from the year 1 on, is one of the definitions', with the same number
date_of_jiff : (year : ℤ) (month day : ℕ) → jiff.IsCivilDate year month day → pos 1 ≤ℤ year → IsDate (unsigned_abs year) month day × (number_of_day year month day ≡ jiff.days_from_civil year month day)
date_of_jiff (pos n) month day h low = ((h.1.0, h.1.1, h.2.0, h.2.1), sym (number_same n month day h.2.0))
date_of_jiff (negsuc n) month day h low = absurd (omega (arith, signed_arith))

epoch_zero : (epoch : Date) → IsYmd (pos 1970) (pos 1) (pos 1) epoch → epoch_day epoch ≡ pos 0
unfolding days_before_year days_of_months
epoch_zero epoch h =
    let month : epoch.month ≡ 1 = omega (arith, signed_arith) in
    let day : epoch.day ≡ 1 = omega (arith, signed_arith) in
    rw (h.0, month, day) (number_same 1970 1 1 (omega arith))

-- the number of days that jiff adds to 1970-01-01
pub can_add : (epoch : Date) (number : ℤ) → IsYmd (pos 1970) (pos 1) (pos 1) epoch → negsuc 719_161 ≤ℤ number → number ≤ℤ pos 2_932_896 → jiff.IsEpochDay (epoch_day epoch +ℤ number)
can_add epoch number e low high = omega (arith, signed_arith, epoch_zero epoch e)

-- what jiff gives for 1970-01-01 and a number of days
pub date_found : (epoch d : Date) (number : ℤ) → IsYmd (pos 1970) (pos 1) (pos 1) epoch → negsuc 719_161 ≤ℤ number → epoch_day d ≡ epoch_day epoch +ℤ number → (pos 1 ≤ℤ d.year) × IsDate (unsigned_abs d.year) d.month d.day × (number_of_day d.year d.month d.day ≡ number)
date_found epoch d number e low h =
    let same : epoch_day d ≡ number = omega (arith, signed_arith, epoch_zero epoch e) in
    let first = year_from_number d.year d.month d.day (d.year_in, d.month_in, d.day_in) (rw same low) in
    let both = date_of_jiff d.year d.month d.day (d.year_in, d.month_in, d.day_in) first in
    (first, both.0, both.1 ∙ same)

-- and their numbers are jiff's
pub number_of_jiff : (d : Date) (year : ℤ) (month day : ℕ) → pos 1 ≤ℤ year → IsYmd year (pos month) (pos day) d → epoch_day d ≡ number_of_day year month day
number_of_jiff d year month day low h =
    let m : d.month ≡ month = omega (arith, signed_arith) in
    let n : d.day ≡ day = omega (arith, signed_arith) in
    let both = date_of_jiff d.year d.month d.day (d.year_in, d.month_in, d.day_in) (rw h.0 low) in
    sym both.1 ∙ rw (h.0, m, n) refl

-- a year of jiff's keeps its value in the wider type
pub year_widens : (year : ℤ) → jiff.IsYear year → to_z w32 (of_z w32 (to_z w16 (of_z w16 year))) ≡ year
year_widens year h =
    let short : FitsSigned w16 year = omega (arith, signed_arith) in
    let long : FitsSigned w32 year = omega (arith, signed_arith) in
    rw (to_z-of_z short) (to_z-of_z long)

-- what jiff's adding of days to 1970-01-01 says, of the date that it gives
pub date_from : (epoch start d : Date) (number : ℤ) (r : Result Date Error) → IsYmd (pos 1970) (pos 1) (pos 1) epoch → start ≡ epoch → negsuc 719_161 ≤ℤ number → FitsSigned w64 number → IfOk r (λ x. epoch_day x ≡ epoch_day start +ℤ to_z w64 (of_z w64 number)) → r ≡ Ok d → (pos 1 ≤ℤ d.year) × IsDate (unsigned_abs d.year) d.month d.day × (number_of_day d.year d.month d.day ≡ number)
date_from epoch start d number r e same low fits h is =
    let there = rw is at h in
    date_found epoch d number e low (rw (to_z-of_z fits, same) at there)

number_cast : (z : ℤ) → FitsSigned w32 z → to_z w64 (of_z w64 (to_z w32 (of_z w32 z))) ≡ z
number_cast z h =
    let long : FitsSigned w64 z = omega (arith, signed_arith) in
    rw (to_z-of_z h) (to_z-of_z long)

year_cast : (z : ℤ) → pos 1 ≤ℤ z → z ≤ℤ pos 9999 → to_z w16 (of_z w16 (to_z w32 (of_z w32 z))) ≡ z
year_cast z low high =
    let short : FitsSigned w16 z = omega (arith, signed_arith) in
    let long : FitsSigned w32 z = omega (arith, signed_arith) in
    rw (to_z-of_z long) (to_z-of_z short)

byte_cast : (n : ℕ) → n ≤ 31 → to_z w8 n ≡ pos n
byte_cast n h = omega (arith, signed_casts)

-- what jiff says of the numbers that are passed to it, in the definitions' words
pub number_found : (d : Date) (year z : ℤ) (month day : ℕ) → pos 1 ≤ℤ year → year ≤ℤ pos 9999 → month ≤ 12 → day ≤ 31 → IsYmd (to_z w16 (of_z w16 (to_z w32 (of_z w32 year)))) (to_z w8 month) (to_z w8 day) d → z ≡ epoch_day d → jiff.IsEpochDay z → to_z w64 (of_z w64 (to_z w32 (of_z w32 z))) ≡ number_of_day year month day
number_found d year z month day low high m n h e bound =
    let fits : FitsSigned w32 z = omega (arith, signed_arith) in
    let h' = rw (year_cast year low high, byte_cast month (omega arith), byte_cast day n) at h in
    rw (number_cast z fits) (e ∙ number_of_jiff d year month day low h')

first_year : (year : ℕ) → 366 ≤ days_before_year (suc year)
unfolding days_before_year
first_year zero = omega arith
first_year (suc year) = omega (arith, first_year year)

-- no number is less than that of 0001-01-01
pub number_low : (year : ℤ) (month day : ℕ) → pos 1 ≤ℤ year → negsuc 719_161 ≤ℤ number_of_day year month day
number_low (pos zero) month day h = absurd (omega (arith, signed_arith))
number_low (pos (suc n)) month day h = omega (arith, signed_arith, first_year n)
number_low (negsuc n) month day h = absurd (omega (arith, signed_arith))

-- 400 years later, by the signed year
pub date_later : (year late : ℤ) (month day : ℕ) → pos 1 ≤ℤ year → late ≡ year +ℤ pos 400 → IsDate (unsigned_abs year) month day → IsDate (unsigned_abs late) month day
date_later (pos n) late month day low e h = rw e (rw (days_in_month-later n month) h)
date_later (negsuc n) late month day low e h = absurd (omega (arith, signed_arith))

pub number_of_later : (year late : ℤ) (month day : ℕ) → pos 1 ≤ℤ year → late ≡ year +ℤ pos 400 → number_of_day late month day ≡ number_of_day year month day +ℤ pos 146_097
number_of_later (pos n) late month day low e = rw e (number-later n month day)
number_of_later (negsuc n) late month day low e = absurd (omega (arith, signed_arith))

-- a date of the definitions is one of jiff's
to_jiff : (year month day : ℕ) → year ≤ 9999 → IsDate year month day → jiff.IsCivilDate (pos year) month day
to_jiff year month day high h = (omega (arith, signed_arith), (h.0, h.1), (h.2, h.3))

-- dates up to the year 9601 are at most 9601-12-31, which is 400 years before the last day
pub number_high : (year : ℤ) (month day : ℕ) → pos 1 ≤ℤ year → year ≤ℤ pos 9601 → IsDate (unsigned_abs year) month day → number_of_day year month day ≤ℤ pos 2_787_530
unfolding days_before_year days_of_months
number_high (pos n) month day low high h =
    let small : n ≤ 9601 = omega (arith, signed_arith) in
    omega (arith, signed_arith, day_count-lt_year (pos n) month day (pos 9602) 1 1 (to_jiff n month day (omega arith) h) (omega arith) (omega (arith, signed_arith)), count_same n month day h.2, count_same 9602 1 1 (omega arith))
number_high (negsuc n) month day low high h = absurd (omega (arith, signed_arith))

-- and a later date is later than that
pub year_high : (year : ℤ) (month day : ℕ) → pos 1 ≤ℤ year → IsDate (unsigned_abs year) month day → number_of_day year month day ≤ℤ pos 2_787_530 → year ≤ℤ pos 9601
unfolding days_before_year days_of_months
year_high (pos n) month day low h bound =
    by_lt_z (pos 9601) (pos n)
    (λ lt. absurd (omega (arith, signed_arith, day_count-lt_year (pos 9601) 12 31 (pos n) month day (omega (arith, signed_arith), (omega arith, omega arith), (omega arith, omega arith)) h.2 lt, count_same n month day h.2, count_same 9601 12 31 (omega arith))))
    (λ ge. ge)
year_high (negsuc n) month day low h bound = absurd (omega (arith, signed_arith))

date_earlier : (year late : ℤ) (month day : ℕ) → pos 1 ≤ℤ year → late ≡ year +ℤ pos 400 → IsDate (unsigned_abs late) month day → IsDate (unsigned_abs year) month day
date_earlier (pos n) late month day low e h =
    let there = rw e at h in
    let last = rw (days_in_month-later n month) at there.3 in
    (there.0, there.1, there.2, last)
date_earlier (negsuc n) late month day low e h = absurd (omega (arith, signed_arith))

-- a date of the years 10000 and 10001, by the one 400 years earlier
pub record Late (year early : ℤ) (month day : ℕ) : Type 0 where
  pub date : IsDate (unsigned_abs early) month day ↔ IsDate (unsigned_abs year) month day
  pub number : number_of_day year month day ≡ number_of_day early month day +ℤ pos 146_097
  pub high : IsDate (unsigned_abs early) month day → number_of_day early month day ≤ℤ pos 2_787_530

pub late : (year early : ℤ) (month day : ℕ) → pos 10_000 ≤ℤ year → year ≤ℤ pos 10_001 → early +ℤ pos 400 ≡ year → Late year early month day
late year early month day low high e =
    let first : pos 1 ≤ℤ early = omega (arith, signed_arith) in
    let last : early ≤ℤ pos 9601 = omega (arith, signed_arith) in
    record {
      date = (date_later early year month day first (sym e), date_earlier early year month day first (sym e));
      number = number_of_later early year month day first (sym e);
      high = number_high early month day first last;
    }
