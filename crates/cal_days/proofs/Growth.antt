-- Periods follow one another, each at least as long as the shortest.
use Rattle.std.proofs.Common.{◌≡◌, ◌∙◌, ap, sym, refl, inl, inr, ℕ, zero, suc, ◌+◌, ◌-◌, ◌*◌, ◌/◌, ◌%◌, ◌<◌, ◌≤◌, arith}
use Rattle.std.proofs.lemmas.Bool.{cases_lt}
use Rattle.std.proofs.lemmas.Bool.Decides.{nat_tests}
use Rattle.profile.specs.series.Days.{Frequency, Daily, Weekly, Monthly, Yearly, days_in_year, days_in_month, days_of_months, year_start, year_of, month_of, year_days_before, month_days_before, period_of, shortest_period}
use Rattle.cal_days.proofs.Order.{year_length, months_step}
use Rattle.cal_days.proofs.Dates.{year_start-step, year_begins, year_ends, months_from_0, month_begins, month_range, in_month}

-- a day between the beginnings of a period and of the next
pub record Within (starts : ℕ → ℕ) (n period : ℕ) : Type 0 where
  pub begins : starts period ≤ n
  pub ends : n < starts (suc period)

module _ (starts : ℕ → ℕ) (short : ℕ) (grow : (period : ℕ) → starts period + short ≤ starts (suc period)) where
  apart : (period more : ℕ) → starts period + short * more ≤ starts (period + more)
  apart period zero = let e : period + 0 ≡ period = omega arith in rw e (omega arith)
  apart period (suc more) =
      let e : period + suc more ≡ suc (period + more) = omega arith in
      rw e (omega (arith, apart period more, grow (period + more)))

  pub ascends : (n later a b : ℕ) → Within starts n a → Within starts later b → n ≤ later → a ≤ b
  ascends n later a b h k order =
      elim (cases_lt b a) [
        | inl lt ↦
            let e : suc b + (a - suc b) ≡ a = omega arith in
            absurd (omega (arith, h.begins, k.ends, rw e at (apart (suc b) (a - suc b))))
        | inr ge ↦ ge
      ]

  pub lasts : (n later a b periods : ℕ) → Within starts n a → Within starts later b → later ≤ n + short * periods → b ≤ a + periods
  lasts n later a b periods h k order =
      elim (cases_lt (a + periods) b) [
        | inl lt ↦
            let e : suc a + (periods + (b - suc a - periods)) ≡ b = omega arith in
            absurd (omega (arith, h.ends, k.begins, rw e at (apart (suc a) (periods + (b - suc a - periods)))))
        | inr ge ↦ ge
      ]

pub year_short : (year : ℕ) → year_start year + 365 ≤ year_start (suc year)
year_short year =
    let least : 365 ≤ days_in_year year = grind (arith, nat_tests) in
    omega (arith, year_start-step year)

year_within : (n : ℕ) → Within year_start n (year_of n)
year_within n = record { begins = year_begins n; ends = year_ends n }

months_step_suc : (year month : ℕ) → days_of_months year (suc month) ≡ days_of_months year month + days_in_month year (suc month)
unfolding days_of_months
months_step_suc year month = refl

day_place : (n : ℕ) → year_start (year_of n) + days_of_months (year_of n) (month_of n - 1) + month_days_before n ≡ n
unfolding month_days_before year_days_before
day_place n = omega (arith, year_begins n, month_begins n)

-- the beginning of a month, by its number from 0000-01
month_start : ℕ → ℕ
month_start month = year_start (month / 12) + days_of_months (month / 12) (month % 12)

month_next : (month : ℕ) → month_start (suc month) ≡ month_start month + days_in_month (month / 12) (suc (month % 12))
unfolding month_start
month_next month =
    let y = month / 12 in
    let step : days_of_months y (suc (month % 12)) ≡ days_of_months y (month % 12) + days_in_month y (suc (month % 12)) = months_step_suc y (month % 12) in
    elim (cases_lt (month % 12) 11) [
      | inl lt ↦
          let a : suc month / 12 ≡ y = omega arith in
          let b : suc month % 12 ≡ suc (month % 12) = omega arith in
          rw (a, b) (omega (arith, step))
      | inr ge ↦
          let a : suc month / 12 ≡ suc y = omega arith in
          let b : suc month % 12 ≡ 0 = omega arith in
          let last : month % 12 ≡ 11 = omega arith in
          rw (a, b, last) (omega (arith, rw last at step, year_length y, year_start-step y, months_from_0 (suc y)))
    ]

month_short : (month : ℕ) → month_start month + 28 ≤ month_start (suc month)
month_short month =
    let least : 28 ≤ days_in_month (month / 12) (suc (month % 12)) = grind (arith, nat_tests) in
    omega (arith, month_next month)

month_within : (n : ℕ) → Within month_start n (12 * year_of n + (month_of n - 1))
unfolding month_start
month_within n =
    let q = 12 * year_of n + (month_of n - 1) in
    let range = month_range n in
    let y : q / 12 ≡ year_of n = omega arith in
    let m : q % 12 ≡ month_of n - 1 = omega arith in
    let here : month_start q + month_days_before n ≡ n = rw (y, m) (day_place n) in
    let number : suc (month_of n - 1) ≡ month_of n = omega arith in
    let length : days_in_month (q / 12) (suc (q % 12)) ≡ days_in_month (year_of n) (month_of n) = rw (y, m, number) refl in
    record { begins = omega (arith, here); ends = omega (arith, here, month_next q, length, in_month n) }

pub ascend : (frequency : Frequency) (week_start n later : ℕ) → n ≤ later → period_of frequency week_start n ≤ period_of frequency week_start later
unfolding period_of
ascend Daily week_start n later h = h
ascend Weekly week_start n later h = omega arith
ascend Monthly week_start n later h =
    omega (arith, month_range n, month_range later, ascends month_start 28 month_short n later _ _ (month_within n) (month_within later) h)
ascend Yearly week_start n later h = ascends year_start 365 year_short n later _ _ (year_within n) (year_within later) h

pub last : (frequency : Frequency) (week_start n later periods : ℕ) → later ≤ n + shortest_period frequency * periods → period_of frequency week_start later ≤ period_of frequency week_start n + periods
unfolding period_of
last Daily week_start n later periods h = omega arith
last Weekly week_start n later periods h = omega arith
last Monthly week_start n later periods h =
    omega (arith, month_range n, month_range later, lasts month_start 28 month_short n later _ _ periods (month_within n) (month_within later) h)
last Yearly week_start n later periods h = lasts year_start 365 year_short n later _ _ periods (year_within n) (year_within later) h
