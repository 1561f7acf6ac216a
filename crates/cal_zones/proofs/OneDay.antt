-- The one day a year of a rule: where it is, and how it repeats.
use Rattle.std.proofs.Common.{◌≡◌, ◌∙◌, ap, sym, inl, inr, ℕ, zero, suc, ◌+◌, ◌-◌, ◌*◌, ◌/◌, ◌<◌, ◌≤◌, true, arith, ℤ, pos, ◌+ℤ◌, ◌-ℤ◌}
use Rattle.std.proofs.lemmas.Bool.Decides.{nat_tests}
use Rattle.std.proofs.lemmas.Bool.{cases_order, cases_lt}
use Rattle.jiff_core.proofs.SignedLemmas.{signed_arith, one_part}
use Rattle.profile.specs.series.Days.{days_before, days_in_month, year_start, year_of, month_of, month_days_before, IsDate, day_index, number_of_day}
use Rattle.cal_days.proofs.Dates.{named, named_later, month_days_before_later, date_counts, year_begins, year_ends}
use Rattle.cal_days.proofs.Bridge.{days_in_month-later}
use Rattle.cal_zones.specs.Shapes.{occurs_yearly, IsPlaceInMonth}
use Rattle.cal_zones.specs.Yearly.{IsOn, IsDayOfYear, IsLatestDay, IsFirstDay, HasEarlier}
use Rattle.cal_zones.specs.declared.yearly.MonthDays.{MonthDays}
use Rattle.cal_zones.specs.declared.yearly.MonthDays.TheVariants.{Day, FromStart, FromEnd, Week}
use Rattle.cal_zones.specs.declared.yearly.Yearly.{Yearly}

-- a day's index, by the signed number
count_of_number : (count : ℕ) (number : ℤ) → pos count -ℤ pos 719_528 ≡ number → count ≡ day_index number
count_of_number count number e = omega (arith, signed_arith, one_part (number +ℤ pos 719_528))

-- a month has at least 28 days, and is never shorter than in the year 1
pub month_least : (year month : ℕ) → (28 ≤ days_in_month year month) × (days_in_month 1 month ≤ days_in_month year month)
month_least year month = (grind (arith, nat_tests), grind (arith, nat_tests))

yearly_month : (month : ℕ) (days : MonthDays) → occurs_yearly month days ≡ true → (1 ≤ month) × (month ≤ 12)
yearly_month month (Day d) h = (grind (arith, nat_tests), grind (arith, nat_tests))
yearly_month month (FromStart k w) h = (grind (arith, nat_tests), grind (arith, nat_tests))
yearly_month month (FromEnd k w) h = (grind (arith, nat_tests), grind (arith, nat_tests))
yearly_month month (Week d w) h = (grind (arith, nat_tests), grind (arith, nat_tests))

-- the day is in the month
place_within : (month : ℕ) (days : MonthDays) (first length before : ℕ) → occurs_yearly month days ≡ true → 28 ≤ length → days_in_month 1 month ≤ length → IsPlaceInMonth days first length before → before < length
place_within month (Day d) first length before h long least place = grind (arith, nat_tests)
place_within month (FromStart k w) first length before h long least place =
    let few : k ≤ 4 = grind (arith, nat_tests) in
    omega (arith, place)
place_within month (FromEnd k w) first length before h long least place = place.3
place_within month (Week d w) first length before h long least place =
    let end : d + 6 ≤ days_in_month 1 month = grind (arith, nat_tests) in
    omega (arith, place)

-- the day that is there in that month of that year
pub placed_in : (r : Yearly) (year index length before : ℕ) → index ≡ days_before year r.month 1 → length ≡ days_in_month year r.month → IsPlaceInMonth r.days index length before → IsDayOfYear r year (index + before)
placed_in r year index length before i l place =
    let month = yearly_month r.month r.days r.yearly in
    let short = month_least year r.month in
    let within : before < length = place_within r.month r.days index length before r.yearly (rw l short.0) (rw l short.1) place in
    let date : IsDate year r.month (suc before) = (month.0, month.1, omega arith, omega arith) in
    let k = named (index + before) year r.month (suc before) date (omega arith) in
    let there : month_days_before (index + before) ≡ before = omega (arith, k.day) in
    let back : index + before - before ≡ index = omega arith in
    record { on = (k.month, rw (there, back, k.year, k.month, sym l) place); in_year = k.year }

pub placed : (r : Yearly) (year index length before : ℕ) (first : ℤ) → first ≡ number_of_day (pos year) r.month 1 → index ≡ day_index first → length ≡ days_in_month (year_of index) (month_of index) → IsPlaceInMonth r.days index length before → IsDayOfYear r year (index + before)
placed r year index length before first f i l place =
    let month = yearly_month r.month r.days r.yearly in
    let short = month_least year r.month in
    let count : index ≡ days_before year r.month 1 = i ∙ sym (count_of_number (days_before year r.month 1) first (sym f)) in
    let k = named index year r.month 1 (month.0, month.1, omega arith, omega (arith, short)) (sym count) in
    placed_in r year index length before count (l ∙ ap (λ y. days_in_month y (month_of index)) k.year ∙ ap (days_in_month year) k.month) place

-- a later year begins later
pub year_start_grows : (year late : ℕ) → year ≤ late → year_start year ≤ year_start late
year_start_grows year late h = omega arith

pub year_earlier : (n k : ℕ) → year_of n < year_of k → n < k
year_earlier n k h = omega (arith, year_ends n, year_begins k, year_start_grows (suc (year_of n)) (year_of k) (omega arith))

pub year_monotone : (n k : ℕ) → n ≤ k → year_of n ≤ year_of k
year_monotone n k h =
    elim (cases_lt (year_of k) (year_of n)) [
      | inl lt ↦ absurd (omega (arith, year_earlier k n lt))
      | inr ge ↦ ge
    ]

-- two days at one place of a month are one
same_place : (days : MonthDays) (first length b c : ℕ) → IsPlaceInMonth days first length b → IsPlaceInMonth days first length c → b ≡ c
same_place (Day d) first length b c h k = omega (arith, h, k)
same_place (FromStart j w) first length b c h k = omega (arith, h, k)
same_place (FromEnd j w) first length b c h k = omega (arith, h, k)
same_place (Week d w) first length b c h k = omega (arith, h, k)

-- the first day of a day's month
month_first : (n : ℕ) → n - month_days_before n ≡ days_before (year_of n) (month_of n) 1
month_first n = omega (arith, date_counts n)

month_within : (n : ℕ) → month_days_before n ≤ n
month_within n = omega (arith, date_counts n)

-- there is one in a year
pub one_a_year : (r : Yearly) (n k : ℕ) → IsOn r n → IsOn r k → year_of n ≡ year_of k → n ≡ k
one_a_year r n k h j e =
    let here = rw (month_first n, h.0, e) at h.1 in
    let there = rw (month_first k, j.0) at j.1 in
    let same = same_place r.days _ _ _ _ here there in
    let firsts : n - month_days_before n ≡ k - month_days_before k = month_first n ∙ ap (λ y. days_before y (month_of n) 1) e ∙ ap (λ m. days_before (year_of k) m 1) (h.0 ∙ sym j.0) ∙ sym (month_first k) in
    omega (arith, month_within n, month_within k)

-- it is the same 400 years later
place_later : (days : MonthDays) (first length before : ℕ) → IsPlaceInMonth days first length before → IsPlaceInMonth days (first + 146_097) length before
place_later (Day d) first length before h = h
place_later (FromStart j w) first length before h = (omega (arith, h), h.1, h.2)
place_later (FromEnd j w) first length before h = (omega (arith, h), h.1, h.2, h.3)
place_later (Week d w) first length before h = (omega (arith, h), h.1, h.2)

place_earlier : (days : MonthDays) (first length before : ℕ) → IsPlaceInMonth days (first + 146_097) length before → IsPlaceInMonth days first length before
place_earlier (Day d) first length before h = h
place_earlier (FromStart j w) first length before h = (omega (arith, h), h.1, h.2)
place_earlier (FromEnd j w) first length before h = (omega (arith, h), h.1, h.2, h.3)
place_earlier (Week d w) first length before h = (omega (arith, h), h.1, h.2)

pub on_later : (r : Yearly) (n : ℕ) → IsOn r n → IsOn r (n + 146_097)
on_later r n h =
    let k = named_later n in
    let first : n + 146_097 - month_days_before n ≡ n - month_days_before n + 146_097 = omega (arith, month_within n) in
    (k.month ∙ h.0, rw (month_days_before_later n, first, k.year, k.month, days_in_month-later (year_of n) (month_of n)) (place_later r.days _ _ _ h.1))

pub on_earlier : (r : Yearly) (n : ℕ) → IsOn r (n + 146_097) → IsOn r n
on_earlier r n h =
    let k = named_later n in
    let first : n + 146_097 - month_days_before n ≡ n - month_days_before n + 146_097 = omega (arith, month_within n) in
    (sym k.month ∙ h.0, place_earlier r.days _ _ _ (rw (month_days_before_later n, first, k.year, k.month, days_in_month-later (year_of n) (month_of n)) at h.1))

-- the same any number of 400 years later
pub on_cycles_later : (r : Yearly) (n cycles : ℕ) → IsOn r n → IsOn r (n + 146_097 * cycles)
on_cycles_later r n zero h = let e : n + 146_097 * 0 ≡ n = omega arith in rw e h
on_cycles_later r n (suc cycles) h =
    let e : n + 146_097 * suc cycles ≡ n + 146_097 * cycles + 146_097 = omega arith in
    rw e (on_later r (n + 146_097 * cycles) (on_cycles_later r n cycles h))

pub on_cycles_earlier : (r : Yearly) (n cycles : ℕ) → IsOn r (n + 146_097 * cycles) → IsOn r n
on_cycles_earlier r n zero h = let e : n + 146_097 * 0 ≡ n = omega arith in rw e at h
on_cycles_earlier r n (suc cycles) h =
    let e : n + 146_097 * suc cycles ≡ n + 146_097 * cycles + 146_097 = omega arith in
    on_cycles_earlier r n cycles (on_earlier r (n + 146_097 * cycles) (rw e at h))

pub latest_cycles_later : (r : Yearly) (n day cycles : ℕ) → IsLatestDay r n day → IsLatestDay r (n + 146_097 * cycles) (day + 146_097 * cycles)
latest_cycles_later r n day cycles h = record {
  on = on_cycles_later r day cycles h.on;
  within = omega (arith, h.within);
  latest = λ other o w.
      elim (cases_lt other (146_097 * cycles)) [
        | inl lt ↦ omega arith
        | inr ge ↦
            let e : other ≡ (other - 146_097 * cycles) + 146_097 * cycles = omega arith in
            let early = on_cycles_earlier r (other - 146_097 * cycles) cycles (rw (sym e) o) in
            omega (arith, h.latest (other - 146_097 * cycles) early (omega arith))
      ];
}

-- the latest is that of the day's own year, or of the year before
pub latest_same_year : (r : Yearly) (n day : ℕ) → IsDayOfYear r (year_of n) day → day ≤ n → IsLatestDay r n day
latest_same_year r n day h within = record {
  on = h.on;
  within = within;
  latest = λ other o w.
      elim (cases_order (year_of other) (year_of n)) [
        | inl e ↦ omega (arith, one_a_year r other day o h.on (e ∙ sym h.in_year))
        | inr (inl lt) ↦ omega (arith, year_earlier other day (rw h.in_year lt))
        | inr (inr gt) ↦ absurd (omega (arith, year_earlier n other gt))
      ];
}

pub latest_year_before : (r : Yearly) (n late day : ℕ) → IsDayOfYear r (year_of n) late → n < late → IsDayOfYear r (year_of n - 1) day → 1 ≤ year_of n → IsLatestDay r n day
latest_year_before r n late day l after h positive = record {
  on = h.on;
  within = let lt : year_of day < year_of n = omega (arith, h.in_year) in omega (arith, year_earlier day n lt);
  latest = λ other o w.
      elim (cases_order (year_of other) (year_of n)) [
        | inl e ↦ absurd (omega (arith, one_a_year r other late o l.on (e ∙ sym l.in_year)))
        | inr (inl lt) ↦
            elim (cases_order (year_of other) (year_of n - 1)) [
              | inl e ↦ omega (arith, one_a_year r other day o h.on (e ∙ sym h.in_year))
              | inr (inl less) ↦ omega (arith, year_earlier other day (rw h.in_year less))
              | inr (inr more) ↦ absurd (omega arith)
            ]
        | inr (inr gt) ↦ absurd (omega (arith, year_earlier n other gt))
      ];
}

-- the first is that of the day's own year, or of the next
pub first_same_year : (r : Yearly) (n day : ℕ) → IsDayOfYear r (year_of n) day → n ≤ day → IsFirstDay r n day
first_same_year r n day h from = record {
  on = h.on;
  from = from;
  least = λ other o w.
      elim (cases_order (year_of other) (year_of n)) [
        | inl e ↦ omega (arith, one_a_year r other day o h.on (e ∙ sym h.in_year))
        | inr (inl lt) ↦ absurd (omega (arith, year_earlier other n lt))
        | inr (inr gt) ↦ omega (arith, year_earlier day other (rw h.in_year gt))
      ];
}

pub first_year_after : (r : Yearly) (n early day : ℕ) → IsDayOfYear r (year_of n) early → early < n → IsDayOfYear r (year_of n + 1) day → IsFirstDay r n day
first_year_after r n early day l before h = record {
  on = h.on;
  from = let lt : year_of n < year_of day = omega (arith, h.in_year) in omega (arith, year_earlier n day lt);
  least = λ other o w.
      elim (cases_order (year_of other) (year_of n)) [
        | inl e ↦ absurd (omega (arith, one_a_year r other early o l.on (e ∙ sym l.in_year)))
        | inr (inl lt) ↦ absurd (omega (arith, year_earlier other n lt))
        | inr (inr gt) ↦
            elim (cases_order (year_of other) (year_of n + 1)) [
              | inl e ↦ omega (arith, one_a_year r other day o h.on (e ∙ sym h.in_year))
              | inr (inl less) ↦ absurd (omega arith)
              | inr (inr more) ↦ omega (arith, year_earlier day other (rw h.in_year more))
            ]
      ];
}

-- a day of this year or of the year before is near
pub day_near : (r : Yearly) (n year day : ℕ) → IsDayOfYear r year day → year_of n ≤ year + 1 → n < day + 732
day_near r n year day h near =
    let begins : year_start year ≤ day = rw h.in_year at (year_begins day) in
    let grows = year_start_grows (suc (year_of n)) (year + 2) (omega arith) in
    let two : year_start (year + 2) ≤ year_start year + 732 = omega arith in
    omega (arith, year_ends n)

-- a day with one of them before it, whose own year has it later, isn't of the year 1
pub second_year : (r : Yearly) (n late : ℕ) → HasEarlier r n → IsDayOfYear r (year_of n) late → n < late → 2 ≤ year_of n
second_year r n late (inl h) l after =
    elim (cases_lt (year_of n) 2) [
      | inl lt ↦ absurd (omega (arith, year_ends n, year_start_grows (suc (year_of n)) 2 (omega arith)))
      | inr ge ↦ ge
    ]
second_year r n late (inr (day, first, within, on)) l after =
    elim (cases_lt (year_of n) 2) [
      | inl lt ↦
          let from : 1 ≤ year_of day =
          elim (cases_lt (year_of day) 1) [
            | inl none ↦ absurd (omega (arith, year_ends day, year_start_grows (suc (year_of day)) 1 (omega arith)))
            | inr some ↦ some
          ] in
          let same : year_of day ≡ year_of late = omega (arith, year_monotone day n within, l.in_year) in
          absurd (omega (arith, one_a_year r day late on l.on same))
      | inr ge ↦ ge
    ]

-- this many cycles of 400 years earlier one of them is still before
pub earlier_cycles : (r : Yearly) (n cycles : ℕ) → cycles ≡ (n - 366) / 146_097 - 1 → HasEarlier r n → HasEarlier r (n - cycles * 146_097)
earlier_cycles r n zero e h = let same : n - 0 * 146_097 ≡ n = omega arith in rw same h
earlier_cycles r n (suc cycles) e h = inl (omega arith)

pub latest_cycles : (r : Yearly) (n day cycles : ℕ) → cycles * 146_097 ≤ n → IsLatestDay r (n - cycles * 146_097) day → IsLatestDay r n (day + cycles * 146_097)
latest_cycles r n day cycles within h =
    let there : (n - cycles * 146_097) + 146_097 * cycles ≡ n = omega arith in
    let flip : 146_097 * cycles ≡ cycles * 146_097 = omega arith in
    rw flip at (rw there at (latest_cycles_later r (n - cycles * 146_097) day cycles h))

-- the first is as many cycles later
pub first_cycles : (r : Yearly) (n day cycles : ℕ) → cycles * 146_097 ≤ n → IsFirstDay r (n - cycles * 146_097) day → IsFirstDay r n (day + cycles * 146_097)
first_cycles r n day cycles within h =
    let flip : 146_097 * cycles ≡ cycles * 146_097 = omega arith in
    record {
      on = rw flip at (on_cycles_later r day cycles h.on);
      from = let f = h.from in omega (arith, f, within);
      least = λ other o w.
          let e : other ≡ (other - 146_097 * cycles) + 146_097 * cycles = omega (arith, w, within) in
          let early = on_cycles_earlier r (other - 146_097 * cycles) cycles (rw (sym e) o) in
          let l = h.least (other - 146_097 * cycles) early (omega (arith, w, within)) in
          omega (arith, l, w, within);
    }

-- the years of the days up to 9999-12-31, and of the day found
pub year_range : (n : ℕ) → n ≤ 3_652_424 → year_of n ≤ 9999
year_range n h =
    elim (cases_lt 9999 (year_of n)) [
      | inl lt ↦ absurd (omega (arith, year_begins n, year_start_grows 10_000 (year_of n) (omega arith)))
      | inr ge ↦ ge
    ]

pub day_range : (day : ℕ) → year_of day ≤ 10_000 → day ≤ 3_653_155
day_range day h = omega (arith, year_ends day, year_start_grows (suc (year_of day)) 10_001 (omega arith))
