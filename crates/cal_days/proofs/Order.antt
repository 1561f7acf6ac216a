-- Later dates have more days before them, so no two have one number.
use Rattle.std.proofs.Common.{◌≡◌, ◌∙◌, ℕ, zero, suc, ◌+◌, ◌-◌, ◌<◌, ◌≤◌, inl, inr, refl, sym, arith, pos}
use Rattle.std.proofs.lemmas.Bool.{cases_order}
use Rattle.jiff_core.proofs.CalendarLemmas.{days_of_months_all}
use Rattle.jiff_core.proofs.SignedLemmas.{signed_arith}
use Rattle.profile.specs.series.Days.{IsDate, days_in_year, days_in_month, days_before_year, days_of_months, days_before, number_of_date}
use Rattle.cal_days.proofs.Bridge.{months_same}

pub years_step : (year : ℕ) → days_before_year (suc year) ≡ days_before_year year + days_in_year year
unfolding days_before_year
years_step year = refl

years_grow : (year more : ℕ) → days_before_year year ≤ days_before_year (more + year)
years_grow year zero = let same : 0 + year ≡ year = omega arith in rw same (omega arith)
years_grow year (suc more) =
    let next : suc more + year ≡ suc (more + year) = omega arith in
    rw next (omega (arith, years_grow year more, years_step (more + year)))

-- a later year begins after the days of this one
years_apart : (year late : ℕ) → year < late → days_before_year year + days_in_year year ≤ days_before_year late
years_apart year late h =
    let same : (late - suc year) + suc year ≡ late = omega arith in
    omega (arith, years_step year, rw same at (years_grow (suc year) (late - suc year)))

pub months_step : (year month : ℕ) → 1 ≤ month → days_of_months year month ≡ days_of_months year (month - 1) + days_in_month year month
unfolding days_of_months
months_step year zero h = absurd (omega arith)
months_step year (suc month) h = let back : suc month - 1 ≡ month = omega arith in rw back refl

months_grow : (year month more : ℕ) → days_of_months year month ≤ days_of_months year (more + month)
months_grow year month zero = let same : 0 + month ≡ month = omega arith in rw same (omega arith)
months_grow year month (suc more) =
    let back : suc more + month - 1 ≡ more + month = omega arith in
    omega (arith, months_grow year month more, rw back at (months_step year (suc more + month) (omega arith)))

-- a later month begins after the days of this one
months_apart : (year month late : ℕ) → 1 ≤ month → month < late → days_of_months year (month - 1) + days_in_month year month ≤ days_of_months year (late - 1)
months_apart year month late first h =
    let same : (late - 1 - month) + month ≡ late - 1 = omega arith in
    omega (arith, months_step year month first, rw same at (months_grow year month (late - 1 - month)))

pub year_length : (year : ℕ) → days_of_months year 12 ≡ days_in_year year
year_length year = sym (months_same year 12) ∙ days_of_months_all (pos year)

-- a date is among the days of its year
in_year : (year month day : ℕ) → IsDate year month day → days_of_months year (month - 1) + day ≤ days_in_year year
in_year year month day h =
    let rest : (12 - month) + month ≡ 12 = omega (arith, h.1) in
    omega (arith, months_step year month h.0, rw rest at (months_grow year month (12 - month)), year_length year, h.3)

same_year : (y m d z n e : ℕ) → IsDate y m d → IsDate z n e → days_before y m d ≡ days_before z n e → y ≡ z
same_year y m d z n e h k same =
    elim (cases_order y z) [
      | inl x ↦ x
      | inr (inl lt) ↦ absurd (omega (arith, years_apart y z lt, in_year y m d h, h.2, k.2, same))
      | inr (inr gt) ↦ absurd (omega (arith, years_apart z y gt, in_year z n e k, h.2, k.2, same))
    ]

same_month : (y m d n e : ℕ) → IsDate y m d → IsDate y n e → days_before y m d ≡ days_before y n e → m ≡ n
same_month y m d n e h k same =
    elim (cases_order m n) [
      | inl x ↦ x
      | inr (inl lt) ↦ absurd (omega (arith, months_apart y m n h.0 lt, h.2, h.3, k.2, same))
      | inr (inr gt) ↦ absurd (omega (arith, months_apart y n m k.0 gt, h.2, k.2, k.3, same))
    ]

same_day : (y m d e : ℕ) → 1 ≤ d → 1 ≤ e → days_before y m d ≡ days_before y m e → d ≡ e
same_day y m d e h k same = omega (arith, same)

by_months : (y m d n e : ℕ) → IsDate y m d → IsDate y n e → days_before y m d ≡ days_before y n e → (m ≡ n) × (d ≡ e)
by_months y m d n e h k same =
    let month = same_month y m d n e h k same in
    (month, same_day y n d e h.2 k.2 (rw month at same))

by_years : (y m d z n e : ℕ) → y ≡ z → IsDate y m d → IsDate z n e → days_before y m d ≡ days_before z n e → (y ≡ z) × (m ≡ n) × (d ≡ e)
by_years y m d z n e year h k same =
    let rest = by_months z m d n e (rw year at h) k (rw year at same) in
    (year, rest.0, rest.1)

-- no two dates have the same number of days before them
pub one_count : (y m d z n e : ℕ) → IsDate y m d → IsDate z n e → days_before y m d ≡ days_before z n e → (y ≡ z) × (m ≡ n) × (d ≡ e)
one_count y m d z n e h k same = by_years y m d z n e (same_year y m d z n e h k same) h k same

pub one_number : (y m d z n e : ℕ) → IsDate y m d → IsDate z n e → number_of_date y m d ≡ number_of_date z n e → (y ≡ z) × (m ≡ n) × (d ≡ e)
one_number y m d z n e h k same =
    let count : days_before y m d ≡ days_before z n e = omega (arith, signed_arith, same) in
    one_count y m d z n e h k count
