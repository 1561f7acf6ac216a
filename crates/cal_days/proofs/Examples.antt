-- Worked dates, by the definitions alone.
use Rattle.std.proofs.Common.{◌≡◌, refl, pos, negsuc, arith}
use Rattle.profile.specs.series.Days.{days_before_year, days_of_months, days_before, days_before_1970, number_of_date, IsDate}

epoch : days_before 1970 1 1 ≡ days_before_1970
unfolding days_before_year days_of_months
epoch = refl

first_of_2025 : number_of_date 2025 1 1 ≡ pos 20_089
unfolding days_before_year days_of_months
first_of_2025 = refl

first_of_10000 : number_of_date 10000 1 1 ≡ pos 2_932_897
unfolding days_before_year days_of_months
first_of_10000 = refl

-- the leap day of 2024
leap_day : number_of_date 2024 2 29 ≡ pos 19_782
unfolding days_before_year days_of_months
leap_day = refl

-- 0001-01-01
first : number_of_date 1 1 1 ≡ negsuc 719_161
unfolding days_before_year days_of_months
first = refl

-- 2025 has no leap day
no_leap_day : IsDate 2025 2 29 → ⊥
no_leap_day (from_first, to_last, positive, within) = omega (within, arith)
