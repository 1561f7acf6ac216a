-- The day of a year is the one base day that its rule has there.
use Rattle.std.proofs.Common.{◌≡◌, ◌∙◌, sym, refl, ℕ, suc, ◌+◌, ◌-◌, ◌/◌, ◌%◌, ◌<◌, Bool, true, ◌&&◌, ◌||◌, ◌==◌, arith, pos, negsuc}
use Rattle.std.proofs.lemmas.Bool.Decides.{nat_tests}
use Rattle.profile.specs.series.Days.{year_of, month_of, month_days_before, month_days_after, weekday_of, days_in_month, period_of}
use Rattle.profile.specs.series.Rules.{is_base, is_in_step, passes, passes_month, passes_month_day, passes_weekday, is_plain, is_nth}
use Rattle.cal_days.proofs.Dates.{date_counts, date_is}
use Rattle.cal_zones.specs.Shapes.{occurs_yearly, IsPlaceInMonth, yearly_pattern}
use Rattle.cal_zones.specs.Bases.{IsOnAsWritten}
use Rattle.cal_zones.specs.declared.yearly.MonthDays.{MonthDays}
use Rattle.cal_zones.specs.declared.yearly.MonthDays.TheVariants.{Day, FromStart, FromEnd, Week}
use Rattle.cal_zones.specs.declared.yearly.Yearly.{Yearly}

-- every year is in step
in_step : (month : ℕ) (days : MonthDays) (start n : ℕ) → is_in_step (yearly_pattern month days start) n ≡ true
unfolding is_in_step period_of
in_step month days start n = grind (arith, nat_tests)

-- what is left of the test, with the places of the day as numbers

-- the test of a rule, by the places of the day
test : (month : ℕ) (days : MonthDays) (m b a w : ℕ) → Bool
test month (Day d) m b a w = (month == m) && (d == suc b)
test month (FromStart k v) m b a w = (month == m) && ((v == w) && (is_plain (pos k) || is_nth (pos k) (b / 7) (a / 7)))
test month (FromEnd k v) m b a w = (month == m) && ((v == w) && is_nth (negsuc (k - 1)) (b / 7) (a / 7))
test month (Week d v) m b a w = (month == m) && ((d == suc b) || (d + 1 == suc b) || (d + 2 == suc b) || (d + 3 == suc b) || (d + 4 == suc b) || (d + 5 == suc b) || (d + 6 == suc b)) && (v == w)

tested : (month : ℕ) (days : MonthDays) (start n : ℕ) → is_base (yearly_pattern month days start) n ≡ test month days (month_of n) (month_days_before n) (month_days_after n) (weekday_of n)
unfolding test is_base passes passes_month passes_month_day passes_weekday
tested month (Day d) start n = rw (in_step month (Day d) start n) (grind (arith, nat_tests))
tested month (FromStart k v) start n = rw (in_step month (FromStart k v) start n) (grind (arith, nat_tests))
tested month (FromEnd k v) start n = rw (in_step month (FromEnd k v) start n) (grind (arith, nat_tests))
tested month (Week d v) start n = rw (in_step month (Week d v) start n) (grind (arith, nat_tests))

passed : (month : ℕ) (days : MonthDays) (m b a w first length : ℕ) → occurs_yearly month days ≡ true → w ≡ (first + b + 5) % 7 → a ≡ length - b - 1 → b < length → test month days m b a w ≡ true → (m ≡ month) × IsPlaceInMonth days first length b
unfolding test
passed month (Day d) m b a w first length y e f g t = (grind (arith, nat_tests), grind (arith, nat_tests))
passed month (FromStart k v) m b a w first length y e f g t =
    (grind (arith, nat_tests), (grind (arith, nat_tests), grind (arith, nat_tests), grind (arith, nat_tests)))
passed month (FromEnd k v) m b a w first length y e f g t =
    (grind (arith, nat_tests), (grind (arith, nat_tests), grind (arith, nat_tests), grind (arith, nat_tests), g))
passed month (Week d v) m b a w first length y e f g t =
    (grind (arith, nat_tests), (grind (arith, nat_tests), grind (arith, nat_tests), grind (arith, nat_tests)))

passes_back : (month : ℕ) (days : MonthDays) (m b a w first length : ℕ) → occurs_yearly month days ≡ true → w ≡ (first + b + 5) % 7 → a ≡ length - b - 1 → b < length → (m ≡ month) × IsPlaceInMonth days first length b → test month days m b a w ≡ true
unfolding test
passes_back month (Day d) m b a w first length y e f g t = grind (arith, nat_tests)
passes_back month (FromStart k v) m b a w first length y e f g t = grind (arith, nat_tests)
passes_back month (FromEnd k v) m b a w first length y e f g t = grind (arith, nat_tests)
passes_back month (Week d v) m b a w first length y e f g t = grind (arith, nat_tests)

weekday_is : (n : ℕ) → weekday_of n ≡ (n - month_days_before n + month_days_before n + 5) % 7
unfolding weekday_of
weekday_is n = let e : n - month_days_before n + month_days_before n ≡ n = omega (arith, date_counts n) in rw e refl

after_is : (n : ℕ) → month_days_after n ≡ days_in_month (year_of n) (month_of n) - month_days_before n - 1
unfolding month_days_after
after_is n = refl

pub base_is : (r : Yearly) (start n : ℕ) → IsOnAsWritten r start n
base_is r start n =
    let within : month_days_before n < days_in_month (year_of n) (month_of n) = omega (arith, (date_is n).3) in
    (λ t. passed r.month r.days _ _ _ _ _ _ r.yearly (weekday_is n) (after_is n) within (sym (tested r.month r.days start n) ∙ t), λ h. tested r.month r.days start n ∙ passes_back r.month r.days _ _ _ _ _ _ r.yearly (weekday_is n) (after_is n) within h)
