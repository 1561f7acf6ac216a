-- Worked days, by the definitions alone.
use Rattle.std.proofs.Common.{◌≡◌, ℕ, ℤ, pos, negsuc, refl, List, [], ◌∷◌, Option, Some, None, filter}
use Rattle.std.specs.List.{range_with_len}
use Rattle.profile.specs.series.Days.{Frequency, Daily, Weekly, Monthly, Yearly, day_index, greatest, year_of, month_of, year_days_before, year_days_after, month_days_before, month_days_after, weekday_of, period_of, days_of_months}
use Rattle.profile.specs.series.Rules.{WeekdayNumber, Rule, is_rule_day, is_within_count, is_counted, is_placed, mates_before, mates_after, is_mate, count_days, is_base, is_in_step, passes, passes_month, passes_month_day, passes_weekday, last_rule_day}

-- 2025-01-01 is a Wednesday
wednesday : weekday_of (day_index (pos 20_089)) ≡ 2
unfolding weekday_of
wednesday = refl

thursday : weekday_of (day_index (pos 0)) ≡ 3
unfolding weekday_of
thursday = refl

year_2025 : year_of (day_index (pos 20_089)) ≡ 2025
unfolding year_of greatest
year_2025 = refl

year_2024 : year_of (day_index (pos 20_088)) ≡ 2024
unfolding year_of greatest
year_2024 = refl

year_10000 : year_of (day_index (pos 2_932_897)) ≡ 10_000
unfolding year_of greatest
year_10000 = refl

-- 2024-02-29
leap_month : month_of (day_index (pos 19_782)) ≡ 2
unfolding month_of year_days_before year_of greatest days_of_months
leap_month = refl

-- ---- rules, of RFC 5545 3.8.5.3 where nothing else is said

-- an entry of BYDAY without a number, and with one
plain : ℕ → WeekdayNumber
plain weekday = record { number = pos 0; weekday = weekday }

numbered : ℤ → ℕ → WeekdayNumber
numbered number weekday = record { number = number; weekday = weekday }

-- a rule by FREQ, INTERVAL, WKST, BYMONTH, BYMONTHDAY, BYDAY, BYSETPOS, the index of DTSTART, and COUNT
rule : Frequency → ℕ → ℕ → List ℕ → List ℤ → List WeekdayNumber → List ℤ → ℕ → Option ℕ → Rule
rule frequency interval week_start months month_days weekdays positions start count = record {
  pattern = record {
    frequency = frequency;
    interval = interval;
    week_start = week_start;
    months = months;
    month_days = month_days;
    weekdays = weekdays;
    positions = positions;
    start = start;
  };
  count = count;
  last = last_rule_day;
  until = None;
}

-- the rule days among this many days from one on
days_in : Rule → ℕ → ℕ → List ℕ
days_in r from days = filter (is_rule_day r) (range_with_len from days)

-- FREQ=DAILY;COUNT=10 from 1997-09-02: DTSTART is the first, and none is counted before it
ten_days : days_in (rule Daily 1 0 [] [] [] [] 729_634 (Some 10)) 729_626 40 ≡ 729_634 ∷ 729_635 ∷ 729_636 ∷ 729_637 ∷ 729_638 ∷ 729_639 ∷ 729_640 ∷ 729_641 ∷ 729_642 ∷ 729_643 ∷ []
unfolding days_in rule plain numbered is_rule_day is_within_count is_counted is_placed mates_before mates_after is_mate count_days is_base is_in_step passes passes_month passes_month_day passes_weekday weekday_of year_days_before year_days_after month_days_before month_days_after month_of year_of greatest days_of_months period_of
ten_days = refl

-- FREQ=DAILY;INTERVAL=10;COUNT=5
every_tenth_day : days_in (rule Daily 10 0 [] [] [] [] 729_634 (Some 5)) 729_634 60 ≡ 729_634 ∷ 729_644 ∷ 729_654 ∷ 729_664 ∷ 729_674 ∷ []
unfolding days_in rule plain numbered is_rule_day is_within_count is_counted is_placed mates_before mates_after is_mate count_days is_base is_in_step passes passes_month passes_month_day passes_weekday weekday_of year_days_before year_days_after month_days_before month_days_after month_of year_of greatest days_of_months period_of
every_tenth_day = refl

-- FREQ=WEEKLY;INTERVAL=2;COUNT=4;BYDAY=TU,SU;WKST=MO from 1997-08-05
weeks_from_monday : days_in (rule Weekly 2 0 [] [] (plain 1 ∷ plain 6 ∷ []) [] 729_606 (Some 4)) 729_602 40 ≡ 729_606 ∷ 729_611 ∷ 729_620 ∷ 729_625 ∷ []
unfolding days_in rule plain numbered is_rule_day is_within_count is_counted is_placed mates_before mates_after is_mate count_days is_base is_in_step passes passes_month passes_month_day passes_weekday weekday_of year_days_before year_days_after month_days_before month_days_after month_of year_of greatest days_of_months period_of
weeks_from_monday = refl

-- the same with WKST=SU
weeks_from_sunday : days_in (rule Weekly 2 6 [] [] (plain 1 ∷ plain 6 ∷ []) [] 729_606 (Some 4)) 729_602 40 ≡ 729_606 ∷ 729_618 ∷ 729_620 ∷ 729_632 ∷ []
unfolding days_in rule plain numbered is_rule_day is_within_count is_counted is_placed mates_before mates_after is_mate count_days is_base is_in_step passes passes_month passes_month_day passes_weekday weekday_of year_days_before year_days_after month_days_before month_days_after month_of year_of greatest days_of_months period_of
weeks_from_sunday = refl

-- FREQ=MONTHLY;INTERVAL=2;BYDAY=1SU,-1SU from 1997-09-07
first_and_last_sunday : days_in (rule Monthly 2 0 [] [] (numbered (pos 1) 6 ∷ numbered (negsuc 0) 6 ∷ []) [] 729_639 None) 729_633 150 ≡ 729_639 ∷ 729_660 ∷ 729_695 ∷ 729_723 ∷ 729_758 ∷ 729_779 ∷ []
unfolding days_in rule plain numbered is_rule_day is_within_count is_counted is_placed mates_before mates_after is_mate count_days is_base is_in_step passes passes_month passes_month_day passes_weekday weekday_of year_days_before year_days_after month_days_before month_days_after month_of year_of greatest days_of_months period_of
first_and_last_sunday = refl

-- FREQ=MONTHLY;BYMONTHDAY=-3 from 1997-09-28
third_to_last_day : days_in (rule Monthly 1 0 [] (negsuc 2 ∷ []) [] [] 729_660 None) 729_633 180 ≡ 729_660 ∷ 729_691 ∷ 729_721 ∷ 729_752 ∷ 729_783 ∷ 729_811 ∷ []
unfolding days_in rule plain numbered is_rule_day is_within_count is_counted is_placed mates_before mates_after is_mate count_days is_base is_in_step passes passes_month passes_month_day passes_weekday weekday_of year_days_before year_days_after month_days_before month_days_after month_of year_of greatest days_of_months period_of
third_to_last_day = refl

-- FREQ=MONTHLY;BYDAY=FR;BYMONTHDAY=13 from 1998-02-13
friday_the_13th : days_in (rule Monthly 1 0 [] (pos 13 ∷ []) (plain 4 ∷ []) [] 729_798 None) 729_786 300 ≡ 729_798 ∷ 729_826 ∷ 730_071 ∷ []
unfolding days_in rule plain numbered is_rule_day is_within_count is_counted is_placed mates_before mates_after is_mate count_days is_base is_in_step passes passes_month passes_month_day passes_weekday weekday_of year_days_before year_days_after month_days_before month_days_after month_of year_of greatest days_of_months period_of
friday_the_13th = refl

-- FREQ=MONTHLY;BYMONTHDAY=15,30 from 2007-01-15: days that don't exist are passed over
no_30_february : days_in (rule Monthly 1 0 [] (pos 15 ∷ pos 30 ∷ []) [] [] 733_056 None) 733_042 89 ≡ 733_056 ∷ 733_071 ∷ 733_087 ∷ 733_115 ∷ 733_130 ∷ []
unfolding days_in rule plain numbered is_rule_day is_within_count is_counted is_placed mates_before mates_after is_mate count_days is_base is_in_step passes passes_month passes_month_day passes_weekday weekday_of year_days_before year_days_after month_days_before month_days_after month_of year_of greatest days_of_months period_of
no_30_february = refl

-- FREQ=YEARLY;BYDAY=20MO from 1997-05-19: it counts in the year
twentieth_monday : days_in (rule Yearly 1 0 [] [] (numbered (pos 20) 0 ∷ []) [] 729_528 None) 729_510 380 ≡ 729_528 ∷ []
unfolding days_in rule plain numbered is_rule_day is_within_count is_counted is_placed mates_before mates_after is_mate count_days is_base is_in_step passes passes_month passes_month_day passes_weekday weekday_of year_days_before year_days_after month_days_before month_days_after month_of year_of greatest days_of_months period_of
twentieth_monday = refl

-- FREQ=YEARLY;BYMONTH=3;BYDAY=TH from 1997-03-13
thursdays_in_march : days_in (rule Yearly 1 0 (3 ∷ []) [] (plain 3 ∷ []) [] 729_461 None) 729_449 380 ≡ 729_461 ∷ 729_468 ∷ 729_475 ∷ 729_818 ∷ 729_825 ∷ []
unfolding days_in rule plain numbered is_rule_day is_within_count is_counted is_placed mates_before mates_after is_mate count_days is_base is_in_step passes passes_month passes_month_day passes_weekday weekday_of year_days_before year_days_after month_days_before month_days_after month_of year_of greatest days_of_months period_of
thursdays_in_march = refl

-- FREQ=YEARLY;BYMONTH=6,7 from 1997-06-10: the month day is that of DTSTART
implied_month_day : days_in (rule Yearly 1 0 (6 ∷ 7 ∷ []) [] [] [] 729_550 None) 729_541 400 ≡ 729_550 ∷ 729_580 ∷ 729_915 ∷ []
unfolding days_in rule plain numbered is_rule_day is_within_count is_counted is_placed mates_before mates_after is_mate count_days is_base is_in_step passes passes_month passes_month_day passes_weekday weekday_of year_days_before year_days_after month_days_before month_days_after month_of year_of greatest days_of_months period_of
implied_month_day = refl

-- FREQ=YEARLY from 2024-02-29 (by hand): no day in 2025
leap_day : days_in (rule Yearly 1 0 [] [] [] [] 739_310 None) 739_251 731 ≡ 739_310 ∷ []
unfolding days_in rule plain numbered is_rule_day is_within_count is_counted is_placed mates_before mates_after is_mate count_days is_base is_in_step passes passes_month passes_month_day passes_weekday weekday_of year_days_before year_days_after month_days_before month_days_after month_of year_of greatest days_of_months period_of
leap_day = refl

-- FREQ=MONTHLY;COUNT=3;BYDAY=TU,WE,TH;BYSETPOS=3 from 1997-09-04: the days of September before it count for BYSETPOS, not for COUNT
third_instance : days_in (rule Monthly 1 0 [] [] (plain 1 ∷ plain 2 ∷ plain 3 ∷ []) (pos 3 ∷ []) 729_636 (Some 3)) 729_633 90 ≡ 729_636 ∷ 729_669 ∷ 729_699 ∷ []
unfolding days_in rule plain numbered is_rule_day is_within_count is_counted is_placed mates_before mates_after is_mate count_days is_base is_in_step passes passes_month passes_month_day passes_weekday weekday_of year_days_before year_days_after month_days_before month_days_after month_of year_of greatest days_of_months period_of
third_instance = refl

-- FREQ=MONTHLY;BYDAY=MO,TU,WE,TH,FR;BYSETPOS=-2 from 1997-09-29
second_to_last_workday : days_in (rule Monthly 1 0 [] [] (plain 0 ∷ plain 1 ∷ plain 2 ∷ plain 3 ∷ plain 4 ∷ []) (negsuc 1 ∷ []) 729_661 None) 729_633 70 ≡ 729_661 ∷ 729_692 ∷ []
unfolding days_in rule plain numbered is_rule_day is_within_count is_counted is_placed mates_before mates_after is_mate count_days is_base is_in_step passes passes_month passes_month_day passes_weekday weekday_of year_days_before year_days_after month_days_before month_days_after month_of year_of greatest days_of_months period_of
second_to_last_workday = refl

-- FREQ=MONTHLY;BYDAY=SU,MO;BYSETPOS=1,2;COUNT=3 from 2025-01-05 (by hand)
first_two : days_in (rule Monthly 1 0 [] [] (plain 6 ∷ plain 0 ∷ []) (pos 1 ∷ pos 2 ∷ []) 739_621 (Some 3)) 739_617 60 ≡ 739_621 ∷ 739_622 ∷ 739_649 ∷ []
unfolding days_in rule plain numbered is_rule_day is_within_count is_counted is_placed mates_before mates_after is_mate count_days is_base is_in_step passes passes_month passes_month_day passes_weekday weekday_of year_days_before year_days_after month_days_before month_days_after month_of year_of greatest days_of_months period_of
first_two = refl
