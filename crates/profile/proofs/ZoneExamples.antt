-- Worked zones, by the definitions alone: New York in 2025.
use Rattle.std.proofs.Common.{◌≡◌, ℕ, ℤ, pos, negsuc, refl, [], ◌∷◌, Some, filter, inl, inr}
use Rattle.std.specs.List.{range_with_len}
use Rattle.profile.specs.series.Days.{Yearly, day_index, greatest, year_of, month_of, year_days_before, year_days_after, month_days_before, month_days_after, weekday_of, period_of, days_of_months}
use Rattle.profile.specs.series.Rules.{Pattern, is_base, is_in_step, passes, passes_month, passes_month_day, passes_weekday}
use Rattle.profile.specs.series.Zones.{Observance, Pair, Onset, IsZoneOnset, begins_on}

-- FREQ=YEARLY;BYMONTH=m;BYDAY=kSU
sunday : ℕ → ℤ → ℕ → Pattern
sunday month number start = record {
  frequency = Yearly;
  interval = 1;
  week_start = 0;
  months = month ∷ [];
  month_days = [];
  weekdays = record { number = number; weekday = 6 } ∷ [];
  positions = [];
  start = start;
}

-- DTSTART:20071104T020000, the first Sunday of November, from -0400 to -0500
standard : Observance
unfolding sunday
standard = record {
  day = day_index (pos 13_821);
  second = 7200;
  rule = Some (sunday 11 (pos 1) (day_index (pos 13_821)));
  offset_from = negsuc 14_399;
  offset_to = negsuc 17_999;
}

-- DTSTART:20070311T020000, the second Sunday of March, from -0500 to -0400
daylight : Observance
unfolding sunday
daylight = record {
  day = day_index (pos 13_583);
  second = 7200;
  rule = Some (sunday 3 (pos 2) (day_index (pos 13_583)));
  offset_from = negsuc 17_999;
  offset_to = negsuc 14_399;
}

-- the days of 2007 to 2025 that they begin on: 4 November 2007 and 2 November 2025, 11 March 2007 and 9 March 2025
first_standard : filter (begins_on standard) (range_with_len (day_index (pos 13_514)) 365) ≡ day_index (pos 13_821) ∷ []
unfolding standard sunday is_base is_in_step passes passes_month passes_month_day passes_weekday weekday_of year_days_before year_days_after month_days_before month_days_after month_of year_of greatest days_of_months period_of
first_standard = refl

standard_2025 : filter (begins_on standard) (range_with_len (day_index (pos 20_089)) 365) ≡ day_index (pos 20_394) ∷ []
unfolding standard sunday is_base is_in_step passes passes_month passes_month_day passes_weekday weekday_of year_days_before year_days_after month_days_before month_days_after month_of year_of greatest days_of_months period_of
standard_2025 = refl

daylight_2025 : filter (begins_on daylight) (range_with_len (day_index (pos 20_089)) 365) ≡ day_index (pos 20_156) ∷ []
unfolding daylight sunday is_base is_in_step passes passes_month passes_month_day passes_weekday weekday_of year_days_before year_days_after month_days_before month_days_after month_of year_of greatest days_of_months period_of
daylight_2025 = refl

-- none before DTSTART
none_2006 : filter (begins_on daylight) (range_with_len (day_index (pos 13_149)) 365) ≡ []
unfolding daylight sunday is_base is_in_step passes passes_month passes_month_day passes_weekday weekday_of year_days_before year_days_after month_days_before month_days_after month_of year_of greatest days_of_months period_of
none_2006 = refl

-- 20250309T070000Z is an onset, from -0500 to -0400
spring : Onset
spring = record { instant = pos 1_741_503_600; before = negsuc 17_999; after = negsuc 14_399 }

spring_begins : IsZoneOnset (Pair standard daylight) spring
unfolding spring standard daylight sunday is_base is_in_step passes passes_month passes_month_day passes_weekday weekday_of year_days_before year_days_after month_days_before month_days_after month_of year_of greatest days_of_months period_of
spring_begins = inr (record { day = day_index (pos 20_156); begins = refl; read = refl; before = refl; after = refl })

-- 20251102T060000Z is one, from -0400 to -0500
autumn : Onset
autumn = record { instant = pos 1_762_063_200; before = negsuc 14_399; after = negsuc 17_999 }

autumn_begins : IsZoneOnset (Pair standard daylight) autumn
unfolding autumn standard daylight sunday is_base is_in_step passes passes_month passes_month_day passes_weekday weekday_of year_days_before year_days_after month_days_before month_days_after month_of year_of greatest days_of_months period_of
autumn_begins = inl (record { day = day_index (pos 20_394); begins = refl; read = refl; before = refl; after = refl })
