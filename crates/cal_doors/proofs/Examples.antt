-- Worked zones in general, by the definitions alone: onsets of RDATE, COUNT and UNTIL.
use Rattle.std.proofs.Common.{◌≡◌, refl, [], ◌∷◌, Some, None, true, pos, negsuc}
use Rattle.profile.specs.series.Days.{Yearly, day_index, greatest, year_of, month_of, year_days_before, year_days_after, month_days_before, month_days_after, weekday_of, period_of, days_of_months}
use Rattle.profile.specs.series.Rules.{RuleText, UntilLocal, UntilInstant, count_days, is_base, is_in_step, passes, passes_month, passes_month_day, passes_weekday}
use Rattle.profile.specs.series.ZoneTexts.{FromEnd, FromStart, is_one_day, year_pattern}
use Rattle.profile.specs.series.Zones.{Observance, begins_on}
use Rattle.profile.specs.series.GeneralZones.{Never, AtInstant, AfterCount, IsRunOnset}
use Rattle.profile.specs.series.GeneralZoneTexts.{without_end, IsEndOf}

-- DTSTART:19700426T070000, RDATE:19700426T070000, from +0000 to -0400: the onset is at 1970-04-26T07:00:00Z
at_date : IsRunOnset
    (record { observance = record { day = 719_643; second = 25_200; rule = None; offset_from = pos 0; offset_to = negsuc 14_399 }; end = Never })
    (record { instant = pos 9_961_200; before = pos 0; after = negsuc 14_399 })
at_date = record { is = record { day = 719_643; begins = refl; read = refl; before = refl; after = refl }; in_time = tt }

-- DTSTART:20071104T020000, RRULE:FREQ=YEARLY;BYMONTH=11;BYDAY=1SU, from -0400 to -0500
standard : Observance
standard = record {
  day = day_index (pos 13_821);
  second = 7200;
  rule = Some (year_pattern (record { month = 11; days = FromStart 1 6 }) (day_index (pos 13_821)));
  offset_from = negsuc 14_399;
  offset_to = negsuc 17_999;
}

-- up to 2 November 2008 it begins twice, and up to the day before once: COUNT=2 ends with that day
twice : count_days (begins_on standard) standard.day 365 ≡ 2
unfolding standard count_days is_base is_in_step passes passes_month passes_month_day passes_weekday weekday_of year_days_before year_days_after month_days_before month_days_after month_of year_of greatest days_of_months period_of
twice = refl

once : count_days (begins_on standard) standard.day 364 ≡ 1
unfolding standard count_days is_base is_in_step passes passes_month passes_month_day passes_weekday weekday_of year_days_before year_days_after month_days_before month_days_after month_of year_of greatest days_of_months period_of
once = refl

-- UNTIL=20071104T020000 of a part whose TZOFFSETFROM is -0400 is 2007-11-04T06:00:00Z; in UTC it is what it says
until_local : IsEndOf (negsuc 14_399) None (Some (UntilLocal (pos 1_194_141_600))) (AtInstant (pos 1_194_156_000))
until_local = refl

until_utc : IsEndOf (negsuc 14_399) None (Some (UntilInstant (pos 1_194_156_000))) (AtInstant (pos 1_194_156_000))
until_utc = refl

counted : IsEndOf (negsuc 14_399) (Some 3) None (AfterCount 3)
counted = refl

-- FREQ=YEARLY;BYMONTH=10;BYDAY=-1SU;UNTIL=20071104T020000 names the last Sunday of October
ending : RuleText
ending = record {
  frequency = Yearly;
  interval = 1;
  week_start = 0;
  months = 10 ∷ [];
  month_days = [];
  weekdays = record { number = negsuc 0; weekday = 6 } ∷ [];
  positions = [];
  count = None;
  until = Some (UntilLocal (pos 1_194_141_600));
}

last_sunday : is_one_day (without_end ending) (record { month = 10; days = FromEnd 1 6 }) ≡ true
unfolding ending
last_sunday = refl
