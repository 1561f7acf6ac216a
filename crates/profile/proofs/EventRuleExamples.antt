-- The rule of a VEVENT, worked by the definitions alone. Its start is Monday 2025-03-10 at 09:00.
use Rattle.std.proofs.Common.{◌≡◌, ◌-ℤ◌, Option, sym, ℤ, pos, negsuc, [], ◌∷◌, codes, inl, inr, refl, arith, lit<}
use Rattle.std.specs.Prelude.{Some, None}
use Rattle.std.proofs.lemmas.Int.{ints}
use Rattle.std.proofs.lemmas.Bool.{true≢false}
use Rattle.std.proofs.lemmas.List.Elements.{All-from_recursion}
use Rattle.profile.specs.events.Properties.{Fixed}
use Rattle.profile.specs.series.Days.{Daily, Weekly, days_before_year, days_of_months, greatest, year_of, month_of, year_days_before, year_days_after, month_days_before, month_days_after, weekday_of, period_of}
use Rattle.profile.specs.text.Trees.{Tree}
use Rattle.profile.specs.text.Values.{SpellsStamp}
use Rattle.profile.specs.series.Rules.{RuleText, UntilDay, UntilLocal, UntilInstant, rule_of, is_rule_day, is_within_count, is_counted, is_placed, mates_before, mates_after, is_mate, count_days, is_base, is_in_step, passes, passes_month, passes_month_day, passes_weekday, last_rule_day, go_together}
use Rattle.profile.specs.series.RuleTexts.{rule_parts, after_key, SpellsRule, IsKnownPart, Count, ByDay}
use Rattle.profile.specs.series.Zones.{Zone, Constant, Means}
use Rattle.profile.specs.events.ZonedTimes.{EventTimes}
use Rattle.profile.specs.events.EventRules.{IsLastAllowed, SaysEventRule, EventRuleFault, starts_outside}
use Rattle.profile.specs.events.EventComponents.{Method, PresenceFault, twice, RRULE}

-- ---- the last day that UNTIL allows

-- a zone of one offset, an hour east
abbrev an_hour_east : Zone
an_hour_east = Constant (pos 3600)

abbrev utc : Zone
utc = Constant (pos 0)

-- clocks of one offset show one time an instant
shown_at : (k local t : ℤ) → Means (Constant k) local t → t ≡ local -ℤ k
shown_at k local t (inl x) = omega (arith, ints, x.shown.1, x.shown.2)
shown_at k local t (inr x) = absurd x.listed

shows_at : (k local t : ℤ) → t ≡ local -ℤ k → Means (Constant k) local t
shows_at k local t e = inl (record { shown = (k, refl, omega (arith, ints, e)); least = λ other (offset, is, h). omega (arith, ints, e, is, h) })

without_until : IsLastAllowed utc 32_400 None 3_652_424
without_until = refl

-- UNTIL=20250312
a_date : IsLastAllowed utc 32_400 (Some (UntilDay (pos 20_159))) 739_687
a_date = refl

-- UNTIL=20250312T085959Z: the start of 12 March, 09:00Z, is past it, that of 11 March isn't
before_a_start : IsLastAllowed utc 32_400 (Some (UntilInstant (pos 1_741_769_999))) 739_686
before_a_start = record {
  to_9999 = omega arith;
  start = pos 1_741_683_600;
  means = shows_at (pos 0) _ _ (omega (arith, ints));
  not_past = omega (arith, ints);
  last = λ other from to start means. let e = shown_at (pos 0) _ start means in omega (arith, ints, e, from);
}

-- UNTIL=20250312T090000Z: a start at that very second isn't past it
at_a_start : IsLastAllowed utc 32_400 (Some (UntilInstant (pos 1_741_770_000))) 739_687
at_a_start = record {
  to_9999 = omega arith;
  start = pos 1_741_770_000;
  means = shows_at (pos 0) _ _ (omega (arith, ints));
  not_past = omega (arith, ints);
  last = λ other from to start means. let e = shown_at (pos 0) _ start means in omega (arith, ints, e, from);
}

-- UNTIL=20250312T083000 is 07:30Z an hour east, and the start of 12 March 08:00Z: as a UTC time it would allow 12 March
in_the_zone : IsLastAllowed an_hour_east 32_400 (Some (UntilLocal (pos 1_741_768_200))) 739_686
in_the_zone = (
  pos 1_741_764_600,
  shows_at (pos 3600) _ _ (omega (arith, ints)),
  record {
    to_9999 = omega arith;
    start = pos 1_741_680_000;
    means = shows_at (pos 3600) _ _ (omega (arith, ints));
    not_past = omega (arith, ints);
    last = λ other from to start means. let e = shown_at (pos 3600) _ start means in omega (arith, ints, e, from);
  },
)

not_in_utc : IsLastAllowed an_hour_east 32_400 (Some (UntilInstant (pos 1_741_768_200))) 739_687
not_in_utc = record {
  to_9999 = omega arith;
  start = pos 1_741_766_400;
  means = shows_at (pos 3600) _ _ (omega (arith, ints));
  not_past = omega (arith, ints);
  last = λ other from to start means. let e = shown_at (pos 3600) _ start means in omega (arith, ints, e, from);
}

-- UNTIL=00010101T083000Z counts as 1969-12-30T23:59:59Z, and no start is before the next second
before_the_first_day : IsLastAllowed utc 32_400 (Some (UntilInstant (negsuc 62_135_566_199))) 719_526
before_the_first_day = record {
  to_9999 = omega arith;
  start = negsuc 140_399;
  means = shows_at (pos 0) _ _ (omega (arith, ints));
  not_past = omega (arith, ints);
  last = λ other from to start means. let e = shown_at (pos 0) _ start means in omega (arith, ints, e, from);
}

-- ---- what RRULE says: FREQ=DAILY;COUNT=3

abbrev times : EventTimes
times = record { form = Fixed; zone = None; local = pos 1_741_597_200; start = pos 1_741_597_200; length = record { days = 0; seconds = 3600 } }

three_days : RuleText
three_days = record {
  frequency = Daily;
  interval = 1;
  week_start = 0;
  months = [];
  month_days = [];
  weekdays = [];
  positions = [];
  count = Some 3;
  until = None;
}

spells_three_days : SpellsRule (codes "FREQ=DAILY;COUNT=3") three_days
unfolding after_key go_together three_days
spells_three_days = record {
  known = All-from_recursion IsKnownPart (rule_parts (codes "FREQ=DAILY;COUNT=3")) (inl (Daily, refl), (inr (Count, codes "3", refl), tt));
  says = record {
    frequency = refl;
    interval = refl;
    count = ((lit< tt, (lit< tt, tt), refl), refl);
    until = refl;
    week_start = refl;
    months = refl;
    month_days = refl;
    weekdays = refl;
    positions = refl;
  };
  together = refl;
  one_end = refl;
}

three_days_from_monday : SaysEventRule (codes "DTSTART:20250310T090000Z" ∷ codes "rrule:FREQ=DAILY;COUNT=3" ∷ []) times (Some (rule_of three_days 739_685 last_rule_day))
unfolding three_days is_rule_day is_within_count is_counted is_placed mates_before mates_after is_mate count_days is_base is_in_step passes passes_month passes_month_day passes_weekday weekday_of year_days_before year_days_after month_days_before month_days_after month_of year_of greatest days_of_months period_of
three_days_from_monday = record {
  text = Some three_days;
  spells = record { line = Some (codes "rrule:FREQ=DAILY;COUNT=3"); once = refl; present = λ h. absurd (true≢false (sym h)); is = spells_three_days };
  gives = record { day = 739_685; second = 32_400; on = (omega arith, refl); last = last_rule_day; allowed = refl; is = refl; starts = refl };
}

without_rule : SaysEventRule (codes "DTSTART:20250310T090000Z" ∷ []) times None
without_rule = record {
  text = None;
  spells = record { line = None; once = refl; present = λ h. absurd (true≢false (sym h)); is = tt };
  gives = tt;
}

-- without a start no day is given
without_start : SaysEventRule (codes "UID:a" ∷ codes "rrule:FREQ=DAILY;COUNT=3" ∷ []) times None
unfolding three_days
without_start = record {
  text = Some three_days;
  spells = record { line = Some (codes "rrule:FREQ=DAILY;COUNT=3"); once = refl; present = λ h. absurd (true≢false (sym h)); is = spells_three_days };
  gives = refl;
}

-- ---- what is wrong with it

two_of_them : (method : Option Method) → PresenceFault method (codes "RRULE:FREQ=DAILY" ∷ codes "RRULE:FREQ=DAILY" ∷ []) 61
two_of_them method = twice RRULE refl (omega arith)

-- FREQ=WEEKLY;BYDAY=TU from a Monday on
tuesdays : RuleText
tuesdays = record {
  frequency = Weekly;
  interval = 1;
  week_start = 0;
  months = [];
  month_days = [];
  weekdays = record { number = pos 0; weekday = 1 } ∷ [];
  positions = [];
  count = None;
  until = None;
}

spells_tuesdays : SpellsRule (codes "FREQ=WEEKLY;BYDAY=TU") tuesdays
unfolding after_key go_together tuesdays
spells_tuesdays = record {
  known = All-from_recursion IsKnownPart (rule_parts (codes "FREQ=WEEKLY;BYDAY=TU")) (inl (Weekly, refl), (inr (ByDay, codes "TU", refl), tt));
  says = record {
    frequency = refl;
    interval = refl;
    count = refl;
    until = refl;
    week_start = refl;
    months = refl;
    month_days = refl;
    weekdays = ((([], codes "TU", refl, (lit< tt, refl), inl (refl, refl)), tt), omega arith);
    positions = refl;
  };
  together = refl;
  one_end = refl;
}

-- 2025-03-10T09:00:00Z is 1,741,597,200
nine : SpellsStamp (codes "20250310T090000Z") (pos 1_741_597_200)
unfolding days_before_year days_of_months
nine = (
  codes "20250310T090000",
  record {
    date = codes "20250310";
    time = codes "090000";
    number = pos 20_157;
    second = 32_400;
    on = record { year = 2025; month = 3; day = 10; first = omega arith; last = omega arith; date = (omega arith, omega arith, omega arith, omega arith); spelled = refl; counted = refl };
    at_second = record { hour = 9; minute = 0; second = 0; hours = omega arith; minutes = omega arith; seconds = omega arith; spelled = refl; counted = refl };
    spelled = refl;
    counted = refl;
  },
  refl,
)

a_monday_of_tuesdays : (object : Tree) → EventRuleFault object (codes "DTSTART:20250310T090000Z" ∷ codes "RRULE:FREQ=WEEKLY;BYDAY=TU" ∷ []) 34
unfolding tuesdays is_rule_day is_within_count is_counted is_placed mates_before mates_after is_mate count_days is_base is_in_step passes passes_month passes_month_day passes_weekday weekday_of year_days_before year_days_after month_days_before month_days_after month_of year_of greatest days_of_months period_of
a_monday_of_tuesdays object = starts_outside (
  codes "DTSTART:20250310T090000Z",
  (0, lit< tt, refl),
  (
    codes "RRULE:FREQ=WEEKLY;BYDAY=TU",
    (0, lit< tt, refl),
    record {
      form = Fixed;
      zone = None;
      local = pos 1_741_597_200;
      says = (refl, nine);
      text = tuesdays;
      spelled = spells_tuesdays;
      outside = record { day = 739_685; second = 32_400; on = (omega arith, refl); none = inr (last_rule_day, refl, refl) };
    },
  ),
)
