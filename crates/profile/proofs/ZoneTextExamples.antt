-- Worked VTIMEZONEs, by the definitions alone.
use Rattle.std.proofs.Common.{◌≡◌, ℕ, ℤ, pos, negsuc, zero, suc, refl, inl, inr, true, false, List, [], ◌∷◌, codes, subst, arith}
use Rattle.std.specs.Prelude.{Some, None, Contains}
use Rattle.profile.specs.series.Days.{Yearly, days_before_year, days_of_months}
use Rattle.profile.specs.series.Rules.{WeekdayNumber, RuleText}
use Rattle.profile.specs.text.Trees.{Tree, tree, none, more}
use Rattle.profile.specs.text.Values.{SpellsLocal, SpellsOffset}
use Rattle.profile.specs.series.Zones.{Observance, Constant, local_time}
use Rattle.profile.specs.series.ZoneTexts.{parts_by, is_part, is_daylight, SaysPartTimes, SaysZone, ZoneFault, KeepsOffset, FromStart, FromEnd, InWeek, is_each_year, names_days, is_one_day, constant, no_part, in_part, dates}

-- ---- days

-- an entry of BYDAY
entry : ℤ → ℕ → WeekdayNumber
entry number weekday = record { number = number; weekday = weekday }

the_last_sunday : names_days (FromEnd 1 6) [] (entry (negsuc 0) 6 ∷ entry (negsuc 0) 6 ∷ []) ≡ true
unfolding entry
the_last_sunday = refl

not_the_first_sunday : names_days (FromStart 1 6) [] (entry (negsuc 0) 6 ∷ []) ≡ false
unfolding entry
not_the_first_sunday = refl

-- in any order, and one of them twice
a_week : names_days (InWeek 8 6) (pos 14 ∷ pos 8 ∷ pos 9 ∷ pos 10 ∷ pos 11 ∷ pos 12 ∷ pos 13 ∷ pos 8 ∷ []) (entry (pos 0) 6 ∷ []) ≡ true
unfolding entry
a_week = refl

-- one of them missing
six_days : names_days (InWeek 8 6) (pos 14 ∷ pos 8 ∷ pos 9 ∷ pos 10 ∷ pos 11 ∷ pos 12 ∷ []) (entry (pos 0) 6 ∷ []) ≡ false
unfolding entry
six_days = refl

-- February has no 29th in most years
past_february : is_each_year 2 (InWeek 23 6) ≡ false
past_february = refl

in_february : is_each_year 2 (InWeek 22 6) ≡ true
in_february = refl

-- FREQ=YEARLY;WKST=SU;BYMONTH=3,3;BYDAY=2SU, and the same with COUNT=5
spring : RuleText
spring = record {
  frequency = Yearly;
  interval = 1;
  week_start = 6;
  months = 3 ∷ 3 ∷ [];
  month_days = [];
  weekdays = record { number = pos 2; weekday = 6 } ∷ [];
  positions = [];
  count = None;
  until = None;
}

spring_names : is_one_day spring (record { month = 3; days = FromStart 2 6 }) ≡ true
unfolding spring
spring_names = refl

counted : is_one_day (record spring { count = Some 5 }) (record { month = 3; days = FromStart 2 6 }) ≡ false
unfolding spring
counted = refl

-- ---- trees

-- a part of India
part : List (List ℕ)
part = codes "DTSTART:19700101T000000" ∷ codes "TZOFFSETFROM:+0530" ∷ codes "tzoffsetto:+0530" ∷ []

india : Tree
unfolding part
india = tree (codes "VTIMEZONE") (codes "TZID:Asia/Kolkata" ∷ []) (more (tree (codes "standard") part none) (more (tree (codes "X-OTHER") [] none) none))

its_parts : parts_by is_part india ≡ part ∷ []
unfolding india part
its_parts = refl

no_daylight : parts_by is_daylight india ≡ []
unfolding india part
no_daylight = refl

-- 1970-01-01T00:00:00
midnight : SpellsLocal (codes "19700101T000000") (local_time 719_528 0)
unfolding days_before_year days_of_months
midnight = record {
  date = codes "19700101";
  time = codes "000000";
  number = pos 0;
  second = 0;
  on = record {
    year = 1970;
    month = 1;
    day = 1;
    first = omega arith;
    last = omega arith;
    date = (omega arith, omega arith, omega arith, omega arith);
    spelled = refl;
    counted = refl;
  };
  at_second = record {
    hour = 0;
    minute = 0;
    second = 0;
    hours = omega arith;
    minutes = omega arith;
    seconds = omega arith;
    spelled = refl;
    counted = refl;
  };
  spelled = refl;
  counted = refl;
}

-- five hours and a half
ahead : SpellsOffset (codes "+0530") (pos 19_800)
ahead = (
  codes "0530",
  19_800,
  inr (record {
    hour = 5;
    minute = 30;
    second = 0;
    hours = omega arith;
    minutes = omega arith;
    seconds = omega arith;
    spelled = refl;
    counted = refl;
  }),
  inl (refl, refl),
)

times : Observance
times = record { day = 719_528; second = 0; rule = None; offset_from = pos 19_800; offset_to = pos 19_800 }

part_says : SaysPartTimes part times
unfolding part times
part_says = record {
  start = record { line = Some (codes "DTSTART:19700101T000000"); once = refl; present = λ _. refl; is = (refl, refl, midnight) };
  second = omega arith;
  from = record { line = Some (codes "TZOFFSETFROM:+0530"); once = refl; present = λ _. refl; is = ahead };
  to = record { line = Some (codes "tzoffsetto:+0530"); once = refl; present = λ _. refl; is = ahead };
  no_dates = refl;
}

only_part : (other : List (List ℕ)) → Contains (part ∷ []) other → KeepsOffset (pos 19_800) other
unfolding times
only_part other (zero, w, e) = subst (KeepsOffset (pos 19_800)) e (times, part_says, refl, refl)
only_part other (suc k, w, e) = absurd (omega arith)

india_is_constant : SaysZone india (Constant (pos 19_800))
unfolding india part
india_is_constant = record { form = constant (pos 19_800) part (zero, omega arith, refl) only_part; matched = tt; spaced = tt }

-- no part, and a part with RDATE
nothing : ZoneFault (tree (codes "VTIMEZONE") (codes "TZID:Z" ∷ []) none) 40
nothing = no_part refl

listed : ZoneFault (tree (codes "VTIMEZONE") [] (more (tree (codes "DAYLIGHT") (codes "RDATE:20250309T020000" ∷ []) none) none)) 40
listed = in_part (codes "RDATE:20250309T020000" ∷ []) (zero, omega arith, refl) (dates (λ h. cc))
