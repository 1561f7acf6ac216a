-- Worked VTIMEZONEs as they are written, by the definitions alone.
use Rattle.std.proofs.Common.{◌≡◌, ℕ, ◌+◌, ◌*◌, ◌≤◌, pos, negsuc, refl, List, [], ◌∷◌, ◌++◌, codes, arith}
use Rattle.std.proofs.lemmas.Int.{ints}
use Rattle.std.specs.Fmt.{digits}
use Rattle.std.specs.Prelude.{Some, None}
use Rattle.profile.specs.series.Days.{IsDate, number_of_date, days_before_year, days_of_months}
use Rattle.profile.specs.text.Values.{SpellsTime, WritesLocal, WritesOffset, two_digits, four_digits}
use Rattle.profile.specs.series.Zones.{Observance, Constant, Single, Pair, local_time}
use Rattle.profile.specs.series.ZoneTexts.{YearRule, OnDay, FromStart, FromEnd, InWeek, year_pattern}
use Rattle.profile.specs.written.WrittenZones.{rule_lines, WritesZone}

-- ---- rules

of_rule : YearRule → List (List ℕ)
of_rule r = rule_lines (Some (year_pattern r 719_528))

third_of_july : of_rule (record { month = 7; days = OnDay 3 }) ≡ codes "RRULE:FREQ=YEARLY;BYMONTH=7;BYMONTHDAY=3" ∷ []
unfolding of_rule digits
third_of_july = refl

second_sunday : of_rule (record { month = 3; days = FromStart 2 6 }) ≡ codes "RRULE:FREQ=YEARLY;BYMONTH=3;BYDAY=2SU" ∷ []
unfolding of_rule digits
second_sunday = refl

last_sunday : of_rule (record { month = 10; days = FromEnd 1 6 }) ≡ codes "RRULE:FREQ=YEARLY;BYMONTH=10;BYDAY=-1SU" ∷ []
unfolding of_rule digits
last_sunday = refl

a_week : of_rule (record { month = 4; days = InWeek 8 4 }) ≡ codes "RRULE:FREQ=YEARLY;BYMONTH=4;BYMONTHDAY=8,9,10,11,12,13,14;BYDAY=FR" ∷ []
unfolding of_rule digits
a_week = refl

-- ---- times and offsets

-- a local time of the years from 1970 on
on_day : (year month day hour minute : ℕ) (date time : List ℕ) (number : ℕ) → 1 ≤ year → year ≤ 9999 → IsDate year month day → hour ≤ 23 → minute ≤ 59
    → date ≡ four_digits year ++ two_digits month ++ two_digits day → time ≡ two_digits hour ++ two_digits minute ++ two_digits 0 → pos number ≡ number_of_date year month day
    → WritesLocal (date ++ codes "T" ++ time) (local_time (number + 719_528) (3600 * hour + 60 * minute))
on_day year month day hour minute date time number first last d h m spelled clock counted = record {
  date = date;
  time = time;
  number = pos number;
  second = 3600 * hour + 60 * minute;
  on = record { year = year; month = month; day = day; first = first; last = last; date = d; spelled = spelled; counted = counted };
  at_second = record { hour = hour; minute = minute; second = 0; hours = h; minutes = m; seconds = omega arith; spelled = clock; counted = omega arith };
  spelled = refl;
  counted = omega (arith, ints);
}

-- an offset of whole hours and minutes
size : (hour minute : ℕ) (time : List ℕ) (total : ℕ) → hour ≤ 23 → minute ≤ 59 → time ≡ two_digits hour ++ two_digits minute ++ two_digits 0 → total ≡ 3600 * hour + 60 * minute
    → SpellsTime 59 time total
size hour minute time total h m spelled counted = record { hour = hour; minute = minute; second = 0; hours = h; minutes = m; seconds = omega arith; spelled = spelled; counted = omega (arith, counted) }

five_behind : WritesOffset (codes "-0500") (negsuc 17_999)
five_behind = (codes "050000", size 5 0 (codes "050000") 18_000 (omega arith) (omega arith) refl refl, refl)

four_behind : WritesOffset (codes "-0400") (negsuc 14_399)
four_behind = (codes "040000", size 4 0 (codes "040000") 14_400 (omega arith) (omega arith) refl refl, refl)

ahead : WritesOffset (codes "+0530") (pos 19_800)
ahead = (codes "053000", size 5 30 (codes "053000") 19_800 (omega arith) (omega arith) refl refl, refl)

-- offsets with seconds have six digits
amsterdam : WritesOffset (codes "+001932") (pos 1172)
amsterdam = (
  codes "001932",
  record { hour = 0; minute = 19; second = 32; hours = omega arith; minutes = omega arith; seconds = omega arith; spelled = refl; counted = refl },
  refl,
)

-- ---- zones

-- New York since 2007
standard : Observance
standard = record {
  day = 733_349;
  second = 7200;
  rule = Some (year_pattern (record { month = 11; days = FromStart 1 6 }) 733_349);
  offset_from = negsuc 14_399;
  offset_to = negsuc 17_999;
}

daylight : Observance
daylight = record {
  day = 733_111;
  second = 7200;
  rule = Some (year_pattern (record { month = 3; days = FromStart 2 6 }) 733_111);
  offset_from = negsuc 17_999;
  offset_to = negsuc 14_399;
}

fall : WritesLocal (codes "20071104T020000") (local_time 733_349 7200)
unfolding days_before_year days_of_months
fall = on_day 2007 11 4 2 0 (codes "20071104") (codes "020000") 13_821 (omega arith) (omega arith) (omega arith, omega arith, omega arith, omega arith) (omega arith) (omega arith) refl refl refl

spring : WritesLocal (codes "20070311T020000") (local_time 733_111 7200)
unfolding days_before_year days_of_months
spring = on_day 2007 3 11 2 0 (codes "20070311") (codes "020000") 13_583 (omega arith) (omega arith) (omega arith, omega arith, omega arith, omega arith) (omega arith) (omega arith) refl refl refl

epoch : WritesLocal (codes "19700101T000000") (local_time 719_528 0)
unfolding days_before_year days_of_months
epoch = on_day 1970 1 1 0 0 (codes "19700101") (codes "000000") 0 (omega arith) (omega arith) (omega arith, omega arith, omega arith, omega arith) (omega arith) (omega arith) refl refl refl

new_york : WritesZone
    (codes "BEGIN:VTIMEZONE"
    ∷ codes "TZID:America/New_York"
    ∷ codes "BEGIN:STANDARD"
    ∷ codes "DTSTART:20071104T020000"
    ∷ codes "RRULE:FREQ=YEARLY;BYMONTH=11;BYDAY=1SU"
    ∷ codes "TZOFFSETFROM:-0400"
    ∷ codes "TZOFFSETTO:-0500"
    ∷ codes "END:STANDARD"
    ∷ codes "BEGIN:DAYLIGHT"
    ∷ codes "DTSTART:20070311T020000"
    ∷ codes "RRULE:FREQ=YEARLY;BYMONTH=3;BYDAY=2SU"
    ∷ codes "TZOFFSETFROM:-0500"
    ∷ codes "TZOFFSETTO:-0400"
    ∷ codes "END:DAYLIGHT"
    ∷ codes "END:VTIMEZONE"
    ∷ []) (codes "America/New_York") (Pair standard daylight)
unfolding standard daylight digits
new_york = (
  _,
  (
    _,
    _,
    record { start = codes "20071104T020000"; from = codes "-0400"; to = codes "-0500"; writes_start = fall; writes_from = four_behind; writes_to = five_behind; is = refl },
    record { start = codes "20070311T020000"; from = codes "-0500"; to = codes "-0400"; writes_start = spring; writes_from = five_behind; writes_to = four_behind; is = refl },
    refl,
  ),
  refl,
)

-- one offset, and a name with a comma
half_past : WritesZone
    (codes "BEGIN:VTIMEZONE"
    ∷ codes "TZID:Delhi\\, Mumbai"
    ∷ codes "BEGIN:STANDARD"
    ∷ codes "DTSTART:19700101T000000"
    ∷ codes "TZOFFSETFROM:+0530"
    ∷ codes "TZOFFSETTO:+0530"
    ∷ codes "END:STANDARD"
    ∷ codes "END:VTIMEZONE"
    ∷ []) (codes "Delhi, Mumbai") (Constant (pos 19_800))
half_past = (
  _,
  (_, record { start = codes "19700101T000000"; from = codes "+0530"; to = codes "+0530"; writes_start = epoch; writes_from = ahead; writes_to = ahead; is = refl }, refl),
  refl,
)

-- one part without a rule
once : Observance
once = record { day = 719_528; second = 0; rule = None; offset_from = pos 1172; offset_to = pos 19_800 }

changed_once : WritesZone
    (codes "BEGIN:VTIMEZONE"
    ∷ codes "TZID:Z"
    ∷ codes "BEGIN:STANDARD"
    ∷ codes "DTSTART:19700101T000000"
    ∷ codes "TZOFFSETFROM:+001932"
    ∷ codes "TZOFFSETTO:+0530"
    ∷ codes "END:STANDARD"
    ∷ codes "END:VTIMEZONE"
    ∷ []) (codes "Z") (Single once)
unfolding once
changed_once = (
  _,
  (_, record { start = codes "19700101T000000"; from = codes "+001932"; to = codes "+0530"; writes_start = epoch; writes_from = amsterdam; writes_to = ahead; is = refl }, refl),
  refl,
)
