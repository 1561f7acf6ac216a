-- Worked values, by the definitions alone.
use Rattle.std.proofs.Common.{◌≡◌, [], false, inl, inr, codes, refl, arith, pos, negsuc}
use Rattle.std.specs.Fmt.{digits}
use Rattle.profile.specs.series.Days.{days_before_year, days_of_months}
use Rattle.profile.specs.text.Values.{SpellsStamp, WritesStamp, SpellsSequence, SpellsOffset, SpellsDuration, SpellsExact, IsAddress, is_scheme, is_path, lower_case, escaped, unescaped, duration_text}

-- second 60 is read as 59
leap_second : SpellsStamp (codes "20161231T235960Z") (pos 1_483_228_799)
unfolding days_before_year days_of_months
leap_second = (
  codes "20161231T235960",
  record {
    date = codes "20161231";
    time = codes "235960";
    number = pos 17_166;
    second = 86_399;
    on = record { year = 2016; month = 12; day = 31; first = omega arith; last = omega arith; date = (omega arith, omega arith, omega arith, omega arith); spelled = refl; counted = refl };
    at_second = record { hour = 23; minute = 59; second = 60; hours = omega arith; minutes = omega arith; seconds = omega arith; spelled = refl; counted = refl };
    spelled = refl;
    counted = refl;
  },
  refl,
)

-- and written so
written_as_59 : WritesStamp (codes "20161231T235959Z") (pos 1_483_228_799)
unfolding days_before_year days_of_months
written_as_59 = (
  codes "20161231T235959",
  record {
    date = codes "20161231";
    time = codes "235959";
    number = pos 17_166;
    second = 86_399;
    on = record { year = 2016; month = 12; day = 31; first = omega arith; last = omega arith; date = (omega arith, omega arith, omega arith, omega arith); spelled = refl; counted = refl };
    at_second = record { hour = 23; minute = 59; second = 59; hours = omega arith; minutes = omega arith; seconds = omega arith; spelled = refl; counted = refl };
    spelled = refl;
    counted = refl;
  },
  refl,
)

plus_and_zeros : SpellsSequence (codes "+007") 7
plus_and_zeros = (codes "007", inr refl, (omega arith, (omega arith, (omega arith, (omega arith, tt))), refl), omega arith)

offset_with_seconds : SpellsOffset (codes "-001730") (negsuc 1049)
offset_with_seconds = (codes "001730", 1050, inl (record { hour = 0; minute = 17; second = 30; hours = omega arith; minutes = omega arith; seconds = omega arith; spelled = refl; counted = refl }), inr (refl, omega arith, refl))

two_hours : SpellsExact (codes "T2H") 7200
two_hours = record {
  hour_part = codes "2H";
  minute_part = [];
  second_part = [];
  hours = 2;
  minutes = 0;
  seconds = 0;
  hour = inr (codes "2", (omega arith, (omega arith, tt), refl), refl);
  minute = inl (refl, refl);
  second = inl (refl, refl);
  some = omega arith;
  spelled = refl;
  counted = refl;
}

day_and_hours : SpellsDuration (codes "P1DT2H") 1 7200
day_and_hours = (codes "P1DT2H", (codes "1DT2H", inr (inr (inr (codes "1", codes "T2H", (omega arith, (omega arith, tt), refl), two_hours, refl))), refl), inl refl)

week : SpellsDuration (codes "P1W") 7 0
week = (codes "P1W", (codes "1W", inl (codes "1", 1, (omega arith, (omega arith, tt), refl), refl, refl, refl), refl), inl refl)

durations_written : (duration_text 7 0 ≡ codes "P7D") × (duration_text 1 7200 ≡ codes "P1DT7200S") × (duration_text 0 0 ≡ codes "PT0S")
unfolding digits
durations_written = (refl, refl, refl)

escapes_read : unescaped (codes "a\\,\\n\\b\\") ≡ codes "a,\n\\b\\"
unfolding unescaped
escapes_read = refl

escapes_written : escaped (codes "a, b;\n\\") ≡ codes "a\\, b\\;\\n\\\\"
escapes_written = refl

mail : IsAddress (codes "MAILTO:Ann@Example.COM") × (lower_case (codes "MAILTO:Ann@Example.COM") ≡ codes "mailto:ann@example.com")
mail = ((codes "MAILTO", codes "Ann@Example.COM", refl, refl, refl, omega arith), refl)

-- no scheme begins with a digit, and what follows it has no space
not_an_address : (is_scheme (codes "1st") ≡ false) × (is_path (codes "ann lee") ≡ false)
not_an_address = (refl, refl)
