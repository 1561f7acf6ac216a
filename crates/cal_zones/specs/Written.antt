-- What is written of a zone.
use Rattle.std.specs.Prelude.{◌≡◌, ℕ, ◌+◌, List, [], ◌∷◌, ◌++◌, map, codes, decimal}
use Rattle.std.specs.Fmt.{signed_decimal}
use Rattle.profile.specs.text.Lines.{folded, written}
use Rattle.profile.specs.series.RuleTexts.{listed, weekday_number_text}
use Rattle.profile.specs.series.Zones.{Observance}
use Rattle.profile.specs.series.ZoneTexts.{month_days_of, weekdays_of}
use Rattle.profile.specs.written.WrittenZones.{WritesPart, lines_around}
use Rattle.cal_zones.specs.Shapes.{days_of}
use Rattle.cal_zones.specs.declared.yearly.MonthDays.{MonthDays}

-- the value of RRULE
abbrev pub year_text : ℕ → MonthDays → List ℕ
year_text month days =
    codes "FREQ=YEARLY" ++ listed (codes ";BYMONTH=") (decimal month ∷ []) ++ listed (codes ";BYMONTHDAY=") (map signed_decimal (month_days_of (days_of days)))
    ++ listed (codes ";BYDAY=") (map weekday_number_text (weekdays_of (days_of days)))

-- seven days in a row, with commas between
abbrev pub week_text : ℕ → List ℕ
week_text first =
    decimal first ++ (codes "," ++ decimal (first + 1)) ++ (codes "," ++ decimal (first + 2)) ++ (codes "," ++ decimal (first + 3)) ++ (codes "," ++ decimal (first + 4))
    ++ (codes "," ++ decimal (first + 5)) ++ (codes "," ++ decimal (first + 6))

-- new is old and lines of that kind after it, written
abbrev pub AppendsLines : List ℕ → List ℕ → (List (List ℕ) → Type 0) → Type 0
AppendsLines old new AreLines = (lines : List (List ℕ)) × AreLines lines × (new ≡ old ++ written lines)

-- a written line of that name with a value of that kind
abbrev pub IsLineOf : List ℕ → (List ℕ → Type 0) → List ℕ → Type 0
IsLineOf name IsValue octets = (value : List ℕ) × IsValue value × (octets ≡ folded (name ++ 58 ∷ value))

-- the lines of a part of that name
abbrev pub IsPartText : List ℕ → Observance → List (List ℕ) → Type 0
IsPartText kind o lines = (own : List (List ℕ)) × WritesPart own o × (lines ≡ lines_around kind own)
