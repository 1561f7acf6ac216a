-- Texts of a page in HTML: names, days, times and instants.
use Rattle.std.specs.Prelude.{◌≡◌, ◌≢◌, ◌⊎◌, ℕ, suc, ◌/◌, ◌%◌, ◌<◌, ◌==◌, if◌then◌else◌, ℤ, List, [], ◌∷◌, codes}
use Rattle.std.specs.List.{flat_map}
use Rattle.profile.specs.text.Values.{two_digits, four_digits}
use Rattle.profile.specs.series.Days.{year_of, month_of, month_days_before}
use Rattle.profile.specs.series.Zones.{Zone, Shows, local_time}

-- texts one after another
abbrev pub joined : List (List ℕ) → List ℕ
joined = flat_map (λ text. text)

-- how an octet of a text stands in HTML: `&`, `<`, `>` and `"` by their names
abbrev pub html_octet : ℕ → List ℕ
html_octet c =
    if c == 38 then codes "&amp;"
    else (if c == 60 then codes "&lt;"
    else (if c == 62 then codes "&gt;"
    else (if c == 34 then codes "&quot;"
    else c ∷ [])))

-- how a text stands in HTML
abbrev pub html : List ℕ → List ℕ
html = flat_map html_octet

-- a weekday, 0 for Monday
abbrev pub weekday_name : ℕ → List ℕ
weekday_name day =
    if day == 0 then codes "Monday"
    else (if day == 1 then codes "Tuesday"
    else (if day == 2 then codes "Wednesday"
    else (if day == 3 then codes "Thursday"
    else (if day == 4 then codes "Friday"
    else (if day == 5 then codes "Saturday"
    else codes "Sunday")))))

-- the date of a day, by its index: `2025-03-10`
abbrev pub date_text : ℕ → List ℕ
date_text day = joined (four_digits (year_of day) ∷ codes "-" ∷ two_digits (month_of day) ∷ codes "-" ∷ two_digits (suc (month_days_before day)) ∷ [])

-- a second of a day in hours and minutes: `09:30`
abbrev pub clock_text : ℕ → List ℕ
clock_text second = joined (two_digits (second / 3600) ∷ codes ":" ∷ two_digits (second / 60 % 60) ∷ [])

-- an instant in UTC: `2025-03-10T09:30:00Z`
pub record IsUtcText (instant : ℤ) (text : List ℕ) : Type 0 where
  pub day : ℕ
  pub second : ℕ
  pub of_day : second < 86_400
  pub at : instant ≡ local_time day second
  pub is : text ≡ joined (date_text day ∷ codes "T" ∷ clock_text second ∷ codes ":" ∷ two_digits (second % 60) ∷ codes "Z" ∷ [])

-- what the clocks of a zone show at an instant, in hours and minutes
pub record IsClockText (zone : Zone) (instant : ℤ) (text : List ℕ) : Type 0 where
  pub day : ℕ
  pub second : ℕ
  pub of_day : second < 86_400
  pub shows : Shows zone instant (local_time day second)
  pub is : text ≡ clock_text second

-- the same where something ends; the end of the day is 24:00
abbrev pub IsEndText : Zone → ℤ → ℤ → List ℕ → Type 0
IsEndText zone end_of_day instant text =
    ((instant ≡ end_of_day) × (text ≡ codes "24:00")) ⊎ ((instant ≢ end_of_day) × IsClockText zone instant text)

-- an element TIME: an instant in UTC for programs, and what is shown for people
abbrev pub time_element : List ℕ → List ℕ → List ℕ
time_element utc shown = joined (codes "<time datetime=\"" ∷ utc ∷ codes "\">" ∷ shown ∷ codes "</time>" ∷ [])

abbrev pub IsTimeElement : ℤ → List ℕ → List ℕ → Type 0
IsTimeElement instant shown text = (utc : List ℕ) × IsUtcText instant utc × (text ≡ time_element utc shown)
