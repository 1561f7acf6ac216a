-- What BYMONTHDAY and BYDAY don't name.
use Rattle.std.specs.Prelude.{◌≡◌, ℕ, true, List, ℤ}
use Rattle.profile.specs.series.Rules.{WeekdayNumber}
use Rattle.profile.specs.series.ZoneTexts.{MonthDays, names_days, is_each_year}

-- no single day of a month that every year has
abbrev pub NamesNone : List ℤ → List WeekdayNumber → Type 0
NamesNone numbers entries = (month : ℕ) (days : MonthDays) → names_days days numbers entries ≡ true → is_each_year month days ≡ true → ⊥
