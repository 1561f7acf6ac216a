-- Which days stand for all that the form of a rule allows: at most seven, from DTSTART's on (RFC 5545 3.3.10).
use Rattle.std.specs.Prelude.{◌≡◌, ℕ, ◌+◌, ◌-◌, ◌*◌, ◌%◌, ◌<◌, Bool, true, not, ◌&&◌, ◌||◌, ◌==◌, nat_lt, if◌then◌else◌, Option, Some, None}
use Rattle.profile.specs.series.Days.{Frequency, Daily, Weekly, Monthly, Yearly}
use Rattle.profile.specs.series.Rules.{Pattern, is_missing, weekdays_meant}
use Rattle.profile.specs.series.Residues.{is_in_form}

-- that many days after the day of DTSTART; after a whole week the next one in step is INTERVAL weeks after its own
abbrev pub week_day : ℕ → ℕ → ℕ → ℕ → ℕ
week_day interval week_start start i = if nat_lt ((start + 12 - week_start) % 7 + i) 7 then start + i else start + i + 7 * (interval - 1)

-- a day in step: that many periods of DAILY after DTSTART, else that many days after it
abbrev pub step_day : Frequency → ℕ → ℕ → ℕ → ℕ → ℕ
step_day Daily interval week_start start i = start + interval * i
step_day Weekly interval week_start start i = week_day interval week_start start i
step_day Monthly interval week_start start i = start + i
step_day Yearly interval week_start start i = start + i

abbrev pub form_day : Pattern → ℕ → ℕ
form_day p i = step_day p.frequency p.interval p.week_start p.start i

-- it stands for others: the form allows it, and it is the first, or weekdays are meant, written or implied
unfoldable pub is_listed : Pattern → ℕ → Bool
is_listed p i = ((i == 0) || not (is_missing (weekdays_meant p))) && is_in_form p (form_day p i)

-- it, where it does
abbrev pub listed_day : Pattern → ℕ → Option ℕ
listed_day p i = if is_listed p i then Some (form_day p i) else None

-- after so many days the form allows the same days
abbrev pub cycle_of : Frequency → ℕ → Bool → ℕ
cycle_of Daily interval each = if each then interval else 7 * interval
cycle_of Weekly interval each = 7 * interval
cycle_of Monthly interval each = if each then 1 else 7
cycle_of Yearly interval each = if each then 1 else 7

abbrev pub form_cycle : Pattern → ℕ
form_cycle p = cycle_of p.frequency p.interval (is_missing p.weekdays)

-- two numbers are a multiple of this one apart
abbrev pub AreApartBy : ℕ → ℕ → ℕ → Type 0
AreApartBy of n m = (k : ℕ) × (l : ℕ) × ((n + k * of) ≡ (m + l * of))

-- one of the days that stand for all stands for this one
pub record IsCovered (p : Pattern) (n : ℕ) : Type 0 where
  pub i : ℕ
  pub few : i < 7
  pub listed : is_listed p i ≡ true
  pub same : AreApartBy (form_cycle p) n (form_day p i)
