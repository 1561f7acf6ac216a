-- What RECURRENCE-ID, RDATE and EXDATE say before they are judged with the rest of their VEVENT.
use Rattle.std.specs.Prelude.{◌≡◌, ◌↔◌, ◌⊎◌, ℕ, true, false, IsTrue, List, map, codes, Contains, Option, None, Some, is_some, option_map, ℤ}
use Rattle.std.specs.List.{AllZip}
use Rattle.profile.specs.text.Lines.{line_value}
use Rattle.profile.specs.text.Trees.{Tree}
use Rattle.profile.specs.faults.Blame.{IsAt, Numbered}
use Rattle.profile.specs.series.ZoneBlame.{NumberedZone}
use Rattle.profile.specs.series.Zones.{Zone, Means}
use Rattle.profile.specs.events.EventComponents as properties
use Rattle.profile.specs.events.EventComponents.{is_named_by}
use Rattle.profile.specs.events.Properties.{Says}
use Rattle.profile.specs.events.ZonedTimes.{is_in_zone, clock_of, IsInDates, SaysZonedText}
use Rattle.cal_events.specs.Blame.{TextBlame}
use Rattle.cal_events.specs.Times.{form_of, time_of}
use Rattle.profile.specs.events.Occurrences.{Time, ListedTime, has_range, Lists, IsInside, IsOutside, is_period}
use Rattle.cal_events.specs.declared.occurrences.Listing.{Listing}
use Rattle.cal_events.specs.declared.occurrences.Listing.TheVariants.{Additions, Exceptions}
use Rattle.cal_events.specs.declared.occurrences.SaidInstant.{SaidInstant}
use Rattle.cal_events.specs.declared.occurrences.SaidInstants.{SaidInstants}

abbrev pub name_of : Listing → List ℕ
name_of Additions = codes "RDATE"
name_of Exceptions = codes "EXDATE"

-- a text of the line says this time, which is in the dates that an event may name, or isn't
abbrev pub SaysSo : Tree → List ℕ → List ℕ → SaidInstant → Type 0
SaysSo object line text said =
    (zone : Option Zone) × (local : ℤ) × SaysZonedText object line text (form_of said.time.form) zone local
    × Means (clock_of zone) local said.time.instant
    × (IsTrue said.in_dates ↔ IsInDates false (form_of said.time.form) (is_in_zone line) local said.time.instant)

-- RECURRENCE-ID says so, without RANGE, or is absent
abbrev pub IsRecurrenceSo : Tree → List ℕ → SaidInstant → Type 0
IsRecurrenceSo object line said = (has_range line ≡ false) × SaysSo object line (line_value line) said

abbrev pub IsRecurrenceSaid : Tree → List (List ℕ) → Option SaidInstant → Type 0
IsRecurrenceSaid object lines said = Says (codes "RECURRENCE-ID") false (IsRecurrenceSo object) lines said

-- the time that was said
abbrev pub time_said : Option SaidInstant → Option Time
time_said said = option_map (λ x. time_of x.time) said

-- these times of a property were read
pub record AreListed (object : Tree) (name : List ℕ) (entries : List ListedTime) (said : SaidInstants) : Type 0 where
  pub lists : Lists object name entries (map time_of said.times.items)
  pub inside : said.outside ≡ None → AllZip (IsInside object) entries (map time_of said.times.items)
  pub outside : is_some said.outside ≡ true → (entry : ListedTime) × Contains entries entry × IsOutside object entry

-- a time of a list of this name is refused with this number at this line: it is a period or one too many, or as another text
abbrev pub ListedBlame : List NumberedZone → List ℕ → ℕ × List ℕ → List ℕ → ℕ → ℕ → Type 0
ListedBlame zones name line text n at = ((at ≡ line.0) × (n ≡ 56)) ⊎ ((is_period name text ≡ false) × TextBlame zones line text n at)

-- ---- lines, by their numbers

-- the line of this number is of the property
abbrev pub IsLineNamed : properties.Property → Numbered → ℕ → Type 0
IsLineNamed property event at = IsAt event.lines at (λ line. is_named_by line property ≡ true)

-- of RDATE, or of EXDATE
abbrev pub IsListLine : Listing → Numbered → ℕ → Type 0
IsListLine Additions event at = IsLineNamed properties.RDATE event at
IsListLine Exceptions event at = IsLineNamed properties.EXDATE event at

-- of RRULE or RDATE
abbrev pub IsRecurringLine : Numbered → ℕ → Type 0
IsRecurringLine event at = IsLineNamed properties.RRULE event at ⊎ IsLineNamed properties.RDATE event at

-- it is the line of the time that was said
abbrev pub IsAtSaid : Option SaidInstant → ℕ → Type 0
IsAtSaid said at = option_map (λ x. x.line) said ≡ Some at
