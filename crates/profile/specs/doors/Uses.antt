-- Which zones the times of an object name, from when on and until when (RFC 5545 3.2.19, 3.8.2, 3.8.4.4, 3.8.5).
-- Local times are seconds from 1970-01-01T00:00:00 on the clocks of the zone.
use Rattle.std.specs.Prelude.{◌≡◌, ℕ, ◌<◌, ◌==◌, ◌⊎◌, Bool, true, List, [], ◌∷◌, codes, Contains, Some, ℤ, pos, ◌+ℤ◌, ◌*ℤ◌, ◌≤ℤ◌}
use Rattle.std.specs.List.{slice_split, list_any}
use Rattle.profile.specs.text.Lines.{line_value, line_param}
use Rattle.profile.specs.text.Trees.{Tree, vevents}
use Rattle.profile.specs.text.Values.{SpellsLocal, SpellsStamp}
use Rattle.profile.specs.series.Rules.{RuleText, UntilDay, UntilLocal, UntilInstant}
use Rattle.profile.specs.series.RuleTexts.{SpellsRule}
use Rattle.profile.specs.events.Properties.{Length, LastsFor, is_of, lines_named}
use Rattle.profile.specs.events.ZonedTimes.{SpellsMidnight}

-- ---- the times that name a zone

-- the properties of a VEVENT whose values are times
abbrev pub time_properties : List (List ℕ)
time_properties =
    codes "DTSTART" ∷ codes "DTEND" ∷ codes "RECURRENCE-ID" ∷ codes "RDATE" ∷ codes "EXDATE" ∷ []

abbrev pub is_time_line : List ℕ → Bool
is_time_line line = list_any (λ name. is_of name line) time_properties

-- a line of a VEVENT, which is these lines, says times in the zone of this name
pub record IsLineIn (name : List ℕ) (lines : List (List ℕ)) (line : List ℕ) : Type 0 where
  pub among : Contains lines line
  pub says_times : is_time_line line ≡ true
  pub in_zone : line_param (codes "TZID") line ≡ Some name

-- a text of a line, with commas between, is this local time
abbrev pub SaysLocal : List ℕ → ℤ → Type 0
SaysLocal line local = (text : List ℕ) × Contains (slice_split (λ c. c == 44) (line_value line)) text × SpellsLocal text local

-- a VEVENT of the object names the zone
abbrev pub NamesZone : Tree → List ℕ → Type 0
NamesZone object name = (lines : List (List ℕ)) × (line : List ℕ) × Contains (vevents object) lines × IsLineIn name lines line

-- ---- from when on it is used

-- the VEVENT lasts nominal days
abbrev pub LastsDays : List (List ℕ) → Type 0
LastsDays lines = (line : List ℕ) × (length : Length) × Contains (lines_named (codes "DURATION") lines) line × LastsFor line length × (0 < length.days)

-- a text of a line, with commas between, is this instant in UTC
abbrev pub SaysStamp : List ℕ → ℤ → Type 0
SaysStamp line instant = (text : List ℕ) × Contains (slice_split (λ c. c == 44) (line_value line)) text × SpellsStamp text instant

-- the text is this local time, or a date whose day begins then, on whatever clock
abbrev pub SpellsOnClock : List ℕ → ℤ → Type 0
SpellsOnClock text local = SpellsLocal text local ⊎ SpellsMidnight text local

-- a text of a line, with commas between, is that
abbrev pub SaysOnClock : List ℕ → ℤ → Type 0
SaysOnClock line local = (text : List ℕ) × Contains (slice_split (λ c. c == 44) (line_value line)) text × SpellsOnClock text local

-- no local time that a VEVENT names in the zone of this name is earlier than this, and none that its UNTIL names. Where it lasts nominal days, the
-- clocks at each of its starts decide when it ends: then no time of it is earlier, on whatever clock, whose offset is less than a day
pub record EventBeginsBy (name : List ℕ) (lines : List (List ℕ)) (first : ℤ) : Type 0 where
  pub times : (line : List ℕ) (local : ℤ) → IsLineIn name lines line → SaysLocal line local → first ≤ℤ local
  pub until : (line : List ℕ) (rule : RuleText) (local : ℤ) → Contains (lines_named (codes "RRULE") lines) line → SpellsRule (line_value line) rule
      → rule.until ≡ Some (UntilLocal local) → first ≤ℤ local
  pub local_days : LastsDays lines → (line : List ℕ) (local : ℤ) → Contains lines line → is_time_line line ≡ true → SaysOnClock line local
      → (first +ℤ pos 86_399) ≤ℤ local
  pub utc_days : LastsDays lines → (line : List ℕ) (instant : ℤ) → Contains lines line → is_time_line line ≡ true → SaysStamp line instant
      → first ≤ℤ instant

-- so it is with each VEVENT that names the zone
abbrev pub BeginsBy : Tree → List ℕ → ℤ → Type 0
BeginsBy object name first =
    (lines : List (List ℕ)) (line : List ℕ) → Contains (vevents object) lines → IsLineIn name lines line → EventBeginsBy name lines first

-- ---- how long its times go on

-- UNTIL ends the rule, and no clock, whose offset is less than a day, shows a later local time than this at a start that it allows. A local time
-- as UNTIL means an instant by one offset, and a start is shown with another
pub data RuleEndsBy (rule : RuleText) (last : ℤ) : Type 0 where
  by_day : (day : ℤ) → rule.until ≡ Some (UntilDay day) → ((day *ℤ pos 86_400) +ℤ pos 86_400) ≤ℤ last → RuleEndsBy rule last
  by_local : (local : ℤ) → rule.until ≡ Some (UntilLocal local) → (local +ℤ pos 172_800) ≤ℤ last → RuleEndsBy rule last
  by_instant : (instant : ℤ) → rule.until ≡ Some (UntilInstant instant) → (instant +ℤ pos 86_400) ≤ℤ last → RuleEndsBy rule last

-- no local time that a VEVENT names, and none at which it starts by its rule, is later than this; and it lasts no nominal days, so that no
-- other local time decides when it ends
pub record EventEndsBy (lines : List (List ℕ)) (last : ℤ) : Type 0 where
  pub times : (line : List ℕ) (local : ℤ) → Contains lines line → is_time_line line ≡ true → SaysLocal line local → local ≤ℤ last
  pub rules : (line : List ℕ) → Contains (lines_named (codes "RRULE") lines) line → (rule : RuleText) × SpellsRule (line_value line) rule × RuleEndsBy rule last
  pub no_days : (line : List ℕ) (length : Length) → Contains (lines_named (codes "DURATION") lines) line → LastsFor line length → length.days ≡ 0

-- so it is with each VEVENT that names the zone
abbrev pub EndsBy : Tree → List ℕ → ℤ → Type 0
EndsBy object name last =
    (lines : List (List ℕ)) (line : List ℕ) → Contains (vevents object) lines → IsLineIn name lines line → EventEndsBy lines last
