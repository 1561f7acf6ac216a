-- What a VEVENT says on whatever clocks: by what a local time means there, `Means`, and by which local time they show at an instant, `Shows`. The
-- clocks of a zone that a room reads are one case, those of a zone in general another (RFC 5545 3.3.5, 3.3.6, 3.3.10, 3.6.5).
use Rattle.std.specs.Prelude.{◌≡◌, ◌↔◌, ℕ, ◌+◌, ◌*◌, ◌<◌, ◌≤◌, ◌⊎◌, true, List, Contains, codes, Option, Some, None, ℤ, pos, ◌+ℤ◌, ◌≤ℤ◌}
use Rattle.std.specs.Int.Signed.{◌<ℤ◌}
use Rattle.profile.specs.text.Lines.{line_value}
use Rattle.profile.specs.series.Days.{day_index}
use Rattle.profile.specs.series.Rules.{Rule, RuleText, Until, UntilDay, UntilLocal, UntilInstant, rule_of, is_rule_day, last_rule_day}
use Rattle.profile.specs.series.RuleTexts.{SpellsRule}
use Rattle.profile.specs.series.Zones.{Zone, Means, Shows, local_time, ShowsBy}
use Rattle.profile.specs.series.GeneralZones.{Run, IsGeneralOffsetAt, MeansGenerally}
use Rattle.profile.specs.events.Properties.{Length, LastsFor, lines_named}
use Rattle.profile.specs.events.EventRules.{IsOnDay, as_end}
use Rattle.profile.specs.doors.Uses.{IsLineIn, SaysLocal, SaysOnClock, SaysStamp}

-- ---- the rule (RFC 5545 3.3.10)

-- on each day from one on, up to 9999-12-31, that second of it is past the instant
abbrev pub NoneFromOn : (ℤ → ℤ → Type 0) → ℕ → ℤ → ℕ → Type 0
NoneFromOn Means second until from =
    (other : ℕ) → from ≤ other → other ≤ 3_652_424 → (start : ℤ) → Means (local_time other second) start → until <ℤ start

-- on that day, which is at most 9999-12-31, it isn't, and on each later one it is
pub record IsLastDayOn (Means : ℤ → ℤ → Type 0) (second : ℕ) (until : ℤ) (day : ℕ) : Type 0 where
  pub to_9999 : day ≤ 3_652_424
  pub start : ℤ
  pub means : Means (local_time day second) start
  pub not_past : start ≤ℤ until
  pub last : NoneFromOn Means second until (day + 1)

-- the last day that UNTIL allows
abbrev pub IsLastAllowedOn : (ℤ → ℤ → Type 0) → ℕ → Option Until → ℕ → Type 0
IsLastAllowedOn Means second None last = last ≡ last_rule_day
IsLastAllowedOn Means second (Some (UntilDay number)) last = last ≡ day_index number
IsLastAllowedOn Means second (Some (UntilLocal local)) last =
    (instant : ℤ) × Means local instant × IsLastDayOn Means second (as_end instant) last
IsLastAllowedOn Means second (Some (UntilInstant instant)) last = IsLastDayOn Means second (as_end instant) last

-- the rule that a text gives to an event that starts at a local time
pub record GivesRuleOn (Means : ℤ → ℤ → Type 0) (local : ℤ) (text : RuleText) (rule : Rule) : Type 0 where
  pub day : ℕ
  pub second : ℕ
  pub on : IsOnDay local day second
  pub last : ℕ
  pub allowed : IsLastAllowedOn Means second text.until last
  pub is : rule ≡ rule_of text day last
  pub starts : is_rule_day rule day ≡ true

-- an instant at which an event starts by its rule: on a day of it, at the second of the day of its first start
pub record IsRuleStartOn (Means : ℤ → ℤ → Type 0) (local : ℤ) (rule : Rule) (instant : ℤ) : Type 0 where
  pub first : ℕ
  pub second : ℕ
  pub on : IsOnDay local first second
  pub day : ℕ
  pub listed : is_rule_day rule day ≡ true
  pub means : Means (local_time day second) instant

-- ---- nominal days (RFC 5545 3.3.6)

-- this many days later by the clocks; without days it is the instant itself
abbrev pub IsDaysLaterOn : (ℤ → ℤ → Type 0) → (ℤ → ℤ → Type 0) → ℕ → ℤ → ℤ → Type 0
IsDaysLaterOn Means Shows days instant later =
    ((days ≡ 0) × (later ≡ instant)) ⊎ ((0 < days) × ((local : ℤ) × Shows instant local × Means (local +ℤ pos (86_400 * days)) later))

-- ---- when a VEVENT may start

-- an instant at which a VEVENT may start, whose DTSTART is this local time: at that, by its rule, or by an RDATE, which may be of another zone, or
-- a date
pub data MayStart (Means : ℤ → ℤ → Type 0) (lines : List (List ℕ)) (local t : ℤ) : Type 0 where
  first : Means local t → MayStart Means lines local t
  by_rule : (line : List ℕ) (text : RuleText) (rule : Rule) → Contains (lines_named (codes "RRULE") lines) line → SpellsRule (line_value line) text
      → GivesRuleOn Means local text rule → IsRuleStartOn Means local rule t → MayStart Means lines local t
  added : (line : List ℕ) → Contains (lines_named (codes "RDATE") lines) line → SaysStamp line t → MayStart Means lines local t
  -- on whatever clock, whose offset is less than a day: that of another zone, or of a room
  added_local : (line : List ℕ) (other : ℤ) → Contains (lines_named (codes "RDATE") lines) line → SaysOnClock line other → other ≤ℤ (t +ℤ pos 86_399)
      → MayStart Means lines local t

-- ---- the same

-- on both clocks a VEVENT, which is these lines, says the same by its times in the zone of this name: each local time that it names there means the same.
-- Where DTSTART is one of them, its rule has the same days and the same starts, if it isn't before 1970, and the days of its length, counted from a start
-- on, end at the same instant
pub record SaysSameOn (Means Shows Others ShowsOther : ℤ → ℤ → Type 0) (name : List ℕ) (lines : List (List ℕ)) : Type 0 where
  pub times : (line : List ℕ) (local t : ℤ) → IsLineIn name lines line → SaysLocal line local → Means local t ↔ Others local t
  pub rules : (start line : List ℕ) (local : ℤ) (text : RuleText) (rule : Rule) → Contains (lines_named (codes "DTSTART") lines) start → IsLineIn name lines start
      → SaysLocal start local → pos 0 ≤ℤ local → Contains (lines_named (codes "RRULE") lines) line → SpellsRule (line_value line) text
      → GivesRuleOn Means local text rule ↔ GivesRuleOn Others local text rule
  pub starts : (start line : List ℕ) (local : ℤ) (text : RuleText) (rule : Rule) (t : ℤ) → Contains (lines_named (codes "DTSTART") lines) start → IsLineIn name lines start
      → SaysLocal start local → pos 0 ≤ℤ local → Contains (lines_named (codes "RRULE") lines) line → SpellsRule (line_value line) text
      → GivesRuleOn Others local text rule → IsRuleStartOn Means local rule t ↔ IsRuleStartOn Others local rule t
  pub ends : (start line : List ℕ) (local : ℤ) (length : Length) (t end : ℤ) → Contains (lines_named (codes "DTSTART") lines) start → IsLineIn name lines start
      → SaysLocal start local → Contains (lines_named (codes "DURATION") lines) line → LastsFor line length → MayStart Others lines local t
      → IsDaysLaterOn Means Shows length.days t end ↔ IsDaysLaterOn Others ShowsOther length.days t end

-- the clocks of a zone in general, and those of a zone that a room reads
abbrev pub SaysSameAs : List Run → Zone → List ℕ → List (List ℕ) → Type 0
SaysSameAs zone other name lines =
    SaysSameOn (MeansGenerally zone) (ShowsBy (IsGeneralOffsetAt zone)) (Means other) (Shows other) name lines
