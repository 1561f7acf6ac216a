-- What the reader of a VTIMEZONE in general sees.
use Rattle.std.specs.Prelude.{◌≡◌, ◌<◌, ◌≤◌, ℕ, ◌+◌, true, List, [], ◌∷◌, ◌++◌, map, codes, Some, ℤ}
use Rattle.std.specs.List.{AllZip}
use Rattle.profile.specs.events.Properties.{Says, SomeLine}
use Rattle.profile.specs.text.Values.{SpellsLocal}
use Rattle.profile.specs.series.Days.{day_index}
use Rattle.profile.specs.series.Rules.{RuleText}
use Rattle.profile.specs.series.Zones.{Observance, local_time}
use Rattle.profile.specs.series.ZoneTexts.{IsLocalLine, IsOffsetLine}
use Rattle.profile.specs.series.GeneralZones.{End, Run}
use Rattle.profile.specs.series.GeneralZoneTexts as texts
use Rattle.profile.specs.series.GeneralZoneTexts.{IsRunAt, IsDatesLine, IsNoDatesLine, SaysDates, SpellsEnding, SpellsOnsetDays, SpellsNoOnsets, IsLastOnsetDay, AreFirstRuns, SaysRuns}
use Rattle.cal_zones.specs.Shapes.{rule_named}
use Rattle.cal_doors.specs.Ends.{end_of}
use Rattle.cal_doors.specs.Listed.{HasStart, AreListedDays, AreMany}
use Rattle.cal_doors.specs.Runs.{IsYearlyRun}
use Rattle.cal_doors.specs.declared.rule.EndingRule.{EndingRule}
use Rattle.cal_doors.specs.declared.rule.PartRule.{PartRule}
use Rattle.cal_doors.specs.declared.rule.PartRule.TheVariants.{Yearly, Listed}
use Rattle.cal_doors.specs.declared.rule.Last.{Last}
use Rattle.cal_doors.specs.declared.rule.Last.TheVariants.{Never, Before, Far, On}

-- what a rule and its end represent
abbrev pub ending_of : EndingRule → texts.EndingRule
ending_of r = record { each = rule_named r.day.month r.day.days; end = end_of r.end }

-- the text spells this rule, in each part with this DTSTART and this TZOFFSETFROM
abbrev pub SpellsRuleOf : ℤ → ℤ → List ℕ → PartRule → Type 0
SpellsRuleOf start from text (Yearly rule) = (o : Observance) → HasStart start from o → SpellsEnding o text (ending_of rule)
SpellsRuleOf start from text (Listed days) = (o : Observance) → HasStart start from o → SpellsOnsetDays o text (map day_index days.items)

-- it spells none in any
abbrev pub SpellsNoRuleOf : ℤ → ℤ → List ℕ → Type 0
SpellsNoRuleOf start from text = (o : Observance) → HasStart start from o → SpellsNoOnsets o text

-- up to when the onsets of a rule with this end come, in each such part
abbrev pub IsLastFrom : ℤ → ℤ → End → Last → Type 0
IsLastFrom start from end Never = (o : Observance) (day : ℕ) → IsLastOnsetDay o end day → ⊥
IsLastFrom start from end Before = (o : Observance) → HasStart start from o → (day : ℕ) × IsLastOnsetDay o end day × (day < o.day)
IsLastFrom start from end Far = (o : Observance) → HasStart start from o → (day : ℕ) × IsLastOnsetDay o end day × (o.day + 14_610 < day)
IsLastFrom start from end (On last) = (o : Observance) → HasStart start from o → IsLastOnsetDay o end (day_index last) × (day_index last ≤ o.day + 14_610)

-- up to then these are the days of a rule from one on
abbrev pub AreDaysTo : RuleText → ℕ → Last → List ℕ → Type 0
AreDaysTo rule first Never days = ⊥
AreDaysTo rule first Before days = days ≡ []
AreDaysTo rule first Far days = ⊥
AreDaysTo rule first (On last) days = AreListedDays rule first (day_index last) days

-- they don't end, or are too many
abbrev pub AreNoDaysTo : RuleText → ℕ → Last → Type 0
AreNoDaysTo rule first Never = Unit {0}
AreNoDaysTo rule first Before = ⊥
AreNoDaysTo rule first Far = Unit {0}
AreNoDaysTo rule first (On last) = AreMany rule first (day_index last)

-- a part has this DTSTART and these offsets
pub record AreTimes (lines : List (List ℕ)) (start from to : ℤ) : Type 0 where
  pub says_start : Says (codes "DTSTART") true IsLocalLine lines (Some start)
  pub says_from : Says (codes "TZOFFSETFROM") true IsOffsetLine lines (Some from)
  pub says_to : Says (codes "TZOFFSETTO") true IsOffsetLine lines (Some to)

-- the observance has them
pub record HasTimes (start from to : ℤ) (o : Observance) : Type 0 where
  pub begins : HasStart start from o
  pub after : o.offset_to ≡ to

-- the first runs of a part that has them were added behind others
pub record AddsFirst (lines : List (List ℕ)) (start from to : ℤ) (old new : List Run) : Type 0 where
  pub o : Observance
  pub times : HasTimes start from to o
  pub firsts : List Run
  pub are_first : AreFirstRuns lines o firsts
  pub behind : new ≡ old ++ firsts

-- the run of one day a year was
abbrev pub AddsYearly : EndingRule → ℤ → ℤ → ℤ → List Run → List Run → Type 0
AddsYearly rule start from to old new = (run : Run) × IsYearlyRun start rule.day from to (end_of rule.end) run × (new ≡ old ++ run ∷ [])

-- these are the runs of one onset at some local times
abbrev pub AreRunsAt : ℤ → ℤ → List ℤ → List Run → Type 0
AreRunsAt from to dates runs = (o : Observance) → o.offset_from ≡ from → o.offset_to ≡ to → AllZip (IsRunAt o) dates runs

-- they were added behind others
pub record AddsRuns (from to : ℤ) (dates : List ℤ) (old new : List Run) : Type 0 where
  pub more : List Run
  pub behind : new ≡ old ++ more
  pub at_dates : AreRunsAt from to dates more

-- those of one onset on each of some days were, at the time of day of DTSTART
abbrev pub AddsDays : ℤ → ℤ → ℤ → List ℕ → List Run → List Run → Type 0
AddsDays start from to days old new = (o : Observance) → HasStart start from o → AddsRuns from to (map (λ day. local_time day o.second) days) old new

-- that of a text was
abbrev pub AddsDate : ℤ → ℤ → List ℕ → List Run → List Run → Type 0
AddsDate from to text old new = (local : ℤ) × SpellsLocal text local × AddsRuns from to (local ∷ []) old new

-- those of a line of RDATE were
abbrev pub AddsDatesOf : ℤ → ℤ → List ℕ → List Run → List Run → Type 0
AddsDatesOf from to line old new = (dates : List ℤ) × IsDatesLine line dates × AddsRuns from to dates old new

-- those of the RDATEs of a part were
abbrev pub AddsDates : ℤ → ℤ → List (List ℕ) → List Run → List Run → Type 0
AddsDates from to lines old new = (dates : List ℤ) × SaysDates lines dates × AddsRuns from to dates old new

-- all of a part were
abbrev pub AddsPart : List (List ℕ) → List Run → List Run → Type 0
AddsPart lines old new = (more : List Run) × SaysRuns lines more × (new ≡ old ++ more)

-- the text is no local time
abbrev pub DateFault : List ℕ → ℕ → Type 0
DateFault text number = (number ≡ 40) × ((local : ℤ) → SpellsLocal text local → ⊥)

-- a line of RDATE isn't of local times
abbrev pub LineFault : List ℕ → ℕ → Type 0
LineFault line number = (number ≡ 40) × IsNoDatesLine line

-- one of them isn't
abbrev pub DatesFault : List (List ℕ) → ℕ → Type 0
DatesFault lines number = (number ≡ 40) × SomeLine (codes "RDATE") IsNoDatesLine lines
