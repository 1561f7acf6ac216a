-- VTIMEZONEs in general: which runs of onsets their lines say, and what can be wrong with them (RFC 5545 3.6.5).
-- A part of a VTIMEZONE, STANDARD or DAYLIGHT, is its content lines here.
use Rattle.std.specs.Prelude.{◌≡◌, ◌↔◌, ℕ, ◌+◌, ◌<◌, ◌≤◌, true, ◌==◌, Contains, List, [], ◌∷◌, ◌++◌, length, map, codes, Option, Some, None, ℤ, ◌+ℤ◌, ◌-ℤ◌, ◌≤ℤ◌}
use Rattle.std.specs.List.{AllZip, flat_map, slice_split}
use Rattle.profile.specs.text.Lines.{line_value, line_param}
use Rattle.profile.specs.text.Trees.{Tree}
use Rattle.profile.specs.text.Values.{SpellsLocal}
use Rattle.profile.specs.events.Properties.{Says, SomeLine, IsMissing, OccursMoreThanOnce, lines_named, is_date_time}
use Rattle.profile.specs.series.Rules.{RuleText, Until, UntilDay, UntilLocal, UntilInstant, on_day_of_start, rule_of, rule_days_from}
use Rattle.profile.specs.series.RuleTexts.{SpellsRule}
use Rattle.profile.specs.series.Zones.{Observance, local_time}
use Rattle.profile.specs.series.ZoneTexts.{parts_by, is_part, IsLocalLine, IsOffsetLine, YearRule, year_pattern, is_one_day, time_names, IsFixedLine, IsNoLocalLine, IsNoOffsetLine}
use Rattle.profile.specs.series.GeneralZones.{End, Never, AfterCount, AtInstant, Run}

-- ---- what a part says of its times

-- its DTSTART and its two offsets (RFC 5545 3.6.5)
pub record SaysStartAndOffsets (lines : List (List ℕ)) (o : Observance) : Type 0 where
  pub start : Says (codes "DTSTART") true IsLocalLine lines (Some (local_time o.day o.second))
  pub second : o.second < 86_400
  pub from : Says (codes "TZOFFSETFROM") true IsOffsetLine lines (Some o.offset_from)
  pub to : Says (codes "TZOFFSETTO") true IsOffsetLine lines (Some o.offset_to)

-- ---- RDATE

-- the line says these local times, with commas between: VALUE is DATE-TIME or absent, and TZID is absent (RFC 5545 3.8.5.2)
abbrev pub IsDatesLine : List ℕ → List ℤ → Type 0
IsDatesLine line dates =
    (is_date_time line ≡ true) × (line_param (codes "TZID") line ≡ None) × AllZip SpellsLocal (slice_split (λ c. c == 44) (line_value line)) dates

-- the RDATEs of a part say these local times, in order
abbrev pub SaysDates : List (List ℕ) → List ℤ → Type 0
SaysDates lines dates =
    (each : List (List ℤ)) × AllZip IsDatesLine (lines_named (codes "RDATE") lines) each × (dates ≡ flat_map (λ xs. xs) each)

-- the run of one onset, at a local time and with the offsets of an observance
pub record IsRunAt (o : Observance) (local : ℤ) (run : Run) : Type 0 where
  pub day : ℕ
  pub second : ℕ
  pub in_day : second < 86_400
  pub at : local_time day second ≡ local
  pub is : run ≡ record {
    observance = record { day = day; second = second; rule = None; offset_from = o.offset_from; offset_to = o.offset_to };
    end = Never;
  }

-- ---- RRULE

-- the rule without COUNT and UNTIL
abbrev pub without_end : RuleText → RuleText
without_end rule = record {
  frequency = rule.frequency;
  interval = rule.interval;
  week_start = rule.week_start;
  months = rule.months;
  month_days = rule.month_days;
  weekdays = rule.weekdays;
  positions = rule.positions;
  count = None;
  until = None;
}

-- where COUNT and UNTIL end a rule whose TZOFFSETFROM is this: UNTIL is in UTC, and where it is a local time, that is read with TZOFFSETFROM,
-- which is this profile's choice. A date says no end here
abbrev pub IsEndOf : ℤ → Option ℕ → Option Until → End → Type 0
IsEndOf from None None end = end ≡ Never
IsEndOf from None (Some (UntilDay _)) end = ⊥
IsEndOf from None (Some (UntilLocal local)) end = end ≡ AtInstant (local -ℤ from)
IsEndOf from None (Some (UntilInstant until)) end = end ≡ AtInstant until
IsEndOf from (Some count) None end = end ≡ AfterCount count
IsEndOf from (Some _) (Some _) end = ⊥

-- a rule of one day a year, and its end
pub record EndingRule : Type 0 where
  pub each : YearRule
  pub end : End

-- the text is such a rule, in a part with these times
pub record SpellsEnding (o : Observance) (text : List ℕ) (r : EndingRule) : Type 0 where
  pub rule : RuleText
  pub spelled : SpellsRule text rule
  pub one_day : is_one_day (without_end (on_day_of_start o.day rule)) r.each ≡ true
  pub ends : IsEndOf o.offset_from rule.count rule.until r.end

abbrev pub IsEndingLine : Observance → List ℕ → EndingRule → Type 0
IsEndingLine o line r = SpellsEnding o (line_value line) r

-- the last day on which UNTIL allows an onset at the second of DTSTART, read with TZOFFSETFROM. Another end allows none here
abbrev pub IsLastOnsetDay : Observance → End → ℕ → Type 0
IsLastOnsetDay o Never last = ⊥
IsLastOnsetDay o (AfterCount count) last = ⊥
IsLastOnsetDay o (AtInstant until) last = (day : ℕ) → (local_time day o.second ≤ℤ (until +ℤ o.offset_from)) ↔ (day ≤ last)

-- the text is a rule that UNTIL ends, of another form, and these are its days from DTSTART on (RFC 5545 3.3.10): at most 200, and over at most
-- 40 years, this profile's choice
pub record SpellsOnsetDays (o : Observance) (text : List ℕ) (days : List ℕ) : Type 0 where
  pub rule : RuleText
  pub spelled : SpellsRule text rule
  pub not_one_day : (each : YearRule) → is_one_day (without_end (on_day_of_start o.day rule)) each ≡ true → ⊥
  pub end : End
  pub ends : IsEndOf o.offset_from rule.count rule.until end
  pub last : ℕ
  pub allowed : IsLastOnsetDay o end last
  pub near : last ≤ o.day + 14_610
  pub listed : days ≡ rule_days_from (rule_of (on_day_of_start o.day rule) o.day last) o.day
  pub few : length days ≤ 200

abbrev pub IsDaysLine : Observance → List ℕ → List ℕ → Type 0
IsDaysLine o line days = SpellsOnsetDays o (line_value line) days

-- ---- what a part says

-- the first runs of a part with these times: at DTSTART alone, or by its one RRULE, which is of one day a year, or whose days are listed
pub data AreFirstRuns (lines : List (List ℕ)) (o : Observance) : List Run → Type 0 where
  once : IsMissing (codes "RRULE") lines → o.rule ≡ None → AreFirstRuns lines o (record { observance = o; end = Never } ∷ [])
  yearly : (r : EndingRule) → Says (codes "RRULE") true (IsEndingLine o) lines (Some r) → o.rule ≡ Some (year_pattern r.each o.day)
      → AreFirstRuns lines o (record { observance = o; end = r.end } ∷ [])
  listed : (days : List ℕ) (runs : List Run) → Says (codes "RRULE") true (IsDaysLine o) lines (Some days)
      → AllZip (IsRunAt o) (map (λ day. local_time day o.second) days) runs → AreFirstRuns lines o runs

-- its runs
pub record SaysRuns (lines : List (List ℕ)) (runs : List Run) : Type 0 where
  pub o : Observance
  pub times : SaysStartAndOffsets lines o
  pub firsts : List Run
  pub are_first : AreFirstRuns lines o firsts
  pub dates : List ℤ
  pub says_dates : SaysDates lines dates
  pub others : List Run
  pub at_dates : AllZip (IsRunAt o) dates others
  pub all : runs ≡ firsts ++ others

-- ---- what a VTIMEZONE says: the runs of its parts, of which there is one at least

pub record PartsSayRuns (parts : List (List (List ℕ))) (runs : List Run) : Type 0 where
  pub some : parts ≡ [] → ⊥
  pub each : List (List Run)
  pub say : AllZip SaysRuns parts each
  pub all : runs ≡ flat_map (λ xs. xs) each

abbrev pub SaysGeneralZone : Tree → List Run → Type 0
SaysGeneralZone t runs = PartsSayRuns (parts_by is_part t) runs

-- ---- what can be wrong with it, by the number of its refusal

-- a line of RDATE isn't of local times: VALUE says something else, TZID is there, or one of them isn't one, as in UTC
abbrev pub IsNoDatesLine : List ℕ → Type 0
IsNoDatesLine line = (dates : List ℤ) → IsDatesLine line dates → ⊥

-- the text spells no rule, or one that a date ends; or it isn't of one day a year, and UNTIL doesn't end it soon, or it has more days than are listed
abbrev pub SpellsNoOnsets : Observance → List ℕ → Type 0
SpellsNoOnsets o text = ((r : EndingRule) → SpellsEnding o text r → ⊥) × ((days : List ℕ) → SpellsOnsetDays o text days → ⊥)

-- what is wrong with a part
pub data RunsFault (lines : List (List ℕ)) : ℕ → Type 0 where
  missing : (name : List ℕ) → Contains time_names name → IsMissing name lines → RunsFault lines 40
  twice : (name : List ℕ) → Contains time_names name → OccursMoreThanOnce name lines → RunsFault lines 40
  fixed : SomeLine (codes "DTSTART") IsFixedLine lines → RunsFault lines 40
  bad_start : SomeLine (codes "DTSTART") IsNoLocalLine lines → RunsFault lines 11
  bad_from : SomeLine (codes "TZOFFSETFROM") IsNoOffsetLine lines → RunsFault lines 13
  bad_to : SomeLine (codes "TZOFFSETTO") IsNoOffsetLine lines → RunsFault lines 13
  bad_date : SomeLine (codes "RDATE") IsNoDatesLine lines → RunsFault lines 40
  two_rules : OccursMoreThanOnce (codes "RRULE") lines → RunsFault lines 40
  bad_rule : (o : Observance) → SaysStartAndOffsets lines o → SomeLine (codes "RRULE") (λ line. SpellsNoOnsets o (line_value line)) lines → RunsFault lines 40

-- what is wrong with the parts
pub data GeneralPartsFault (parts : List (List (List ℕ))) : ℕ → Type 0 where
  no_part : parts ≡ [] → GeneralPartsFault parts 40
  in_part : {n : ℕ} (part : List (List ℕ)) → Contains parts part → RunsFault part n → GeneralPartsFault parts n

-- the VTIMEZONE has the fault of this number
abbrev pub GeneralZoneFault : Tree → ℕ → Type 0
GeneralZoneFault t number = GeneralPartsFault (parts_by is_part t) number
