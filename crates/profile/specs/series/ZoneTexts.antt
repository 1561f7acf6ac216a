-- VTIMEZONEs: which zone their lines say, and what can be wrong with them (RFC 5545 3.6.5).
-- A part of a VTIMEZONE, STANDARD or DAYLIGHT, is its content lines here.
use Rattle.std.specs.Prelude.{◌≡◌, ℕ, ◌+◌, ◌-◌, ◌<◌, ◌≤◌, ◌⊎◌, Bool, true, false, not, ◌&&◌, ◌||◌, ◌==◌, nat_le, nat_lt, List, [], ◌∷◌, length, map, filter, Contains, codes, Some, None, is_none, ℤ, pos, negsuc, neg_ℤ, ◌+ℤ◌, ◌-ℤ◌, unsigned_abs}
use Rattle.std.specs.List.{list_all, list_any, range_with_len}
use Rattle.std.specs.Ordering.{int_eq}
use Rattle.profile.specs.faults.Faults.{is_between}
use Rattle.profile.specs.text.Lines.{line_value, line_param, is_same_name}
use Rattle.profile.specs.text.Trees.{Tree, tree_name, tree_own, tree_inside}
use Rattle.profile.specs.series.Days.{days_in_month, Yearly}
use Rattle.profile.specs.series.Rules.{WeekdayNumber, Pattern, RuleText, is_missing, is_yearly, is_base}
use Rattle.profile.specs.series.RuleTexts.{SpellsRule, RuleFault}
use Rattle.profile.specs.text.Values.{SpellsLocal, SpellsOffset}
use Rattle.profile.specs.events.Properties.{Says, SomeLine, IsMissing, OccursMoreThanOnce, is_date_time, ends_in_z}
use Rattle.profile.specs.series.Zones.{Observance, Zone, Constant, Single, Pair, local_time}

-- ---- the parts

-- the components directly inside whose name passes the test, each as its own lines, in order
abbrev pub parts_by : (List ℕ → Bool) → Tree → List (List (List ℕ))
parts_by test t = map tree_own (filter (λ part. test (tree_name part)) (tree_inside t))

abbrev pub is_standard : List ℕ → Bool
is_standard name = is_same_name name (codes "STANDARD")

abbrev pub is_daylight : List ℕ → Bool
is_daylight name = is_same_name name (codes "DAYLIGHT")

abbrev pub is_part : List ℕ → Bool
is_part name = is_standard name || is_daylight name

-- ---- what a part says of its times

-- the value of the line is this local time: VALUE is DATE-TIME or absent, and TZID is absent (RFC 5545 3.3.5, form 1)
abbrev pub IsLocalLine : List ℕ → ℤ → Type 0
IsLocalLine line local = (is_date_time line ≡ true) × (line_param (codes "TZID") line ≡ None) × SpellsLocal (line_value line) local

abbrev pub IsOffsetLine : List ℕ → ℤ → Type 0
IsOffsetLine line offset = SpellsOffset (line_value line) offset

-- the lines of a part say the times of this observance, whose DTSTART is local (RFC 5545 3.6.5). No RDATE: this profile's choice
pub record SaysPartTimes (lines : List (List ℕ)) (o : Observance) : Type 0 where
  pub start : Says (codes "DTSTART") true IsLocalLine lines (Some (local_time o.day o.second))
  pub second : o.second < 86_400
  pub from : Says (codes "TZOFFSETFROM") true IsOffsetLine lines (Some o.offset_from)
  pub to : Says (codes "TZOFFSETTO") true IsOffsetLine lines (Some o.offset_to)
  pub no_dates : IsMissing (codes "RDATE") lines

-- ---- rules of one day a year

-- the day of its month that a rule names: one BYMONTHDAY; a BYDAY with a number, from the start of the month or, here without its
-- sign, from its end; seven BYMONTHDAYs in a row, from this one on, and a BYDAY without a number. Monday is 0
pub data MonthDays : Type 0 where
  OnDay : ℕ → MonthDays
  FromStart : ℕ → ℕ → MonthDays
  FromEnd : ℕ → ℕ → MonthDays
  InWeek : ℕ → ℕ → MonthDays

-- the month of BYMONTH and the day of it
pub record YearRule : Type 0 where
  pub month : ℕ
  pub days : MonthDays

-- every year has this day, once: the rules that are read, which is this profile's choice
abbrev pub is_each_year : ℕ → MonthDays → Bool
is_each_year month (OnDay day) = is_between 1 12 month && is_between 1 28 day
is_each_year month (FromStart number weekday) = is_between 1 12 month && is_between 1 4 number && nat_lt weekday 7
is_each_year month (FromEnd number weekday) = is_between 1 12 month && is_between 1 4 number && nat_lt weekday 7
is_each_year month (InWeek first weekday) =
    is_between 1 12 month && nat_le 1 first && nat_le (first + 6) (days_in_month 1 month) && nat_lt weekday 7

-- BYMONTHDAY and BYDAY as they are written
abbrev pub month_days_of : MonthDays → List ℤ
month_days_of (OnDay day) = pos day ∷ []
month_days_of (FromStart _ _) = []
month_days_of (FromEnd _ _) = []
month_days_of (InWeek first _) =
    pos first ∷ pos (first + 1) ∷ pos (first + 2) ∷ pos (first + 3) ∷ pos (first + 4) ∷ pos (first + 5) ∷ pos (first + 6) ∷ []

abbrev pub weekdays_of : MonthDays → List WeekdayNumber
weekdays_of (OnDay _) = []
weekdays_of (FromStart number weekday) = record { number = pos number; weekday = weekday } ∷ []
weekdays_of (FromEnd number weekday) = record { number = negsuc (number - 1); weekday = weekday } ∷ []
weekdays_of (InWeek _ weekday) = record { number = pos 0; weekday = weekday } ∷ []

-- the parts of FREQ=YEARLY with that BYMONTH and that day, on from a DTSTART
abbrev pub year_pattern : YearRule → ℕ → Pattern
year_pattern r start = record {
  frequency = Yearly;
  interval = 1;
  week_start = 0;
  months = r.month ∷ [];
  month_days = month_days_of r.days;
  weekdays = weekdays_of r.days;
  positions = [];
  start = start;
}

-- Lists are compared as sets from here on: order doesn't matter, nor do repeats.

-- there are entries, and it holds for each
abbrev pub are_only : {A : Type 0} → (A → Bool) → List A → Bool
are_only test xs = not (is_missing xs) && list_all test xs

abbrev pub is_weekday : ℤ → ℕ → WeekdayNumber → Bool
is_weekday number weekday entry = int_eq entry.number number && (entry.weekday == weekday)

abbrev pub is_of_seven : ℕ → ℤ → Bool
is_of_seven first (pos n) = is_between first (first + 6) n
is_of_seven first (negsuc n) = false

-- the entries are seven numbers in a row, from this one on
abbrev pub are_seven : ℕ → List ℤ → Bool
are_seven first xs =
    list_all (is_of_seven first) xs
    && list_all (λ more. list_any (λ x. int_eq x (pos (first + more))) xs) (range_with_len 0 7)

-- BYMONTHDAY and BYDAY name this day and no other
abbrev pub names_days : MonthDays → List ℤ → List WeekdayNumber → Bool
names_days (OnDay day) numbers entries = are_only (λ x. int_eq x (pos day)) numbers && is_missing entries
names_days (FromStart number weekday) numbers entries = is_missing numbers && are_only (is_weekday (pos number) weekday) entries
names_days (FromEnd number weekday) numbers entries = is_missing numbers && are_only (is_weekday (neg_ℤ (pos number)) weekday) entries
names_days (InWeek first weekday) numbers entries = are_seven first numbers && are_only (is_weekday (pos 0) weekday) entries

-- FREQ=YEARLY without INTERVAL, COUNT, UNTIL and BYSETPOS; WKST is allowed
abbrev pub is_plain_yearly : RuleText → Bool
is_plain_yearly rule =
    is_yearly rule.frequency && (rule.interval == 1) && is_none rule.count && is_none rule.until && is_missing rule.positions

-- the rule names this day of the year and no other
abbrev pub is_one_day : RuleText → YearRule → Bool
is_one_day rule r =
    is_plain_yearly rule && are_only (λ month. month == r.month) rule.months && names_days r.days rule.month_days rule.weekdays
    && is_each_year r.month r.days

-- the text is such a rule
abbrev pub SpellsYear : List ℕ → YearRule → Type 0
SpellsYear text r = (rule : RuleText) × SpellsRule text rule × (is_one_day rule r ≡ true)

abbrev pub IsYearLine : List ℕ → YearRule → Type 0
IsYearLine line r = SpellsYear (line_value line) r

-- ---- what a part says

-- an observance that begins once
pub record SaysOnce (lines : List (List ℕ)) (o : Observance) : Type 0 where
  pub times : SaysPartTimes lines o
  pub no_rule : IsMissing (codes "RRULE") lines
  pub is : o.rule ≡ None

-- one that begins every year
pub record SaysYearly (lines : List (List ℕ)) (o : Observance) : Type 0 where
  pub times : SaysPartTimes lines o
  pub each : YearRule
  pub rule : Says (codes "RRULE") true IsYearLine lines (Some each)
  pub is : o.rule ≡ Some (year_pattern each o.day)

-- one that changes nothing: both its offsets are this one. RRULE is ignored
abbrev pub KeepsOffset : ℤ → List (List ℕ) → Type 0
KeepsOffset offset lines = (o : Observance) × SaysPartTimes lines o × (o.offset_from ≡ offset) × (o.offset_to ≡ offset)

-- one that has another offset than this one
abbrev pub Strays : ℤ → List (List ℕ) → Type 0
Strays offset lines = (o : Observance) × SaysPartTimes lines o × ((o.offset_from ≡ offset) × (o.offset_to ≡ offset) → ⊥)

-- some of the offsets that the parts say differ
pub record OffsetsDiffer (parts : List (List (List ℕ))) : Type 0 where
  pub one : List (List ℕ)
  pub other : List (List ℕ)
  pub o : Observance
  pub one_in : Contains parts one
  pub other_in : Contains parts other
  pub says : SaysPartTimes one o
  pub strays : Strays o.offset_from other

-- ---- the forms of a zone that are read, which are this profile's choice

-- of a VTIMEZONE with these parts, of which these are STANDARD and these are DAYLIGHT
pub data HasForm (parts standards daylights : List (List (List ℕ))) : Zone → Type 0 where
  -- one offset for all time
  constant : (offset : ℤ) (part : List (List ℕ)) → Contains parts part → ((other : List (List ℕ)) → Contains parts other → KeepsOffset offset other)
      → HasForm parts standards daylights (Constant offset)
  -- one part that begins once
  single : (part : List (List ℕ)) (a : Observance) → OffsetsDiffer parts → parts ≡ part ∷ [] → SaysOnce part a
      → HasForm parts standards daylights (Single a)
  -- one of each name, both on one day a year
  pair : (standard daylight : List (List ℕ)) (a b : Observance) → OffsetsDiffer parts → standards ≡ standard ∷ [] → daylights ≡ daylight ∷ []
      → SaysYearly standard a → SaysYearly daylight b → HasForm parts standards daylights (Pair a b)

-- each TZOFFSETFROM is the other part's TZOFFSETTO, and the two are at most 12 hours apart, which is this profile's choice
abbrev pub AreMatched : Zone → Type 0
AreMatched (Constant _) = Unit {0}
AreMatched (Single a) = unsigned_abs (a.offset_from -ℤ a.offset_to) ≤ 43_200
AreMatched (Pair a b) =
    (a.offset_to ≡ b.offset_from) × (b.offset_to ≡ a.offset_from) × (unsigned_abs (a.offset_from -ℤ a.offset_to) ≤ 43_200)

-- an onset of an observance's rule in any year, also before DTSTART
pub record IsRuleOnset (o : Observance) (instant : ℤ) : Type 0 where
  pub parts : Pattern
  pub rule : o.rule ≡ Some parts
  pub day : ℕ
  pub on : is_base parts day ≡ true
  pub read : instant +ℤ o.offset_from ≡ local_time day o.second

-- an onset of the one rule and one of the other are always at least two days apart, this profile's choice
abbrev pub AreSpaced : Zone → Type 0
AreSpaced (Constant _) = Unit {0}
AreSpaced (Single _) = Unit {0}
AreSpaced (Pair a b) = (x y : ℤ) → IsRuleOnset a x → IsRuleOnset b y → 172_800 ≤ unsigned_abs (x -ℤ y)

-- two of them are closer
abbrev pub AreClose : Zone → Type 0
AreClose (Constant _) = ⊥
AreClose (Single _) = ⊥
AreClose (Pair a b) = (x : ℤ) × (y : ℤ) × IsRuleOnset a x × IsRuleOnset b y × (unsigned_abs (x -ℤ y) < 172_800)

-- the parts say this zone
pub record PartsSay (parts standards daylights : List (List (List ℕ))) (zone : Zone) : Type 0 where
  pub form : HasForm parts standards daylights zone
  pub matched : AreMatched zone
  pub spaced : AreSpaced zone

-- a rule is missing, the offsets don't match, or two onsets of the rules are too close
abbrev pub IsPairFault : ℕ → Observance → Observance → Type 0
IsPairFault number a b =
    ((number ≡ 40) × ((a.rule ≡ None) ⊎ (b.rule ≡ None))) ⊎ ((number ≡ 41) × (AreMatched (Pair a b) → ⊥))
    ⊎ ((number ≡ 42) × AreClose (Pair a b))

-- one observance has a rule, or its offsets are more than 12 hours apart
abbrev pub IsSingleFault : ℕ → Observance → Type 0
IsSingleFault number a =
    ((number ≡ 40) × (a.rule ≡ None → ⊥)) ⊎ ((number ≡ 41) × (43_200 < unsigned_abs (a.offset_from -ℤ a.offset_to)))

-- the VTIMEZONE says this zone
abbrev pub SaysZone : Tree → Zone → Type 0
SaysZone t zone = PartsSay (parts_by is_part t) (parts_by is_standard t) (parts_by is_daylight t) zone

-- ---- what can be wrong with a VTIMEZONE, by the number of its refusal

-- the value ends in `Z`, or the line has TZID; a local time without a zone has neither
abbrev pub IsFixedLine : List ℕ → Type 0
IsFixedLine line = (ends_in_z (line_value line) ≡ true) ⊎ (line_param (codes "TZID") line ≡ None → ⊥)

-- VALUE says something else, or the value isn't a local time
abbrev pub IsNoLocalLine : List ℕ → Type 0
IsNoLocalLine line = (is_date_time line ≡ false) ⊎ ((local : ℤ) → SpellsLocal (line_value line) local → ⊥)

abbrev pub IsNoOffsetLine : List ℕ → Type 0
IsNoOffsetLine line = (offset : ℤ) → SpellsOffset (line_value line) offset → ⊥

-- the properties that occur exactly once in a part
abbrev pub time_names : List (List ℕ)
time_names = codes "DTSTART" ∷ codes "TZOFFSETFROM" ∷ codes "TZOFFSETTO" ∷ []

-- what is wrong with the times of a part
pub data TimesFault (lines : List (List ℕ)) : ℕ → Type 0 where
  dates : (IsMissing (codes "RDATE") lines → ⊥) → TimesFault lines 40
  missing : (name : List ℕ) → Contains time_names name → IsMissing name lines → TimesFault lines 40
  twice : (name : List ℕ) → Contains time_names name → OccursMoreThanOnce name lines → TimesFault lines 40
  fixed : SomeLine (codes "DTSTART") IsFixedLine lines → TimesFault lines 40
  bad_start : SomeLine (codes "DTSTART") IsNoLocalLine lines → TimesFault lines 11
  bad_from : SomeLine (codes "TZOFFSETFROM") IsNoOffsetLine lines → TimesFault lines 13
  bad_to : SomeLine (codes "TZOFFSETTO") IsNoOffsetLine lines → TimesFault lines 13

-- the text spells no rule, or one that isn't of one day a year
abbrev pub SpellsNoYear : List ℕ → Type 0
SpellsNoYear text =
    ((n : ℕ) × RuleFault text n) ⊎ ((rule : RuleText) × SpellsRule text rule × ((r : YearRule) → is_one_day rule r ≡ true → ⊥))

-- a part has no rule of one day a year
abbrev pub HasNoYearRule : List (List ℕ) → Type 0
HasNoYearRule lines =
    IsMissing (codes "RRULE") lines ⊎ (OccursMoreThanOnce (codes "RRULE") lines ⊎ SomeLine (codes "RRULE") (λ line. SpellsNoYear (line_value line)) lines)

-- what is wrong with the parts
pub data PartsFault (parts standards daylights : List (List (List ℕ))) : ℕ → Type 0 where
  no_part : parts ≡ [] → PartsFault parts standards daylights 40
  in_part : {n : ℕ} (part : List (List ℕ)) → Contains parts part → TimesFault part n → PartsFault parts standards daylights n
  -- offsets differ, and the one part has a rule
  ruled : (part : List (List ℕ)) → OffsetsDiffer parts → parts ≡ part ∷ [] → (IsMissing (codes "RRULE") part → ⊥)
      → PartsFault parts standards daylights 40
  -- offsets differ, and there is neither a single part nor one of each name
  other_parts : OffsetsDiffer parts → (length parts ≡ 1 → ⊥) → ((length standards ≡ 1) × (length daylights ≡ 1) → ⊥)
      → PartsFault parts standards daylights 40
  -- offsets differ, and there is one of each name, of which one has no rule of one day a year
  unruled : (standard daylight : List (List ℕ)) → OffsetsDiffer parts → standards ≡ standard ∷ [] → daylights ≡ daylight ∷ []
      → HasNoYearRule standard ⊎ HasNoYearRule daylight → PartsFault parts standards daylights 40
  unmatched : (zone : Zone) → HasForm parts standards daylights zone → (AreMatched zone → ⊥) → PartsFault parts standards daylights 41
  close : (zone : Zone) → HasForm parts standards daylights zone → AreClose zone → PartsFault parts standards daylights 42

-- the VTIMEZONE has the fault of this number
abbrev pub ZoneFault : Tree → ℕ → Type 0
ZoneFault t number = PartsFault (parts_by is_part t) (parts_by is_standard t) (parts_by is_daylight t) number
