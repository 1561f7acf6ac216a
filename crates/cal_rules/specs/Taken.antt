-- What is known of the parts of a rule's text that were taken so far (RFC 5545 3.3.10).
use Rattle.std.specs.Prelude.{◌≡◌, ℕ, ◌<◌, ◌⊎◌, ℤ, List, [], ◌∷◌, ◌++◌, length, map, codes, All, Contains, true, is_some, Option, None, Some, option_map, Result, Ok}
use Rattle.std.specs.List.{filter_map}
use Rattle.ical_lines.specs.declared.fault.Refusal.{Refusal}
use Rattle.profile.specs.series.Days.{Frequency}
use Rattle.profile.specs.series.Rules.{WeekdayNumber, Until}
use Rattle.profile.specs.series.RuleTexts.{RuleKey, Interval, Count, EndsAt, WeekStart, ByMonth, ByMonthDay, ByDay, BySetPosition, key_word, after_key, SpellsFrequency, SpellsInterval, SpellsCount, SpellsUntil, SpellsWeekday, SpellsMonths, SpellsMonthDays, SpellsEntries, SpellsPositions, IsKnownPart, IsBadValue, IsGivenPart, SaysOr}
use Rattle.cal_days.specs.Views.{frequency_of}
use Rattle.cal_rules.specs.declared.parts.Parts as rust
use Rattle.cal_rules.specs.Views.{weekday_number_of, until_of}

-- THE NAME OF A PART: NONE FOR FREQ, OR ONE OF THE OTHER KEYS

-- the name and `=`
abbrev pub word : Option RuleKey → List ℕ
word None = codes "FREQ="
word (Some key) = key_word key

-- what its values are
abbrev pub SaidPart : Option RuleKey → Type 0
SaidPart None = Frequency
SaidPart (Some Interval) = ℕ
SaidPart (Some Count) = ℕ
SaidPart (Some EndsAt) = Until
SaidPart (Some WeekStart) = ℕ
SaidPart (Some ByMonth) = List ℕ
SaidPart (Some ByMonthDay) = List ℤ
SaidPart (Some ByDay) = List WeekdayNumber
SaidPart (Some BySetPosition) = List ℤ

-- how they are spelled
abbrev pub SpellsRulePart : (name : Option RuleKey) → List ℕ → SaidPart name → Type 0
SpellsRulePart None = SpellsFrequency
SpellsRulePart (Some Interval) = SpellsInterval
SpellsRulePart (Some Count) = SpellsCount
SpellsRulePart (Some EndsAt) = SpellsUntil
SpellsRulePart (Some WeekStart) = SpellsWeekday
SpellsRulePart (Some ByMonth) = SpellsMonths
SpellsRulePart (Some ByMonthDay) = SpellsMonthDays
SpellsRulePart (Some ByDay) = SpellsEntries
SpellsRulePart (Some BySetPosition) = SpellsPositions

-- the field that keeps its value
abbrev pub field : (name : Option RuleKey) → rust.Parts → Option (SaidPart name)
field None p = option_map frequency_of p.frequency
field (Some Interval) p = p.interval
field (Some Count) p = p.count
field (Some EndsAt) p = option_map until_of p.until
field (Some WeekStart) p = p.week_start
field (Some ByMonth) p = option_map (λ xs. xs.items) p.months
field (Some ByMonthDay) p = option_map (λ xs. xs.items) p.month_days
field (Some ByDay) p = option_map (λ xs. map weekday_number_of xs.items) p.weekdays
field (Some BySetPosition) p = option_map (λ xs. xs.items) p.positions

-- ONE PART

-- the part has a key and a value that spells nothing
abbrev pub HasBadValue : List ℕ → Type 0
HasBadValue part = (key : RuleKey) × (value : List ℕ) × (after_key (key_word key) part ≡ Some value) × IsBadValue key value

abbrev pub HasNoBadValue : List ℕ → Type 0
HasNoBadValue part = HasBadValue part → ⊥

-- SOME PARTS

-- the values that they have under a name
abbrev pub values_in : Option RuleKey → List (List ℕ) → List (List ℕ)
values_in name parts = filter_map (after_key (word name)) parts

-- the fields say what the parts say: nothing yet, or its one value
abbrev pub SayParts : List (List ℕ) → rust.Parts → Type 0
SayParts parts p = (name : Option RuleKey) → SaysOr (IsGivenPart (SpellsRulePart name)) None (values_in name parts) (field name p)

-- one of them occurs twice
abbrev pub HaveOneTwice : List (List ℕ) → Type 0
HaveOneTwice parts = (name : Option RuleKey) × (1 < length (values_in name parts))

-- the least fault that they have, and the fields where there is none
abbrev pub KeepsLeastFault : List (List ℕ) → rust.Parts → Option Refusal → Type 0
KeepsLeastFault parts p None = All HasNoBadValue parts × SayParts parts p
KeepsLeastFault parts p (Some fault) =
    ((fault.number ≡ 31) × (part : List ℕ) × Contains parts part × HasBadValue part)
    ⊎ ((fault.number ≡ 32) × HaveOneTwice parts × All HasNoBadValue parts)

-- these parts were taken: all are known, and the fault is kept
pub record ArePartsTaken (parts : List (List ℕ)) (p : rust.Parts) : Type 0 where
  pub known : All IsKnownPart parts
  pub kept : KeepsLeastFault parts p p.fault

-- ONE PART MORE

-- a good part, and the fields after it
pub record Enters (part : List ℕ) (before after : rust.Parts) : Type 0 where
  pub known : IsKnownPart part
  pub good : HasNoBadValue part
  pub says : (parts : List (List ℕ)) → SayParts parts before → SayParts (parts ++ part ∷ []) after

-- the fault of a known part: its value, or else that its field is filled
abbrev pub IsFaultOf : List ℕ → rust.Parts → ℕ → Type 0
IsFaultOf part before number =
    IsKnownPart part × (((number ≡ 31) × HasBadValue part)
    ⊎ ((number ≡ 32) × HasNoBadValue part × ((parts : List (List ℕ)) → SayParts parts before → HaveOneTwice (parts ++ part ∷ []))))

-- A VALUE IS PUT INTO ITS FIELD

-- the field is filled, or there is a fault: the value says nothing, or else the field was filled before
abbrev pub Puts : {T : Type 0} → Option T → Option T → Option T → Option Refusal → Type 0
Puts said before after None = (is_some said ≡ true) × (before ≡ None) × (after ≡ said)
Puts said before after (Some fault) =
    ((fault.number ≡ 31) × (said ≡ None)) ⊎ ((fault.number ≡ 32) × (is_some said ≡ true) × (is_some before ≡ true))

-- so is the value that was read, where there was memory for it
abbrev pub PutsRead : {T E : Type 0} → Result (Option T) E → Option T → Option T → Option Refusal → Type 0
PutsRead {T} read before after fault = (said : Option T) × (read ≡ Ok said) × Puts said before after fault
