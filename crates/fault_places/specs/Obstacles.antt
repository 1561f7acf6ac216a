-- What of a VTIMEZONE is in the way of a room that reads it: a part, STANDARD or DAYLIGHT, and a line of it, by the number that it is refused with
-- (RFC 5545 3.6.5). A part is its content lines here.
use Rattle.std.specs.Prelude.{◌≡◌, ◌⊎◌, ◌<◌, ℕ, List, [], ◌∷◌, drop, filter, codes, Contains, Option, Some, None, option_map, ℤ, ◌-ℤ◌, unsigned_abs}
use denote.Ref.{Bor}
use Rattle.ical_tree.specs.Tree.{component_name, component_lines, component_children}
use Rattle.ical_tree.specs.declared.component.Component.{Component}
use Rattle.profile.specs.text.Lines.{is_same_name, line_value}
use Rattle.profile.specs.text.Values.{SpellsOffset}
use Rattle.profile.specs.events.Properties.{lines_named, IsMissing}
use Rattle.profile.specs.series.Rules.{RuleText}
use Rattle.profile.specs.series.RuleTexts.{SpellsRule}
use Rattle.profile.specs.series.ZoneTexts.{IsFixedLine, OffsetsDiffer, SpellsNoYear}
use Rattle.cal_zones.specs.Read.{zone_parts, standards_of, daylights_of}
use Rattle.fault_places.specs.declared.obstacle.Obstacle.{Obstacle}
use Rattle.fault_places.specs.declared.obstacle.Obstacle.TheVariants.{NoPart, Dates, Missing, Twice, Fixed, RuledAlone, Second, NoRule, TwoRules, Until, Count, OtherRule, FarApart, Unmatched, Close}
use Rattle.fault_places.specs.declared.obstacle.PartTime.{PartTime}
use Rattle.fault_places.specs.declared.obstacle.PartTime.TheVariants.{Start, From, To}
use Rattle.fault_places.specs.declared.obstacle.PartCause.{PartCause}

-- ---- places in a list

-- this one comes behind so many others
abbrev pub StandsBehind : {A : Type 0} → ℕ → List A → A → Type 0
StandsBehind {A} n xs x = (others : List A) × (drop n xs ≡ x ∷ others)

-- the first line of a property, and the second
abbrev pub IsFirstLine : List ℕ → List (List ℕ) → List ℕ → Type 0
IsFirstLine name lines line = StandsBehind 0 (lines_named name lines) line

abbrev pub IsSecondLine : List ℕ → List (List ℕ) → List ℕ → Type 0
IsSecondLine name lines line = StandsBehind 1 (lines_named name lines) line

-- ---- what of a part is in the way, and its line; None where it is the part itself

abbrev pub time_name : PartTime → List ℕ
time_name Start = codes "DTSTART"
time_name From = codes "TZOFFSETFROM"
time_name To = codes "TZOFFSETTO"

-- its times, whatever the other parts are
abbrev pub IsTimesCause : List (List ℕ) → Obstacle → Option (List ℕ) → Type 0
IsTimesCause part Dates (Some line) = IsFirstLine (codes "RDATE") part line
IsTimesCause part (Missing time) None = IsMissing (time_name time) part
IsTimesCause part (Twice time) (Some line) = IsSecondLine (time_name time) part line
IsTimesCause part Fixed (Some line) = IsFirstLine (codes "DTSTART") part line × IsFixedLine line
IsTimesCause part _ _ = ⊥

-- the text of a rule: it ends, or it isn't one of one day of every year
abbrev pub IsTextCause : List ℕ → Obstacle → Type 0
IsTextCause text Until = (rule : RuleText) × SpellsRule text rule × (rule.until ≡ None → ⊥)
IsTextCause text Count = (rule : RuleText) × SpellsRule text rule × (rule.count ≡ None → ⊥)
IsTextCause text OtherRule = SpellsNoYear text
IsTextCause text _ = ⊥

-- its rule, where there are two parts
abbrev pub IsRuleCause : List (List ℕ) → Obstacle → Option (List ℕ) → Type 0
IsRuleCause part NoRule None = IsMissing (codes "RRULE") part
IsRuleCause part TwoRules (Some line) = IsSecondLine (codes "RRULE") part line
IsRuleCause part obstacle (Some line) = IsFirstLine (codes "RRULE") part line × IsTextCause (line_value line) obstacle
IsRuleCause part _ None = ⊥

-- a first line of a property of offsets says this one
abbrev pub SaysFirst : List ℕ → List (List ℕ) → List ℕ → ℤ → Type 0
SaysFirst name part line offset = IsFirstLine name part line × SpellsOffset (line_value line) offset

-- its TZOFFSETTO is more than 12 hours from its TZOFFSETFROM
pub record IsFar (part : List (List ℕ)) (line : List ℕ) : Type 0 where
  pub to : ℤ
  pub from : ℤ
  pub other : List ℕ
  pub says_to : SaysFirst (codes "TZOFFSETTO") part line to
  pub says_from : SaysFirst (codes "TZOFFSETFROM") part other from
  pub far : 43_200 < unsigned_abs (to -ℤ from)

-- its TZOFFSETFROM isn't the TZOFFSETTO of the other part
pub record IsUnmatched (part others : List (List ℕ)) (line : List ℕ) : Type 0 where
  pub from : ℤ
  pub to : ℤ
  pub other : List ℕ
  pub says_from : SaysFirst (codes "TZOFFSETFROM") part line from
  pub says_to : SaysFirst (codes "TZOFFSETTO") others other to
  pub differ : from ≡ to → ⊥

-- ---- what of a VTIMEZONE is in the way

-- the components of a name
abbrev pub named : List ℕ → List Component → List Component
named name components = filter (λ c. is_same_name (component_name c) name) components

abbrev pub parts_named : Component → List ℕ → List Component
parts_named zone name = named name (component_children zone)

-- the part of a name behind so many others of it
abbrev pub IsNthPart : Component → List ℕ → ℕ → Component → Type 0
IsNthPart zone name n part = StandsBehind n (parts_named zone name) part

-- a STANDARD and a DAYLIGHT, in any order
abbrev pub AreBoth : Component → Component → Component → Type 0
AreBoth zone part other =
    (IsNthPart zone (codes "STANDARD") 0 part × IsNthPart zone (codes "DAYLIGHT") 0 other) ⊎ (IsNthPart zone (codes "DAYLIGHT") 0 part × IsNthPart zone (codes "STANDARD") 0 other)

-- one of the two, of which there is one of each
abbrev pub IsOneOfTwo : Component → Component → Type 0
IsOneOfTwo zone part =
    (other : Component) × AreBoth zone part other × (((standards_of zone ≡ component_lines part ∷ []) × (daylights_of zone ≡ component_lines other ∷ []))
    ⊎ ((daylights_of zone ≡ component_lines part ∷ []) × (standards_of zone ≡ component_lines other ∷ [])))

-- what of a part of the VTIMEZONE is in the way, by the number that the VTIMEZONE is refused with
pub data IsPartCause (zone part : Component) : Obstacle → Option (List ℕ) → ℕ → Type 0 where
  times : (obstacle : Obstacle) (line : Option (List ℕ)) → Contains (component_children zone) part → Contains (zone_parts zone) (component_lines part)
      → IsTimesCause (component_lines part) obstacle line → IsPartCause zone part obstacle line 40
  -- offsets differ, and it is the one part and has a rule
  ruled : (line : List ℕ) → OffsetsDiffer (zone_parts zone) → zone_parts zone ≡ component_lines part ∷ []
      → IsFirstLine (codes "RRULE") (component_lines part) line → IsPartCause zone part RuledAlone (Some line) 40
  -- offsets differ, and it is a second STANDARD or DAYLIGHT
  second : OffsetsDiffer (zone_parts zone) → IsNthPart zone (codes "STANDARD") 1 part ⊎ IsNthPart zone (codes "DAYLIGHT") 1 part
      → IsPartCause zone part Second None 40
  -- offsets differ, and it is one of a STANDARD and a DAYLIGHT
  rule : (obstacle : Obstacle) (line : Option (List ℕ)) → OffsetsDiffer (zone_parts zone) → IsOneOfTwo zone part
      → IsRuleCause (component_lines part) obstacle line → IsPartCause zone part obstacle line 40
  far : (line : List ℕ) → IsNthPart zone (codes "STANDARD") 0 part ⊎ IsNthPart zone (codes "DAYLIGHT") 0 part → IsFar (component_lines part) line
      → IsPartCause zone part FarApart (Some line) 41
  unmatched : (line : List ℕ) (other : Component) → AreBoth zone part other → IsUnmatched (component_lines part) (component_lines other) line
      → IsPartCause zone part Unmatched (Some line) 41
  close : IsNthPart zone (codes "DAYLIGHT") 0 part → IsPartCause zone part Close None 42

-- the text of the line, where there is one
abbrev pub text_of : Option (Bor (List ℕ)) → Option (List ℕ)
text_of line = option_map (λ text. text.now) line

-- what was found is in the way: that there is no part, or a part
abbrev pub IsCause : Component → ℕ → PartCause → Type 0
IsCause zone n found =
    ((zone_parts zone ≡ []) × (found.component.now ≡ zone) × (found.cause.obstacle ≡ NoPart) × (text_of found.cause.line ≡ None) × (n ≡ 40))
    ⊎ ((part : Component) × (found.component.now ≡ part) × IsPartCause zone part found.cause.obstacle (text_of found.cause.line) n)

-- ---- what is found on the way

-- a property that a part has once
abbrev pub IsOnce : List ℕ → List (List ℕ) → Type 0
IsOnce name part = (line : List ℕ) × (lines_named name part ≡ line ∷ [])

-- DTSTART, and it is local
abbrev pub IsLocalOnce : List (List ℕ) → Type 0
IsLocalOnce part = (line : List ℕ) × (lines_named (codes "DTSTART") part ≡ line ∷ []) × (IsFixedLine line → ⊥)

-- a first part of this name has a rule, or there is none of it
abbrev pub IsLonely : Component → List ℕ → PartCause → Type 0
IsLonely zone name found =
    ((parts_named zone name ≡ []) × (found.component.now ≡ zone) × (found.cause.obstacle ≡ NoPart) × (text_of found.cause.line ≡ None))
    ⊎ ((part : Component) × (line : List ℕ) × IsNthPart zone name 0 part × (found.component.now ≡ part) × (found.cause.obstacle ≡ RuledAlone)
    × (text_of found.cause.line ≡ Some line) × IsFirstLine (codes "RRULE") (component_lines part) line)

-- what of the rule of this part is in the way
abbrev pub HasRuleCause : Component → PartCause → Type 0
HasRuleCause part found = (found.component.now ≡ part) × IsRuleCause (component_lines part) found.cause.obstacle (text_of found.cause.line)

abbrev pub HasUnmatched : Component → Component → PartCause → Type 0
HasUnmatched part other found =
    (line : List ℕ) × (found.component.now ≡ part) × (found.cause.obstacle ≡ Unmatched) × (text_of found.cause.line ≡ Some line)
    × IsUnmatched (component_lines part) (component_lines other) line

abbrev pub HasFar : Component → PartCause → Type 0
HasFar part found =
    (line : List ℕ) × (found.component.now ≡ part) × (found.cause.obstacle ≡ FarApart) × (text_of found.cause.line ≡ Some line) × IsFar (component_lines part) line

-- ---- the words

-- a property that isn't there, and one that occurs twice
abbrev pub missing_words : PartTime → List ℕ
missing_words Start = codes "it has no DTSTART."
missing_words From = codes "it has no TZOFFSETFROM."
missing_words To = codes "it has no TZOFFSETTO."

abbrev pub twice_words : PartTime → List ℕ
twice_words Start = codes "DTSTART occurs twice in it."
twice_words From = codes "TZOFFSETFROM occurs twice in it."
twice_words To = codes "TZOFFSETTO occurs twice in it."

-- what is said of what is in the way, behind the name of the part
abbrev pub words_of : Obstacle → List ℕ
words_of NoPart = codes "neither STANDARD nor DAYLIGHT is in it."
words_of Dates = codes "it has RDATE."
words_of (Missing time) = missing_words time
words_of (Twice time) = twice_words time
words_of Fixed = codes "its DTSTART isn't local: it ends in Z or has TZID."
words_of RuledAlone = codes "it has RRULE, and no other part is there."
words_of Second = codes "it is a second part of that name."
words_of NoRule = codes "it has no RRULE, and another part is there."
words_of TwoRules = codes "RRULE occurs twice in it."
words_of Until = codes "its RRULE has UNTIL."
words_of Count = codes "its RRULE has COUNT."
words_of OtherRule = codes "its RRULE isn't of a form that is read."
words_of FarApart = codes "its TZOFFSETFROM and TZOFFSETTO are more than 12 hours apart."
words_of Unmatched = codes "its TZOFFSETFROM isn't the TZOFFSETTO of the other part."
words_of Close = codes "it begins less than two days before or after the other part."
