-- What the reader of a VTIMEZONE sees.
use Rattle.std.specs.Prelude.{◌≡◌, ◌⊎◌, ℕ, Bool, List, map, filter, Contains, codes}
use Rattle.ical_lines.specs.Fault.{RefusesBy}
use Rattle.ical_lines.specs.declared.fault.Fault.{Fault}
use Rattle.ical_lines.specs.declared.fault.Fault.TheVariants.{Refused, Memory}
use Rattle.ical_tree.specs.Tree.{component_name, component_lines, component_children}
use Rattle.ical_tree.specs.declared.component.Component.{Component}
use Rattle.profile.specs.series.Zones.{Zone, Single, Pair, Observance}
use Rattle.profile.specs.events.Properties.{IsMissing, OccursMoreThanOnce, SomeLine}
use Rattle.profile.specs.series.ZoneTexts.{is_part, is_standard, is_daylight, PartsSay, PartsFault, TimesFault, SaysOnce, SaysYearly, AreMatched, AreSpaced, AreClose, HasNoYearRule, IsFixedLine, IsNoLocalLine, IsNoOffsetLine}

-- those of some components whose name passes the test, each as its own lines
abbrev pub parts_in : (List ℕ → Bool) → List Component → List (List (List ℕ))
parts_in test cs = map component_lines (filter (λ c. test (component_name c)) cs)

abbrev pub zone_parts : Component → List (List (List ℕ))
zone_parts c = parts_in is_part (component_children c)

abbrev pub standards_of : Component → List (List (List ℕ))
standards_of c = parts_in is_standard (component_children c)

abbrev pub daylights_of : Component → List (List (List ℕ))
daylights_of c = parts_in is_daylight (component_children c)

abbrev pub SaysComponentZone : Component → Zone → Type 0
SaysComponentZone c zone = PartsSay (zone_parts c) (standards_of c) (daylights_of c) zone

abbrev pub HasZoneFault : Component → ℕ → Type 0
HasZoneFault c number = PartsFault (zone_parts c) (standards_of c) (daylights_of c) number

-- a part's times are wrong
abbrev pub SomeTimesFault : List (List (List ℕ)) → ℕ → Type 0
SomeTimesFault parts number = (part : List (List ℕ)) × Contains parts part × TimesFault part number

-- a line of DTSTART is wrong
abbrev pub StartFault : List ℕ → ℕ → Type 0
StartFault line number = ((number ≡ 40) × IsFixedLine line) ⊎ ((number ≡ 11) × IsNoLocalLine line)

-- the property is missing, or occurs twice
abbrev pub IsNotOnce : List ℕ → List (List ℕ) → Type 0
IsNotOnce name lines = IsMissing name lines ⊎ OccursMoreThanOnce name lines

-- an offset of that name is wrong
abbrev pub OffsetFault : List ℕ → List (List ℕ) → ℕ → Type 0
OffsetFault name lines number =
    ((number ≡ 40) × IsNotOnce name lines) ⊎ ((number ≡ 13) × SomeLine name IsNoOffsetLine lines)

-- a part that should begin every year is wrong
abbrev pub YearlyFault : List (List ℕ) → ℕ → Type 0
YearlyFault lines number = TimesFault lines number ⊎ ((number ≡ 40) × HasNoYearRule lines)

-- the lines of the one part say this zone
abbrev pub SaysSingle : List (List ℕ) → Zone → Type 0
SaysSingle lines zone = (a : Observance) × (zone ≡ Single a) × SaysOnce lines a × AreMatched (Single a)

-- or something is wrong with it
pub data SingleFault (lines : List (List ℕ)) : ℕ → Type 0 where
  in_times : {n : ℕ} → TimesFault lines n → SingleFault lines n
  has_rule : (IsMissing (codes "RRULE") lines → ⊥) → SingleFault lines 40
  far : (a : Observance) → SaysOnce lines a → (AreMatched (Single a) → ⊥) → SingleFault lines 41

-- the lines of the two parts say this zone
abbrev pub SaysBoth : List (List ℕ) → List (List ℕ) → Zone → Type 0
SaysBoth standard daylight zone =
    (a : Observance) × (b : Observance) × (zone ≡ Pair a b) × SaysYearly standard a × SaysYearly daylight b
    × AreMatched (Pair a b) × AreSpaced (Pair a b)

-- or something is wrong with them
pub data BothFault (standard daylight : List (List ℕ)) : ℕ → Type 0 where
  in_standard : {n : ℕ} → YearlyFault standard n → BothFault standard daylight n
  in_daylight : {n : ℕ} → YearlyFault daylight n → BothFault standard daylight n
  no_match : (a b : Observance) → SaysYearly standard a → SaysYearly daylight b → (AreMatched (Pair a b) → ⊥) → BothFault standard daylight 41
  no_space : (a b : Observance) → SaysYearly standard a → SaysYearly daylight b → AreClose (Pair a b) → BothFault standard daylight 42

-- out of memory stays, and any refusal becomes 40
abbrev pub IsShapeFault : Fault → Fault → Type 0
IsShapeFault Memory result = result ≡ Memory
IsShapeFault (Refused _) result = RefusesBy (λ n. n ≡ 40) result × (result ≡ Memory → ⊥)
