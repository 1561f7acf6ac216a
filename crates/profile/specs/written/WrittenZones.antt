-- VTIMEZONEs as they are written (RFC 5545 3.6.5), and what they read back as. The order of the lines, and which date is used where a
-- zone needs none, are this profile's choice.
use Rattle.std.specs.Prelude.{◌≡◌, ℕ, suc, true, false, not, ◌||◌, ◌==◌, List, [], ◌∷◌, ◌++◌, map, codes, decimal, Option, Some, None, ℤ}
use Rattle.std.specs.List.{list_all}
use Rattle.std.specs.Str.{IsUtf8}
use Rattle.std.specs.Fmt.{signed_decimal}
use Rattle.profile.specs.text.Lines.{is_control, line_value, logical_lines, reads_as_lines, written}
use Rattle.profile.specs.text.Objects.{SpellsTree}
use Rattle.profile.specs.text.Trees.{Tree, tree_name, tree_own}
use Rattle.profile.specs.text.Values.{WritesLocal, WritesOffset, escaped, unescaped}
use Rattle.profile.specs.events.Properties.{Says}
use Rattle.profile.specs.series.Rules.{Pattern}
use Rattle.profile.specs.series.RuleTexts.{listed, weekday_number_text}
use Rattle.profile.specs.series.Zones.{Observance, Zone, Constant, Single, Pair, local_time}
use Rattle.profile.specs.series.ZoneTexts.{SaysZone}

-- the RRULE of an observance, where it has one: FREQ=YEARLY, BYMONTH, BYMONTHDAY and BYDAY, as their lists are
abbrev pub rule_lines : Option Pattern → List (List ℕ)
rule_lines None = []
rule_lines (Some p) =
    (codes "RRULE:FREQ=YEARLY" ++ listed (codes ";BYMONTH=") (map decimal p.months) ++ listed (codes ";BYMONTHDAY=") (map signed_decimal p.month_days) ++ listed (codes ";BYDAY=") (map weekday_number_text p.weekdays))
    ∷ []

-- the lines of a part, STANDARD or DAYLIGHT, between its BEGIN and its END
pub record WritesPart (lines : List (List ℕ)) (o : Observance) : Type 0 where
  pub start : List ℕ
  pub from : List ℕ
  pub to : List ℕ
  pub writes_start : WritesLocal start (local_time o.day o.second)
  pub writes_from : WritesOffset from o.offset_from
  pub writes_to : WritesOffset to o.offset_to
  pub is : lines ≡ (codes "DTSTART:" ++ start) ∷ (rule_lines o.rule ++ ((codes "TZOFFSETFROM:" ++ from) ∷ (codes "TZOFFSETTO:" ++ to) ∷ []))

-- a component with these lines of its own, and no other component in it
abbrev pub lines_around : List ℕ → List (List ℕ) → List (List ℕ)
lines_around kind own = (codes "BEGIN:" ++ kind) ∷ (own ++ (codes "END:" ++ kind) ∷ [])

-- one offset for all time, as a part that changes nothing at 1970-01-01T00:00:00
abbrev pub keeping : ℤ → Observance
keeping offset = record { day = 719_528; second = 0; rule = None; offset_from = offset; offset_to = offset }

-- the lines of the parts: STANDARD, and then DAYLIGHT where there are two
abbrev pub WritesParts : List (List ℕ) → Zone → Type 0
WritesParts lines (Constant offset) =
    (own : List (List ℕ)) × WritesPart own (keeping offset) × (lines ≡ lines_around (codes "STANDARD") own)
WritesParts lines (Single a) =
    (own : List (List ℕ)) × WritesPart own a × (lines ≡ lines_around (codes "STANDARD") own)
WritesParts lines (Pair a b) =
    (standard : List (List ℕ)) × (daylight : List (List ℕ)) × WritesPart standard a × WritesPart daylight b
    × (lines ≡ lines_around (codes "STANDARD") standard ++ lines_around (codes "DAYLIGHT") daylight)

-- the lines of the VTIMEZONE of this name
abbrev pub WritesZone : List (List ℕ) → List ℕ → Zone → Type 0
WritesZone lines name zone =
    (parts : List (List ℕ)) × WritesParts parts zone
    × (lines ≡ lines_around (codes "VTIMEZONE") ((codes "TZID:" ++ escaped name) ∷ parts))

-- the octets are those lines, folded
abbrev pub IsZoneText : List ℕ → List ℕ → Zone → Type 0
IsZoneText octets name zone = (lines : List (List ℕ)) × WritesZone lines name zone × (octets ≡ written lines)

-- ---- what they read back as

-- a text that a TEXT value can represent: UTF-8, with no control octet but TAB and LF (RFC 5545 3.3.11)
pub record IsTextName (name : List ℕ) : Type 0 where
  pub calm : list_all (λ c. (c == 10) || not (is_control c)) name ≡ true
  pub utf8 : IsUtf8 name

-- the value of the line represents this name
abbrev pub IsNameLine : List ℕ → List ℕ → Type 0
IsNameLine line name = unescaped (line_value line) ≡ name

-- the octets read as the lines of one VTIMEZONE of this name that says this zone, however deep others may be in it
pub record ReadsAsZone (octets name : List ℕ) (zone : Zone) : Type 0 where
  pub reads : reads_as_lines false octets ≡ true
  pub tree : Tree
  pub kind : tree_name tree ≡ codes "VTIMEZONE"
  pub spelled : (depth : ℕ) → SpellsTree (suc depth) tree (logical_lines octets)
  pub named : Says (codes "TZID") true IsNameLine (tree_own tree) (Some name)
  pub says : SaysZone tree zone
