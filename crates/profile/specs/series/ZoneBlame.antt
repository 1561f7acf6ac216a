-- At which content line a VTIMEZONE is refused (RFC 5545 3.6.5).
use Rattle.std.specs.Prelude.{◌≡◌, ◌⊎◌, ◌||◌, ℕ, Bool, true, Contains, List, codes}
use Rattle.profile.specs.events.Properties.{is_of}
use Rattle.profile.specs.faults.Blame.{IsAt, Numbered}
use Rattle.profile.specs.faults.Faults.{is_between}
use Rattle.profile.specs.series.ZoneTexts.{IsNoLocalLine, IsNoOffsetLine}

-- a VTIMEZONE, and the components directly inside it
pub record NumberedZone : Type 0 where
  pub whole : Numbered
  pub parts : List Numbered

abbrev pub is_offset : List ℕ → Bool
is_offset line = is_of (codes "TZOFFSETFROM") line || is_of (codes "TZOFFSETTO") line

-- a line of STANDARD or DAYLIGHT has the fault of this number by itself
abbrev pub IsWrongInZone : List ℕ → ℕ → Type 0
IsWrongInZone line n =
    ((is_of (codes "DTSTART") line ≡ true) × (n ≡ 11) × IsNoLocalLine line) ⊎ ((is_offset line ≡ true) × (n ≡ 13) × IsNoOffsetLine line)

-- a shape that isn't accepted, or what two properties or two parts say together
abbrev pub is_shape_fault : ℕ → Bool
is_shape_fault = is_between 40 42

-- STANDARD or DAYLIGHT is refused with this number at this line: the line has it by itself; or it is a line of the part that isn't accepted there, or
-- the BEGIN of the part
abbrev pub PartBlame : Numbered → ℕ → ℕ → Type 0
PartBlame part n at =
    IsAt part.lines at (λ line. IsWrongInZone line n)
    ⊎ ((is_shape_fault n ≡ true) × ((at ≡ part.begun) ⊎ IsAt part.lines at (λ _. Unit {0})))

-- a VTIMEZONE is: at a line of a part, or at its own BEGIN
abbrev pub ZoneBlame : NumberedZone → ℕ → ℕ → Type 0
ZoneBlame zone n at =
    ((is_shape_fault n ≡ true) × (at ≡ zone.whole.begun)) ⊎ ((part : Numbered) × Contains zone.parts part × PartBlame part n at)
