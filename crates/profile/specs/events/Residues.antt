-- Where the instances of a series can start, counted from the multiples of a number m of seconds: what settles two series, or one by itself, for
-- all time and without a look at any instance. A day's time of day by one offset starts so many seconds past a multiple of m (RFC 5545 3.3.10,
-- 3.6.5). The limits of m are this profile's choice.
use Rattle.std.specs.Prelude.{◌≡◌, ◌≢◌, ◌↔◌, ℕ, ◌*◌, ◌<◌, ◌≤◌, Bool, true, false, List, Contains, Some, ℤ, pos, ◌-ℤ◌, ◌≤ℤ◌}
use Rattle.std.specs.List.Sorted.{IsStrictlyIncreasing}
use Rattle.profile.specs.series.Rules.{Rule}
use Rattle.profile.specs.series.Zones.{local_time}
use Rattle.profile.specs.series.Repeating.{ArcsMeet, IsCongruent}
use Rattle.profile.specs.series.Residues.{IsOffsetOf, IsStride, is_in_form}
use Rattle.profile.specs.events.ZonedTimes.{clock_of}
use Rattle.profile.specs.events.EventComponents.{EventComponent}
use Rattle.profile.specs.events.EventRules.{IsOnDay}
use Rattle.profile.specs.events.Events.{Event}
use Rattle.profile.specs.events.Spans.{IsWidthOf}

-- ---- residues

-- so many seconds, fewer than m, past a multiple of m it is DTSTART's time of day on some day that the form of the rule allows, by an offset of the
-- series' zone
pub record IsResidue (series : Event) (m residue : ℕ) : Type 0 where
  pub below : residue < m
  pub master : EventComponent
  pub is : series.master ≡ Some master
  pub rule : Rule
  pub recurs : master.rule ≡ Some rule
  pub first : ℕ
  pub second : ℕ
  pub on : IsOnDay master.times.local first second
  pub day : ℕ
  pub in_form : is_in_form rule.pattern day ≡ true
  pub offset : ℤ
  pub of_zone : IsOffsetOf (clock_of master.times.zone) offset
  pub same : IsCongruent m (local_time day second -ℤ offset) (pos residue)

-- these are its residues: ascending, each once, and no others
pub record AreResidues (series : Event) (m : ℕ) (residues : List ℕ) : Type 0 where
  pub ascending : IsStrictlyIncreasing residues
  pub exact : (residue : ℕ) → Contains residues residue ↔ IsResidue series m residue

-- ---- what settles two series, or one by itself

-- the numbers that m may be: the seconds of 1 to 420 days
abbrev pub IsModulus : ℕ → Type 0
IsModulus m = (days : ℕ) × (m ≡ 86_400 * days) × (0 < days) × (days ≤ 420)

-- no arc of the one meets an arc of the other: an arc is as many seconds from a residue on as an instance lasts at the most, around m
abbrev pub AreArcsApart : Event → Event → ℕ → Type 0
AreArcsApart a b m =
    (w : ℤ) × (v : ℤ) × IsWidthOf a w × IsWidthOf b v × ((r s : ℕ) → IsResidue a m r → IsResidue b m s → ArcsMeet m r w s v → ⊥)

-- the arcs of one series aren't longer than m, and those of different residues don't meet
abbrev pub IsArcsApart : Event → ℕ → Type 0
IsArcsApart a m =
    (w : ℤ) × IsWidthOf a w × (w ≤ℤ pos m) × ((r s : ℕ) → IsResidue a m r → IsResidue a m s → r ≢ s → ArcsMeet m r w s w → ⊥)

-- residues modulo m settle two series, or one (`own`) by itself
pub record ResiduesHold (own : Bool) (a b : Event) (m : ℕ) : Type 0 where
  pub modulus : IsModulus m
  pub two : own ≡ false → AreArcsApart a b m
  pub one : own ≡ true → IsArcsApart a m

-- ---- which m is written

-- so many days later the form of its rule allows the same days
pub record IsStrideOf (series : Event) (days : ℕ) : Type 0 where
  pub master : EventComponent
  pub is : series.master ≡ Some master
  pub rule : (rule : Rule) → master.rule ≡ Some rule → IsStride rule.pattern days

-- the least number of days after which that of both does
pub record IsLeastStride (a b : Event) (days : ℕ) : Type 0 where
  pub some : 0 < days
  pub first : IsStrideOf a days
  pub second : IsStrideOf b days
  pub least : (n : ℕ) → 0 < n → IsStrideOf a n → IsStrideOf b n → days ≤ n
