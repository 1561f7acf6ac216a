-- Arcs around a number m of seconds: which lists of residues they begin at, and where they meet.
use Rattle.std.specs.Prelude.{◌≢◌, ℕ, ◌+◌, ◌-◌, ◌<◌, ◌≤◌, List, length, Contains, ℤ, pos, ◌+ℤ◌, ◌≤ℤ◌}
use Rattle.std.specs.List.{slice_index}
use Rattle.std.specs.List.Sorted.{IsStrictlyIncreasing}
use Rattle.profile.specs.series.Repeating.{ArcsMeet}

-- residues modulo m: ascending, each once
pub record AreAround (m : ℕ) (residues : List ℕ) : Type 0 where
  pub ascending : IsStrictlyIncreasing residues
  pub below : (r : ℕ) → Contains residues r → r < m

-- so many seconds from the first residue on are over when the other comes, around m
pub record IsOver (m first : ℕ) (width : ℤ) (next : ℕ) : Type 0 where
  pub after : first ≤ next → (pos first +ℤ width) ≤ℤ pos next
  pub around : next < first → (pos first +ℤ width) ≤ℤ (pos next +ℤ pos m)

-- the arc of one residue meets none of the arcs of these
abbrev pub MeetsNoArc : ℕ → ℕ → ℤ → List ℕ → ℤ → Type 0
MeetsNoArc m r width others other = (s : ℕ) → Contains others s → ArcsMeet m r width s other → ⊥

-- no arc of these meets an arc of those
abbrev pub AreApart : ℕ → List ℕ → ℤ → List ℕ → ℤ → Type 0
AreApart m first width second other = (r s : ℕ) → Contains first r → Contains second s → ArcsMeet m r width s other → ⊥

-- the arcs aren't longer than m, and those of different residues don't meet
abbrev pub IsApart : ℕ → List ℕ → ℤ → Type 0
IsApart m all width = (width ≤ℤ pos m) × ((r s : ℕ) → Contains all r → Contains all s → r ≢ s → ArcsMeet m r width s width → ⊥)

-- ---- neighbours

-- none of these comes before the next one, from a residue on and around; and none but the residue itself after the one before
pub record AreBesideResidue (residue : ℕ) (others : List ℕ) (before next : ℕ) : Type 0 where
  pub has_before : Contains others before
  pub has_next : Contains others next
  pub from : (s : ℕ) → Contains others s → residue ≤ s → (residue ≤ next) × (next ≤ s)
  pub behind : (s : ℕ) → Contains others s → s < residue → (before < residue) × (s ≤ before)
  pub around : (s : ℕ) → Contains others s → s < residue → next < residue → next ≤ s
  pub around_behind : (s : ℕ) → Contains others s → residue < s → residue ≤ before → s ≤ before

-- the arc of each is over when the next begins
abbrev pub AreStepsOver : ℕ → List ℕ → ℤ → Type 0
AreStepsOver m all width = (k : ℕ) → k + 1 < length all → IsOver m (slice_index all k) width (slice_index all (k + 1))

-- and that of the last when the first comes again, where they are two
abbrev pub IsLastOver : ℕ → List ℕ → ℤ → Type 0
IsLastOver m all width = 1 < length all → IsOver m (slice_index all (length all - 1)) width (slice_index all 0)
