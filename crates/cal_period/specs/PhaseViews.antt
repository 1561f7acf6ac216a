-- The phases that are kept.
use Rattle.std.specs.Prelude.{◌≡◌, ◌≢◌, ℕ, ◌<◌, List, Contains, ◌↔◌, None, MatchOption, Option, ℤ, pos, ◌≤ℤ◌}
use Rattle.profile.specs.series.Repeating.{ArcsMeet}
use Rattle.cal_rules.specs.Forms.{listed_day}
use Rattle.cal_period.specs.declared.phases.Phases.{Phases}
use Rattle.cal_period.specs.Phases.{AreTurns, IsNth, IsPhase, nth_phase_number}

abbrev pub IsPhaseOf : Phases → ℕ → ℕ → Type 0
IsPhaseOf f m residue = IsPhase f.rule.now.pattern f.second f.least f.greatest m residue

abbrev pub IsNthOf : Phases → ℕ → ℕ → ℕ → Type 0
IsNthOf f m number residue = IsNth f.rule.now.pattern f.second f.least f.greatest m number residue

-- it is the phase of that number, if there is one
abbrev pub IsNthOr : Phases → ℕ → ℕ → Option ℕ → Type 0
IsNthOr f m number found = MatchOption found (listed_day f.rule.now.pattern (nth_phase_number number) ≡ None) (IsNthOf f m number)

abbrev pub AreTurnsOf : Phases → ℕ → ℕ → Type 0
AreTurnsOf f m turns = AreTurns f.rule.now.pattern m turns

-- these are the phases of the first numbers
abbrev pub AreFirstPhases : Phases → ℕ → ℕ → List ℕ → Type 0
AreFirstPhases f m count residues = (residue : ℕ) → Contains residues residue ↔ ((number : ℕ) × (number < count) × IsNthOf f m number residue)

-- this holds of the phases of the first numbers
abbrev pub HoldsOfFirst : Phases → ℕ → ℕ → (ℕ → Type 0) → Type 0
HoldsOfFirst f m count holds = (number residue : ℕ) → number < count → IsNthOf f m number residue → holds residue

-- ---- arcs

-- modulo some number of seconds no arc of the one meets an arc of the other
abbrev pub ArePhasesApart : Phases → ℤ → Phases → ℤ → Type 0
ArePhasesApart first width second other = (m : ℕ) × (0 < m) × ((r s : ℕ) → IsPhaseOf first m r → IsPhaseOf second m s → ArcsMeet m r width s other → ⊥)

-- modulo some number of seconds the arcs aren't longer than that, and none meets another
abbrev pub ArePhasesAlone : Phases → ℤ → Type 0
ArePhasesAlone phases width =
    (m : ℕ) × (0 < m) × (width ≤ℤ pos m) × ((r s : ℕ) → IsPhaseOf phases m r → IsPhaseOf phases m s → r ≢ s → ArcsMeet m r width s width → ⊥)
