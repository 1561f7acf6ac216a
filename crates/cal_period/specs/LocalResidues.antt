-- Residues by the clocks of a series' own zone: two instances that start by one offset are as far apart as their local times are.
use Rattle.std.specs.Prelude.{◌≡◌, ◌≢◌, ℕ, ◌<◌, true, Some, ℤ, pos, ◌≤ℤ◌}
use Rattle.profile.specs.series.Rules.{Rule}
use Rattle.profile.specs.series.Zones.{local_time}
use Rattle.profile.specs.series.Repeating.{ArcsMeet, IsCongruent}
use Rattle.profile.specs.series.Residues.{is_in_form}
use Rattle.profile.specs.events.EventComponents.{EventComponent}
use Rattle.profile.specs.events.EventRules.{IsOnDay}
use Rattle.profile.specs.events.Events.{Event}
use Rattle.profile.specs.events.Spans.{IsWidthOf}

-- so many seconds, fewer than m, past a multiple of m it is DTSTART's time of day by the clocks of the series, on some day that the form of its rule
-- allows
pub record IsLocalResidue (series : Event) (m residue : ℕ) : Type 0 where
  pub below : residue < m
  pub master : EventComponent
  pub is : series.master ≡ Some master
  pub rule : Rule
  pub recurs : master.rule ≡ Some rule
  pub first : ℕ
  pub second : ℕ
  pub on : IsOnDay master.times.local first second
  pub day : ℕ
  pub in_form : is_in_form rule.pattern day ≡ true
  pub same : IsCongruent m (local_time day second) (pos residue)

-- no arc of the one meets an arc of the other
abbrev pub AreLocallyApart : Event → Event → ℕ → Type 0
AreLocallyApart a b m =
    (w : ℤ) × (v : ℤ) × IsWidthOf a w × IsWidthOf b v × ((r s : ℕ) → IsLocalResidue a m r → IsLocalResidue b m s → ArcsMeet m r w s v → ⊥)

-- the arcs of one series aren't longer than m, and those of different residues don't meet
abbrev pub IsLocallyApart : Event → ℕ → Type 0
IsLocallyApart a m =
    (w : ℤ) × IsWidthOf a w × (w ≤ℤ pos m) × ((r s : ℕ) → IsLocalResidue a m r → IsLocalResidue a m s → r ≢ s → ArcsMeet m r w s w → ⊥)
