-- Where the offset of a zone stays, and the local times that it reads there.
use Rattle.std.specs.Prelude.{◌≡◌, ℤ, pos, ◌^◌, ◌-ℤ◌, ◌≤ℤ◌, Option, MatchOption}
use Rattle.std.specs.Int.Signed.{◌<ℤ◌}
use Rattle.profile.specs.series.Zones.{Zone, Onset, Means}

-- of these onsets none comes after one instant and before another
abbrev pub AreNoneBetween : (Onset → Type 0) → ℤ → ℤ → Type 0
AreNoneBetween Is after before = (x : Onset) → Is x → after <ℤ x.instant → before ≤ℤ x.instant

-- one is at an instant after another, and none between them
pub record IsNextOnset (Is : Onset → Type 0) (after instant : ℤ) : Type 0 where
  pub onset : Onset
  pub listed : Is onset
  pub at : onset.instant ≡ instant
  pub ahead : after <ℤ instant
  pub none : AreNoneBetween Is after instant

-- the first after an instant; or none comes that 64 bits hold
abbrev pub IsNextOr : (Onset → Type 0) → ℤ → Option ℤ → Type 0
IsNextOr Is after next = MatchOption next (AreNoneBetween Is after (pos (2 ^ 63))) (IsNextOnset Is after)

-- each local time from one on and before another means that time less the offset
abbrev pub IsSpan : Zone → ℤ → ℤ → ℤ → Type 0
IsSpan zone from to offset = (local t : ℤ) → from ≤ℤ local → local <ℤ to → Means zone local t → t ≡ local -ℤ offset
