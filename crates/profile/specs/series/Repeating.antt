-- Series in the abstract: a relation that says of two instants whether an instance lasts from the one to the other. No calendar, rule or zone
-- is in it. A series without end is settled by what it does in one period: what starts later was there a period before, as long.
use Rattle.std.specs.Prelude.{◌≡◌, ℕ, ◌*◌, ℤ, pos, ◌+ℤ◌, ◌-ℤ◌, ◌≤ℤ◌}
use Rattle.profile.specs.checker.Instances.{IsWithin}

-- each instance that starts a period after this instant or later was there a period before
abbrev pub RepeatsFrom : (ℤ → ℤ → Type 0) → ℤ → ℤ → Type 0
RepeatsFrom Is from period = (start end : ℤ) → (from +ℤ period) ≤ℤ start → Is start end → Is (start -ℤ period) (end -ℤ period)

-- ---- residues

-- two instants are equally far past a multiple of m
abbrev pub IsCongruent : ℕ → ℤ → ℤ → Type 0
IsCongruent m x y = (k : ℕ) × (l : ℕ) × ((x +ℤ pos (k * m)) ≡ (y +ℤ pos (l * m)))

-- some of the `width` seconds from one residue on is one of the `other` seconds from another on
pub record ArcsMeet (m first : ℕ) (width : ℤ) (second : ℕ) (other : ℤ) : Type 0 where
  pub i : ℤ
  pub j : ℤ
  pub in_first : IsWithin (pos 0) width i
  pub in_second : IsWithin (pos 0) other j
  pub same : IsCongruent m (pos first +ℤ i) (pos second +ℤ j)
