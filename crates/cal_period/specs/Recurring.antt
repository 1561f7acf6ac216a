-- What recurs, in the abstract: members at instants, and after how many days they are there again.
use Rattle.std.specs.Prelude.{◌↔◌, ℕ, ℤ, pos, ◌*◌, ◌+ℤ◌, ◌≤ℤ◌, ◌<◌, ◌≤◌}
use Rattle.profile.specs.series.Periods.{IsMultiple, most_period}

-- every such number is past the most
abbrev pub AreAllPastMost : (ℕ → Type 0) → Type 0
AreAllPastMost Is = (n : ℕ) → 0 < n → Is n → most_period < n

-- such numbers are the multiples of this one
pub record AreMultiples (Is : ℕ → Type 0) (days : ℕ) : Type 0 where
  pub some : 0 < days
  pub most : days ≤ most_period
  pub multiples : (n : ℕ) → Is n ↔ IsMultiple n days

-- from a regular instant on there is a member exactly where there is one a period later, where one can be
pub record DoesRecur (Member : ℤ → Type 0) (Period : ℕ → Type 0) (Regular : ℤ → Type 0) (Listed : ℤ → Type 0) : Type 0 where
  pub earlier : (from x : ℤ) (days : ℕ) → Regular from → Period days → from ≤ℤ x → Member (x +ℤ pos (86_400 * days)) → Member x
  pub later : (from x : ℤ) (days : ℕ) → Regular from → Period days → from ≤ℤ x → Member x → Listed (x +ℤ pos (86_400 * days)) → Member (x +ℤ pos (86_400 * days))

-- the least number that is a period of both
pub record IsLeastCommon (These Those : ℕ → Type 0) (days : ℕ) : Type 0 where
  pub some : 0 < days
  pub most : days ≤ most_period
  pub first : These days
  pub second : Those days
  pub least : (n : ℕ) → 0 < n → These n → Those n → days ≤ n

-- every such number is past the most
abbrev pub HasNoCommon : (ℕ → Type 0) → (ℕ → Type 0) → Type 0
HasNoCommon These Those = (n : ℕ) → 0 < n → These n → Those n → most_period < n
