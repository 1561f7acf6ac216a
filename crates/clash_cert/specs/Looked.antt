-- What a search through the pairs of series says that passes over those which are kept: they were clear. Series are counted from 0.
use Rattle.std.specs.Prelude.{◌≡◌, ℕ, ◌≤◌, ◌<◌, Bool, false, ◌&&◌, List, Contains, Option, None, is_some, length, slice_index_or, MatchOption}
use Rattle.profile.specs.checker.Instances.{AreClear}
use Rattle.profile.specs.events.Events.{Event}
use Rattle.profile.specs.events.Confirmed.{Confirmed, IsOneOf}
use Rattle.cal_events.specs.Calendar.{instance_of}
use Rattle.cal_events.specs.declared.instance.Instance.{Instance}
use Rattle.cal_period.specs.Every.{IsPairClear, PairShares}
use Rattle.clash_cert.specs.declared.looking.Shared.{Shared}

-- the series at two places have old numbers
abbrev pub are_both_kept : List (Option ℕ) → ℕ → ℕ → Bool
are_both_kept kept i j = is_some (slice_index_or kept i None) && is_some (slice_index_or kept j None)

-- the pair is clear, unless it is passed over
abbrev pub IsLookedAt : List (Option ℕ) → List Event → ℕ → ℕ → Type 0
IsLookedAt kept all i j = are_both_kept kept i j ≡ false → IsPairClear all i j

-- so are those of a series with itself and those after it, before a place
abbrev pub IsRowLookedAt : List (Option ℕ) → List Event → ℕ → ℕ → Type 0
IsRowLookedAt kept all i end = (q : ℕ) → i ≤ q → q < end → IsLookedAt kept all i q

-- and those of the series before a place
abbrev pub AreRowsLookedAt : List (Option ℕ) → List Event → ℕ → Type 0
AreRowsLookedAt kept all end = (p : ℕ) → p < end → IsRowLookedAt kept all p (length all)

-- no single clashes, and those of all series are clear unless they are passed over
abbrev pub AreLookedAt : List (Option ℕ) → Confirmed → Type 0
AreLookedAt kept all = AreClear (Contains all.singles) (IsOneOf all) × AreRowsLookedAt kept all.series (length all.series)

-- two instances of a pair
abbrev pub IsAtFound : List (Option ℕ) → List Event → ℕ → ℕ → Option (Instance × Instance) → Type 0
IsAtFound kept all i j found = MatchOption found (IsLookedAt kept all i j) (λ s. PairShares all i j (instance_of s.0) (instance_of s.1))

-- and the places of their series
pub record IsPairFound (all : List Event) (s : Shared) : Type 0 where
  pub order : s.i ≤ s.j
  pub within : s.j < length all
  pub is : PairShares all s.i s.j (instance_of s.first) (instance_of s.second)

-- of the first pair in the row of a series that isn't clear
pub record IsFirstInRow (kept : List (Option ℕ)) (all : List Event) (i : ℕ) (s : Shared) : Type 0 where
  pub found : IsPairFound all s
  pub of_row : s.i ≡ i
  pub row : IsRowLookedAt kept all i s.j

-- of the first pair of all, by the first series and then by the second
pub record IsFirstFound (kept : List (Option ℕ)) (all : List Event) (s : Shared) : Type 0 where
  pub found : IsPairFound all s
  pub rows : AreRowsLookedAt kept all s.i
  pub row : IsRowLookedAt kept all s.i s.j
