-- The clash that two places of a list name.
use Rattle.std.specs.Prelude.{List, ◌≡◌, ◌<◌, ◌≤ℤ◌, length, slice_index_or}
use Rattle.profile.specs.checker.Instances.{Instance, AreClashing}
use Rattle.cal_events.specs.declared.sweep.Overlap.{Overlap}

-- the instances at the two places clash at the instant: the second's start, and the first starts no later
pub record Names (all : List Instance) (found : Overlap) : Type 0 where
  pub a : Instance
  pub b : Instance
  pub first_in : found.first < length all
  pub second_in : found.second < length all
  pub first : slice_index_or all found.first a ≡ a
  pub second : slice_index_or all found.second b ≡ b
  pub clash : AreClashing a b found.instant
  pub later : found.instant ≡ b.start
  pub earlier : a.start ≤ℤ found.instant
