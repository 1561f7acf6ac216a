-- Instants that spans share.
use Rattle.std.specs.Prelude.{◌≡◌, ◌≤◌, ℤ, ◌≤ℤ◌, ◌<ℤ◌, ◌⊎◌, List, [], ◌∷◌, ◌++◌, length, Contains, AllPairs}
use Rattle.std.specs.declared.cmp.Ordering.{Ordering}
use Rattle.std.specs.List.Sorted.{IsPermutation}
use Rattle.std.specs.Ordering.{int_cmp, ordering_then}
use Rattle.profile.specs.checker.Instances.{IsWithin, horizon}
use Rattle.cal_events.specs.declared.sweep.Span.{Span}
use Rattle.cal_events.specs.declared.instance.Single.{Single}

-- an instant of both, before the horizon
pub record HaveInstant (a b : Span) (t : ℤ) : Type 0 where
  pub in_first : IsWithin a.start a.end t
  pub in_second : IsWithin b.start b.end t
  pub before : t <ℤ horizon

-- the later of the two starts
pub record IsLater (a b : Span) (t : ℤ) : Type 0 where
  pub first : a.start ≤ℤ t
  pub second : b.start ≤ℤ t
  pub one : (t ≡ a.start) ⊎ (t ≡ b.start)

-- the later start is an instant of both
abbrev pub Overlap : Span → Span → Type 0
Overlap a b = (t : ℤ) → IsLater a b t → HaveInstant a b t

-- no two of these share an instant
abbrev pub AreSeparate : List Single → Type 0
AreSeparate singles = AllPairs (λ a b. (t : ℤ) → HaveInstant a.span b.span t → ⊥) singles

-- some are left of all: they are among them, no more, and apart where all are
pub record IsPartOf (some all : List Single) : Type 0 where
  pub within : (single : Single) → Contains some single → Contains all single
  pub shorter : length some ≤ length all
  pub separate : AreSeparate all → AreSeparate some

-- all of these go or are kept, in any order
abbrev pub IsPartedInto : List Single → List Single → List Single → Type 0
IsPartedInto all gone kept = IsPermutation all (gone ++ kept)

-- instances by their original starts, then by their spans
abbrev pub single_cmp : Single → Single → Ordering
single_cmp a b = ordering_then (ordering_then (int_cmp a.slot b.slot) (int_cmp a.span.start b.span.start)) (int_cmp a.span.end b.span.end)

abbrev pub the_single : Single → Single
the_single single = single

-- of all of these some go, and the others are kept, both in their order
pub data IsSplitInto : List Single → List Single → List Single → Type 0 where
  none : IsSplitInto [] [] []
  goes : (s : Single) (all gone kept : List Single) → IsSplitInto all gone kept → IsSplitInto (s ∷ all) (s ∷ gone) kept
  stays : (s : Single) (all gone kept : List Single) → IsSplitInto all gone kept → IsSplitInto (s ∷ all) gone (s ∷ kept)

-- what goes of these, where this many are left, comes after what went before
pub record Sheds (all left old new : List Single) : Type 0 where
  pub gone : List Single
  pub is : new ≡ old ++ gone
  pub split : IsSplitInto all gone left

-- of all that was confirmed before these went, and the rest and what was added is all that is confirmed after
pub record Shifts (before gone added after : List Single) : Type 0 where
  pub kept : List Single
  pub parted : IsPartedInto before gone kept
  pub after_is : IsPartedInto after kept added
