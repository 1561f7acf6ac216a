-- The instances in a span, as they are gathered.
use Rattle.std.specs.Prelude.{◌≡◌, ◌++◌, ℤ, List, Contains}
use Rattle.profile.specs.checker.Instances.{Instance}
use Rattle.profile.specs.checker.Agendas.{IsInSpan}
use Rattle.cal_events.specs.Calendar.{HaveDifferentKeys}

-- these are the instances of a kind in the span, in some order: each of them, and no two of one key
pub record AreAllInSpan (Is : Instance → Type 0) (from until : ℤ) (instances : List Instance) : Type 0 where
  pub all : (a : Instance) → Is a → IsInSpan from until a → Contains instances a
  pub only : (a : Instance) → Contains instances a → Is a × IsInSpan from until a
  pub differ : HaveDifferentKeys instances

-- an instance was added to others, if it is in the span
abbrev pub AddsInSpan : ℤ → ℤ → Instance → List Instance → List Instance → Type 0
AddsInSpan from until one old new = (added : List Instance) × (new ≡ old ++ added) × AreAllInSpan (λ a. a ≡ one) from until added
