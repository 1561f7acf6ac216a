-- What is confirmed in a span of time, and when nothing is. A span is from an instant on and before another.
use Rattle.std.specs.Prelude.{◌≡◌, ◌⊎◌, ℕ, ◌+◌, ℤ, pos, List, [], ◌∷◌, AllPairs, Contains, ◌-ℤ◌, ◌<ℤ◌, ◌≤ℤ◌}
use Rattle.std.specs.declared.cmp.Ordering.TheVariants.{Less}
use Rattle.profile.specs.series.Zones.{Zone, Means, local_time}
use Rattle.profile.specs.checker.Instances.{Instance, IsWithin, instance_cmp}

-- an instance shares an instant with the span
abbrev pub IsInSpan : ℤ → ℤ → Instance → Type 0
IsInSpan from until a = (t : ℤ) × IsWithin from until t × IsWithin a.start a.end t

-- these are the instances of a kind in the span: each of them, once, by start and then by key
pub record AreInSpan (Is : Instance → Type 0) (from until : ℤ) (instances : List Instance) : Type 0 where
  pub all : (a : Instance) → Is a → IsInSpan from until a → Contains instances a
  pub only : (a : Instance) → Contains instances a → Is a × IsInSpan from until a
  pub ordered : AllPairs (λ a b. instance_cmp a b ≡ Less) instances

-- no instance of the kind holds the room at this instant
abbrev pub IsFreeAt : (Instance → Type 0) → ℤ → Type 0
IsFreeAt Is t = (a : Instance) → Is a → IsWithin a.start a.end t → ⊥

-- in a span the room is free from start on and before end, and no longer: in the second before and in the one behind it isn't, or the span ends there
pub record IsFreeSpan (Is : Instance → Type 0) (from until start end : ℤ) : Type 0 where
  pub some : start <ℤ end
  pub free : (t : ℤ) → IsWithin start end t → IsWithin from until t × IsFreeAt Is t
  pub begins : (start ≡ from) ⊎ (IsFreeAt Is (start -ℤ pos 1) → ⊥)
  pub ends : (end ≡ until) ⊎ (IsFreeAt Is end → ⊥)

-- these are all of them, in order: each instant of the span at which the room is free is in one
pub record AreFreeSpans (Is : Instance → Type 0) (from until : ℤ) (spans : List (ℤ × ℤ)) : Type 0 where
  pub each : (s : ℤ × ℤ) → Contains spans s → IsFreeSpan Is from until s.0 s.1
  pub all : (t : ℤ) → IsWithin from until t → IsFreeAt Is t → (s : ℤ × ℤ) × Contains spans s × IsWithin s.0 s.1 t
  pub ordered : AllPairs (λ a b. a.1 <ℤ b.0) spans

-- ---- a page of days

-- a part of a day: an instance, or a span in which the room is free
pub data Block : Type 0 where
  Taken : Instance → Block
  Free : ℤ → ℤ → Block

abbrev pub taken_in : List Block → List Instance
taken_in [] = []
taken_in (Taken a ∷ rest) = a ∷ taken_in rest
taken_in (Free start end ∷ rest) = taken_in rest

abbrev pub free_in : List Block → List (ℤ × ℤ)
free_in [] = []
free_in (Taken a ∷ rest) = free_in rest
free_in (Free start end ∷ rest) = (start, end) ∷ free_in rest

-- where it begins; an instance may have begun before the day
abbrev pub block_start : Block → ℤ
block_start (Taken a) = a.start
block_start (Free start end) = start

-- these are the instances of a kind in a span, and the spans between them in which the room is free
pub record AreBlocks (Is : Instance → Type 0) (from until : ℤ) (blocks : List Block) : Type 0 where
  pub taken : AreInSpan Is from until (taken_in blocks)
  pub free : AreFreeSpans Is from until (free_in blocks)
  pub ordered : AllPairs (λ a b. block_start a ≤ℤ block_start b) blocks

-- 00:00 of the day of this index means the one instant on the clocks of a zone, and 00:00 of the next day the other (RFC 5545 3.3.5)
pub record IsLocalDay (zone : Zone) (day : ℕ) (start end : ℤ) : Type 0 where
  pub begins : Means zone (local_time day 0) start
  pub ends : Means zone (local_time (day + 1) 0) end
