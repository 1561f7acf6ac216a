-- Instances, clash and clear. Seconds are whole numbers from 1970-01-01T00:00:00Z.
use Rattle.std.specs.Prelude.{ℕ, ℤ, pos, List, ◌≢◌, ◌≤ℤ◌, ◌<ℤ◌}
use Rattle.std.specs.Ordering.{ordering_then, nat_cmp, int_cmp}
use Rattle.std.specs.Cmp.Lexicographic.{slice_cmp}
use Rattle.std.specs.declared.cmp.Ordering.{Ordering}

-- which instance: its meeting's organiser and UID as octets, and its original start (RFC 5545 3.8.4.3, 3.8.4.7, 3.8.4.4)
pub record Key : Type 0 where
  pub organiser : List ℕ
  pub uid : List ℕ
  pub slot : ℤ

-- an instance: it holds the room from start on and before end (RFC 5545 3.6.1)
pub record Instance : Type 0 where
  pub key : Key
  pub start : ℤ
  pub end : ℤ

-- 10000-01-01T00:00:00Z: from then on nothing is compared; this profile's choice
abbrev pub horizon : ℤ
horizon = pos 253402300800

-- from start on and before end
abbrev pub IsWithin : ℤ → ℤ → ℤ → Type 0
IsWithin start end t = (start ≤ℤ t) × (t <ℤ end)

-- two instances of different keys hold the room in the same second t, before the horizon
pub record AreClashing (a b : Instance) (t : ℤ) : Type 0 where
  pub differ : a.key ≢ b.key
  pub before : t <ℤ horizon
  pub in_first : IsWithin a.start a.end t
  pub in_second : IsWithin b.start b.end t

-- one of these instances and one of those do
pub record HasClash (these those : Instance → Type 0) : Type 0 where
  pub a : Instance
  pub b : Instance
  pub t : ℤ
  pub first : these a
  pub second : those b
  pub clash : AreClashing a b t

-- none of these instances clashes with one of those
abbrev pub AreClear : (Instance → Type 0) → (Instance → Type 0) → Type 0
AreClear these those = (a b : Instance) (t : ℤ) → these a → those b → AreClashing a b t → ⊥

-- no two of these instances clash
abbrev pub IsClear : (Instance → Type 0) → Type 0
IsClear these = AreClear these these

-- keys by organiser and UID as octets, and then by slot
abbrev pub key_cmp : Key → Key → Ordering
key_cmp a b = ordering_then (slice_cmp nat_cmp a.organiser b.organiser) (ordering_then (slice_cmp nat_cmp a.uid b.uid) (int_cmp a.slot b.slot))

-- instances by start, and then by key: the lesser of a clash is named first
abbrev pub instance_cmp : Instance → Instance → Ordering
instance_cmp a b = ordering_then (int_cmp a.start b.start) (key_cmp a.key b.key)
