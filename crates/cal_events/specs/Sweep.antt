-- Spans that share an instant, and the list that the sweep sorts.
use Rattle.std.specs.Prelude.{ℕ, ℤ, pos, Bool, cond, ◌&&◌, List, [], ◌∷◌, ◌+◌, ◌<◌, ◌≢◌, ◌≡◌, ◌↔◌, ◌≤ℤ◌, ◌<ℤ◌, int_lt, length, slice_index_or}
use Rattle.profile.specs.checker.Instances.{horizon, IsWithin}
use Rattle.cal_events.specs.declared.sweep.Span.{Span}
use Rattle.cal_events.specs.declared.sweep.Placed.{Placed}
use Rattle.cal_events.specs.declared.sweep.Overlap.{Overlap}

-- a span holds those seconds of another that come before the horizon
abbrev pub IsBeforeHorizon : Span → Span → Type 0
IsBeforeHorizon span cut = (t : ℤ) → IsWithin cut.start cut.end t ↔ (IsWithin span.start span.end t × (t <ℤ horizon))

-- the span at a place; past the end one that holds no instant
abbrev pub span_at : List Span → ℕ → Span
span_at spans i = slice_index_or spans i (record { start = pos 0; end = pos 0 })

-- the spans at two places hold the instant t, before the horizon
pub record Share (spans : List Span) (i j : ℕ) (t : ℤ) : Type 0 where
  pub first_in : i < length spans
  pub second_in : j < length spans
  pub differ : i ≢ j
  pub before : t <ℤ horizon
  pub in_first : IsWithin (span_at spans i).start (span_at spans i).end t
  pub in_second : IsWithin (span_at spans j).start (span_at spans j).end t

-- no two places of the list share an instant
abbrev pub AreSpansApart : List Span → Type 0
AreSpansApart spans = (i j : ℕ) (t : ℤ) → Share spans i j t → ⊥

-- the places share the instant; it is the second's start, and the first starts no later
pub record IsOverlap (spans : List Span) (found : Overlap) : Type 0 where
  pub shared : Share spans found.first found.second found.instant
  pub later : found.instant ≡ (span_at spans found.second).start
  pub earlier : (span_at spans found.first).start ≤ℤ found.instant

-- the span holds an instant before the horizon
abbrev pub holds_instant : Span → Bool
holds_instant s = int_lt s.start s.end && int_lt s.start horizon

-- the spans that hold an instant before the horizon, each with its place, counted from n
abbrev pub placed_from : ℕ → List Span → List Placed
placed_from n [] = []
placed_from n (s ∷ ss) = cond (holds_instant s) (record { start = s.start; end = s.end; place = n } ∷ placed_from (n + 1) ss) (placed_from (n + 1) ss)

-- each starts no later than the next
abbrev pub Rises : Placed → Placed → Type 0
Rises a b = a.start ≤ℤ b.start

-- the first has ended when the second starts
abbrev pub IsOverBefore : Placed → Placed → Type 0
IsOverBefore a b = a.end ≤ℤ b.start

-- the places of two neighbours of which the second starts before the first has ended, and that start
pub record AreNeighbours (sorted : List Placed) (found : Overlap) : Type 0 where
  pub at : ℕ
  pub a : Placed
  pub b : Placed
  pub within : at + 1 < length sorted
  pub first_is : slice_index_or sorted at a ≡ a
  pub second_is : slice_index_or sorted (at + 1) b ≡ b
  pub first : found.first ≡ a.place
  pub second : found.second ≡ b.place
  pub instant : found.instant ≡ b.start
  pub overlap : b.start <ℤ a.end
