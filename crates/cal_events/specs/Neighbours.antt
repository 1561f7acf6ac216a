-- Values side by side.
use Rattle.std.specs.Prelude.{◌≡◌, ◌+◌, ◌<◌, ℕ, Bool, true, false, List, length, slice_index_or}
use Rattle.std.specs.List.{AllAdjacentBelow}

-- two side by side are the same
abbrev pub HaveEqual : {X : Type 0} → (X → X → Bool) → List X → Type 0
HaveEqual same values = (place : ℕ) × (place + 1 < length values) × ((d : _) → same (slice_index_or values place d) (slice_index_or values (place + 1) d) ≡ true)

-- no two side by side are
abbrev pub HaveNoEqual : {X : Type 0} → (X → X → Bool) → List X → Type 0
HaveNoEqual same values = AllAdjacentBelow (λ one next. same one next ≡ false) values (length values)
