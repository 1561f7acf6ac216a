-- Lists of values with commas between.
use Rattle.std.specs.Prelude.{ℕ, List, ◌==◌, ◌<◌, ◌⊎◌, length}
use Rattle.std.specs.List.{slice_split, Contains}

-- no list: one of its values isn't a value, or they are too many
abbrev pub IsNoList : (List ℕ → Type 0) → List ℕ → Type 0
IsNoList IsNone text =
    let values = slice_split (λ c. c == 44) text in
    ((value : List ℕ) × Contains values value × IsNone value) ⊎ (366 < length values)
