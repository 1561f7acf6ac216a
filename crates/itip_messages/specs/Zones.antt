-- The zones of an object that is written, as they come up.
use Rattle.std.specs.Prelude.{ℕ, Bool, not, List, [], ◌∷◌, ◌++◌, if◌then◌else◌}
use Rattle.std.specs.List.{list_any}
use Rattle.std.specs.Str.{bytes_eq}

-- the zone is none of these
abbrev pub is_new : List (List ℕ) → List ℕ → Bool
is_new zones zone = not (list_any (λ other. bytes_eq other zone) zones)

-- these, and the zone after them if it is none of them
abbrev pub with_zone : List (List ℕ) → List ℕ → List (List ℕ)
with_zone zones zone = if is_new zones zone then zones ++ zone ∷ [] else zones

-- the same for one zone after another
abbrev pub with_zones : List (List ℕ) → List (List ℕ) → List (List ℕ)
with_zones zones [] = zones
with_zones zones (zone ∷ more) = with_zones (with_zone zones zone) more
