-- What is appended to a list of octets.
use Rattle.std.specs.Prelude.{◌≡◌, ℕ, List, ◌++◌}

-- new is old and a text of that kind after it
abbrev pub Appends : List ℕ → List ℕ → (List ℕ → Type 0) → Type 0
Appends old new IsText = (text : List ℕ) × IsText text × (new ≡ old ++ text)
