-- The pieces of a text that may be missing.
use Rattle.std.specs.Prelude.{ℕ, List, [], Option, None, Some}
use Rattle.profile.specs.text.Lines.{pieces}

abbrev pub pieces_of : ℕ → Option (List ℕ) → List (List ℕ)
pieces_of stop None = []
pieces_of stop (Some text) = pieces stop text
