-- The octets of a text that are written with a backslash.
use Rattle.std.specs.Prelude.{ℕ, Bool, ◌||◌, ◌==◌}

abbrev pub is_escaped : ℕ → Bool
is_escaped c = c == 10 || c == 92 || c == 59 || c == 44
