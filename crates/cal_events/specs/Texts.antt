-- Many texts that are in one, one after another, by where each ends.
use Rattle.std.specs.Prelude.{ℕ, List, [], ◌∷◌, Bool, ◌&&◌, ◌==◌, nat_le, length, slice_range}
use Rattle.std.specs.Str.{is_utf8}

-- those that begin at a place and end at these
abbrev pub pieces_between : List ℕ → ℕ → List ℕ → List (List ℕ)
pieces_between joined start [] = []
pieces_between joined start (end ∷ ends) = slice_range joined start end ∷ pieces_between joined end ends

-- what is between two places is a text
abbrev pub is_piece : List ℕ → ℕ → ℕ → Bool
is_piece joined start end = nat_le start end && (nat_le end (length joined) && is_utf8 (slice_range joined start end))

-- each is one, and the last ends where all do
abbrev pub are_pieces : List ℕ → ℕ → List ℕ → Bool
are_pieces joined start [] = start == length joined
are_pieces joined start (end ∷ ends) = is_piece joined start end && are_pieces joined end ends
