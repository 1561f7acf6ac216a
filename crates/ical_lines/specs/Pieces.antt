-- What is left of an iterator over the pieces of a text.
use Rattle.std.specs.Prelude.{ℕ, List, option_map}
use Rattle.ical_lines.specs.PiecesOf.{pieces_of}
use Rattle.ical_lines.specs.declared.pieces.Pieces.{Pieces}

-- the pieces that are still to come
abbrev pub pieces_left : Pieces → List (List ℕ)
pieces_left p = pieces_of p.stop (option_map (λ x. x.now) p.rest)
