-- What the steps of unfolding leave.
use Rattle.std.specs.Prelude.{ℕ, List, [], ◌∷◌, ◌++◌, filter, Option, None, Some}
use Rattle.std.specs.List.{flat_map}
use Rattle.profile.specs.text.Lines.{physical_lines, is_filled}
use denote.Ref.{Bor}

-- the physical lines of what follows, if anything does
abbrev pub lines_after : Option (Bor (List ℕ)) → List (List ℕ)
lines_after None = []
lines_after (Some rest) = physical_lines rest.now

-- lines as one text in which each ends with CRLF
abbrev pub with_breaks : List (List ℕ) → List ℕ
with_breaks lines = flat_map (λ line. line ++ 13 ∷ 10 ∷ []) lines

-- a line that isn't empty, ended by CRLF
abbrev pub broken_if_filled : List ℕ → List ℕ
broken_if_filled line = with_breaks (filter is_filled (line ∷ []))
