-- The lines of a text in which no line is folded.
use Rattle.std.specs.Prelude.{ℕ, Bool, not, ◌||◌, ◌==◌, List, filter, Option, Some, None, if◌then◌else◌}
use Rattle.std.specs.List.{list_any}
use Rattle.profile.specs.text.Lines.{physical_lines, is_filled, has_stop, line_value}

abbrev pub is_break : ℕ → Bool
is_break c = c == 10

-- the text has no LF
abbrev pub is_one_line : List ℕ → Bool
is_one_line text = not (list_any is_break text)

-- a colon, a semicolon or a quote: a line's name is before the first of them
abbrev pub is_mark : ℕ → Bool
is_mark c = c == 58 || c == 59 || c == 34

-- the physical lines that aren't empty
abbrev pub lines_of : List ℕ → List (List ℕ)
lines_of text = filter is_filled (physical_lines text)

-- what comes after the colon that ends the head of a line, where there is one
abbrev pub value_or_none : List ℕ → Option (List ℕ)
value_or_none line = if has_stop 58 line then Some (line_value line) else None
