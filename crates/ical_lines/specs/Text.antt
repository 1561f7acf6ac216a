-- A text of lines, and what the types that lend them show.
use Rattle.std.specs.Prelude.{ℕ, ◌+◌, List, map}
use Rattle.std.specs.List.{enumerate_from}
use Rattle.std.specs.String.{string_bytes}
use Rattle.profile.specs.text.Lines.{param_name, param_value}
use Rattle.ical_lines.specs.Pieces.{pieces_left}
use Rattle.ical_lines.specs.declared.line.Line.{Line}
use Rattle.ical_lines.specs.declared.param.Param.{Param}
use Rattle.ical_lines.specs.declared.param.Params.{Params}
use Rattle.ical_lines.specs.declared.text.Lines.{Lines}
use Rattle.ical_lines.specs.declared.unfold.UnfoldedText.{UnfoldedText}
use Rattle.ical_lines.specs.declared.unfold.UnfoldedText.TheVariants.{Lent, Owned}
use Rattle.ical_lines.specs.Breaks.{lines_of}

-- the octets of a line
abbrev pub line_text : Line → List ℕ
line_text line = line.text.now

-- a parameter as its name and its value
abbrev pub param_view : Param → List ℕ × List ℕ
param_view p = (p.name.now, p.value.now)

abbrev pub param_of : List ℕ → List ℕ × List ℕ
param_of piece = (param_name piece, param_value piece)

-- the parameters that are still to come
abbrev pub params_left : Params → List (List ℕ × List ℕ)
params_left p = map param_of (pieces_left p.pieces)

-- the lines that are still to come
abbrev pub lines_left : Lines → List (List ℕ)
lines_left s = lines_of s.rest.now

-- they with their numbers
abbrev pub numbered_left : Lines → List (ℕ × List ℕ)
numbered_left s = enumerate_from (s.passed + 1) (lines_left s)

-- a line with its number
abbrev pub numbered : Line → ℕ × List ℕ
numbered line = (line.number, line.text.now)

-- the octets of a text, whoever holds them
abbrev pub unfolded_octets : UnfoldedText → List ℕ
unfolded_octets (Lent text) = text.now
unfolded_octets (Owned text) = string_bytes text
