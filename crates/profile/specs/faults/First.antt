-- With which number octets are refused where their lines have several faults, and which line is meant (RFC 5545 3.1); the order is this profile's
-- choice.
use Rattle.std.specs.Prelude.{ℕ, ◌+◌, Bool, false, not, ◌&&◌, ◌==◌, nat_lt, List, [], ◌∷◌, length, take, Option, None, Some, if◌then◌else◌}
use Rattle.std.specs.List.{find, prefix_len}
use Rattle.std.specs.Str.{is_utf8}
use Rattle.profile.specs.text.Lines.{logical_lines, ended, line_has, is_faulty, most_octets, most_lines}

-- the least of the faults 1 to 4 that a line has
abbrev pub least_fault : List ℕ → Option ℕ
least_fault line = find (λ number. line_has number line) (1 ∷ 2 ∷ 3 ∷ 4 ∷ [])

-- the lines that are judged one by one: of a message the first ones, up to the most that it may have
abbrev pub judged : Bool → List (List ℕ) → List (List ℕ)
judged bounded lines = if bounded then take most_lines lines else lines

-- the least fault of the first faulty line; where there is none, 6 if there are more lines than are judged
abbrev pub fault_of : Option (List ℕ) → Bool → Option ℕ
fault_of (Some line) more = least_fault line
fault_of None more = if more then Some 6 else None

-- the number that lines are refused with
abbrev pub lines_fault : Bool → List (List ℕ) → Option ℕ
lines_fault bounded lines = fault_of (find is_faulty (judged bounded lines)) (bounded && nat_lt most_lines (length lines))

-- the number that octets are refused with: 6 where a message has too many, else 5 where they aren't UTF-8, else that of their lines
abbrev pub text_fault : Bool → List ℕ → Option ℕ
text_fault bounded octets =
    if bounded && nat_lt most_octets (length octets) then Some 6
    else (if is_utf8 (ended (logical_lines octets)) then lines_fault bounded (logical_lines octets) else Some 5)

-- this is the number
abbrev pub is_number : Option ℕ → ℕ → Bool
is_number None number = false
is_number (Some first) number = first == number

-- the number of the first faulty line, from 1; where none of the judged ones is faulty, that of the first line past them
abbrev pub lines_place : Bool → List (List ℕ) → ℕ
lines_place bounded lines = 1 + prefix_len (λ line. not (is_faulty line)) (judged bounded lines)

-- the number of the logical line that refused octets are refused at: none, which is 0, where they are too many; the first that isn't UTF-8; else
-- that of their lines
abbrev pub text_place : Bool → List ℕ → ℕ
text_place bounded octets =
    if bounded && nat_lt most_octets (length octets) then 0
    else (if is_utf8 (ended (logical_lines octets)) then lines_place bounded (logical_lines octets)
    else 1 + prefix_len is_utf8 (logical_lines octets))
