-- Logical lines and folding (RFC 5545 3.1).
-- An octet is its number: LF is 10, CR 13, TAB 9, space 32, `"` 34, `,` 44, `-` 45, `:` 58, `;` 59, `=` 61.
use Rattle.std.specs.Prelude.{ℕ, Bool, false, not, ◌&&◌, ◌||◌, ◌==◌, ◌+◌, ◌-◌, ◌%◌, nat_lt, nat_le, List, [], ◌∷◌, ◌++◌, Option, option_map, length, take, drop, map, filter, slice_index, count_by, if◌then◌else◌}
use Rattle.std.specs.List.{slice_split, onto_first, flat_map, list_any, list_all, find}
use Rattle.std.specs.Str.{bytes_eq, is_utf8, chars, str_eq_ignore_ascii_case}
use Rattle.std.specs.Char.{encode_utf8, is_ascii_digit, is_ascii_alphabetic}

-- ---- lines

-- the octets without a byte order mark at their start; this profile's choice
abbrev pub without_mark : List ℕ → List ℕ
without_mark octets = if bytes_eq (take 3 octets) (0xEF ∷ 0xBB ∷ 0xBF ∷ []) then drop 3 octets else octets

-- a physical line without one CR at its end
abbrev pub without_return : List ℕ → List ℕ
without_return line = if slice_index line (length line - 1) == 13 then take (length line - 1) line else line

-- the physical lines: what is between LFs; that an LF without CR ends one, and the end of the input, is this profile's choice
abbrev pub physical_lines : List ℕ → List (List ℕ)
physical_lines octets = map without_return (slice_split (λ x. x == 10) octets)

-- a physical line that begins with a space or a tab continues the line before it
abbrev pub is_continuation : List ℕ → Bool
is_continuation line = slice_index line 0 == 32 || slice_index line 0 == 9

-- each line with its continuations, after the line that has begun
abbrev pub gather : List ℕ → List (List ℕ) → List (List ℕ)
gather begun [] = begun ∷ []
gather begun (line ∷ rest) =
    if is_continuation line then gather (begun ++ drop 1 line) rest else begun ∷ gather line rest

-- the physical lines with their continuations; the first has no line before it
abbrev pub unfolded : List (List ℕ) → List (List ℕ)
unfolded [] = []
unfolded (line ∷ rest) = gather line rest

abbrev pub is_filled : List ℕ → Bool
is_filled line = nat_lt 0 (length line)

-- the logical lines of some octets; empty ones aren't lines, which is this profile's choice
abbrev pub logical_lines : List ℕ → List (List ℕ)
logical_lines octets = filter is_filled (unfolded (physical_lines (without_mark octets)))

-- lines as one text in which each ends with an LF
abbrev pub ended : List (List ℕ) → List ℕ
ended lines = flat_map (λ line. line ++ 10 ∷ []) lines

-- ---- what a line is made of: name *(";" param) ":" value

-- how many octets come before the first `stop` outside quotes; a quote opens, the next one closes
abbrev pub outside_from : ℕ → Bool → List ℕ → ℕ
outside_from stop quoted [] = 0
outside_from stop quoted (c ∷ cs) =
    if c == 34 then 1 + outside_from stop (not quoted) cs
    else (if c == stop && not quoted then 0 else 1 + outside_from stop quoted cs)

abbrev pub outside : ℕ → List ℕ → ℕ
outside stop text = outside_from stop false text

-- what comes before the first `stop` outside quotes, and what comes after it
abbrev pub front : ℕ → List ℕ → List ℕ
front stop text = take (outside stop text) text

abbrev pub back : ℕ → List ℕ → List ℕ
back stop text = drop (outside stop text + 1) text

abbrev pub has_stop : ℕ → List ℕ → Bool
has_stop stop text = nat_lt (outside stop text) (length text)

-- the pieces between the octets `stop` outside quotes
abbrev pub pieces_from : ℕ → Bool → List ℕ → List (List ℕ)
pieces_from stop quoted [] = [] ∷ []
pieces_from stop quoted (c ∷ cs) =
    if c == 34 then onto_first c (pieces_from stop (not quoted) cs)
    else (if c == stop && not quoted then [] ∷ pieces_from stop false cs
    else onto_first c (pieces_from stop quoted cs))

abbrev pub pieces : ℕ → List ℕ → List (List ℕ)
pieces stop text = pieces_from stop false text

-- the head of a line is what comes before its colon
abbrev pub line_head : List ℕ → List ℕ
line_head line = front 58 line

abbrev pub line_name : List ℕ → List ℕ
line_name line = front 59 (line_head line)

abbrev pub line_value : List ℕ → List ℕ
line_value line = back 58 line

-- the parameters as they are written
abbrev pub line_params : List ℕ → List (List ℕ)
line_params line = drop 1 (pieces 59 (line_head line))

abbrev pub param_name : List ℕ → List ℕ
param_name param = front 61 param

abbrev pub param_value : List ℕ → List ℕ
param_value param = back 61 param

-- names are compared without regard to the case of ASCII letters
abbrev pub is_same_name : List ℕ → List ℕ → Bool
is_same_name = str_eq_ignore_ascii_case

abbrev pub is_quote : ℕ → Bool
is_quote c = c == 34

-- a text that begins and ends with a quote each
abbrev pub is_quoted : List ℕ → Bool
is_quoted text =
    nat_le 2 (length text) && (is_quote (slice_index text 0) && is_quote (slice_index text (length text - 1)))

-- a value of a parameter without the quotes that are around it
abbrev pub unquoted : List ℕ → List ℕ
unquoted text = if is_quoted text then take (length text - 2) (drop 1 text) else text

-- the first of the values of a parameter, which commas part, without its quotes
abbrev pub first_value : List ℕ → List ℕ
first_value param = unquoted (front 44 (param_value param))

-- the first value of the first parameter of this name
abbrev pub line_param : List ℕ → List ℕ → Option (List ℕ)
line_param name line = option_map first_value (find (λ param. is_same_name (param_name param) name) (line_params line))

-- ---- what can be wrong with a line, by the number of its refusal

abbrev pub is_name_octet : ℕ → Bool
is_name_octet c = is_ascii_alphabetic c || is_ascii_digit c || c == 45

-- a name is letters, digits and `-`, at least one
abbrev pub is_name : List ℕ → Bool
is_name text = is_filled text && list_all is_name_octet text

-- one value of a parameter is quoted or has no quote
abbrev pub is_item : List ℕ → Bool
is_item text = not (list_any is_quote (unquoted text))

-- a control octet other than TAB
abbrev pub is_control : ℕ → Bool
is_control c = (nat_lt c 32 && not (c == 9)) || c == 127

-- 1: no colon outside quotes. Where a quote stays open and a colon is in the line, it is 2 or 3 instead
abbrev pub lacks_colon : List ℕ → Bool
lacks_colon line =
    not (has_stop 58 line) && (not (count_by is_quote line % 2 == 1) || not (list_any (λ c. c == 58) line))

abbrev pub lacks_name : List ℕ → Bool
lacks_name param = not (has_stop 61 param && is_name (param_name param))

-- 2: the name of the line or of a parameter isn't a name, or a parameter has no `=`
abbrev pub has_bad_name : List ℕ → Bool
has_bad_name line = not (is_name (line_name line)) || list_any lacks_name (line_params line)

abbrev pub is_badly_quoted : List ℕ → Bool
is_badly_quoted param = list_any (λ item. not (is_item item)) (pieces 44 (param_value param))

-- 3: a value of a parameter is neither quoted nor free of quotes
abbrev pub has_bad_quote : List ℕ → Bool
has_bad_quote line = list_any is_badly_quoted (line_params line)

-- 4: a control octet is in the line
abbrev pub has_control : List ℕ → Bool
has_control line = list_any is_control line

-- the line has the fault of this number, 1 to 4
abbrev pub line_has : ℕ → List ℕ → Bool
line_has number line =
    (number == 1 && lacks_colon line) || (number == 2 && has_bad_name line) || (number == 3 && has_bad_quote line) || (number == 4 && has_control line)

-- the line has a fault of 1 to 4
abbrev pub is_faulty : List ℕ → Bool
is_faulty line = lacks_colon line || has_bad_name line || has_bad_quote line || has_control line

-- a content line: it has none of those faults, and it is UTF-8
abbrev pub is_content : List ℕ → Bool
is_content line = not (is_faulty line) && is_utf8 line

-- the most octets and the most lines of a message; this profile's choice
abbrev pub most_octets : ℕ
most_octets = 1_048_576

abbrev pub most_lines : ℕ
most_lines = 65_536

-- there are more of them
abbrev pub is_too_long : List ℕ → Bool
is_too_long octets = nat_lt most_octets (length octets) || nat_lt most_lines (length (logical_lines octets))

-- the octets have the fault of this number, 1 to 6; with `bounded` they are a message
abbrev pub text_has : Bool → ℕ → List ℕ → Bool
text_has bounded number octets =
    list_any (line_has number) (logical_lines octets) || (number == 5 && not (is_utf8 (ended (logical_lines octets)))) || (number == 6 && (bounded && is_too_long octets))

-- the octets have none of the faults 1 to 6
abbrev pub reads_as_lines : Bool → List ℕ → Bool
reads_as_lines bounded octets =
    not (list_any is_faulty (logical_lines octets)) && is_utf8 (ended (logical_lines octets)) && not (bounded && is_too_long octets)

-- ---- folding: no physical line has more than 75 octets, and no character is split

-- the octets that come before a character at this column: a line break and one space where it would pass octet 75
abbrev pub fold_break : ℕ → ℕ → List ℕ
fold_break column c = if nat_lt 75 (column + length (encode_utf8 c)) then 13 ∷ 10 ∷ 32 ∷ [] else []

-- the column after the character; the space of a continuation counts
abbrev pub next_column : ℕ → ℕ → ℕ
next_column column c = (if nat_lt 75 (column + length (encode_utf8 c)) then 1 else column) + length (encode_utf8 c)

-- characters, folded from this column on
abbrev pub fold_from : ℕ → List ℕ → List ℕ
fold_from column [] = []
fold_from column (c ∷ cs) = fold_break column c ++ encode_utf8 c ++ fold_from (next_column column c) cs

-- the column after some characters
abbrev pub column_after : ℕ → List ℕ → ℕ
column_after column [] = column
column_after column (c ∷ cs) = column_after (next_column column c) cs

-- a line as it is written: folded, and ended by CRLF
abbrev pub folded : List ℕ → List ℕ
folded text = fold_from 0 (chars text) ++ 13 ∷ 10 ∷ []

-- lines as they are written: each folded and ended by CRLF, one after another
abbrev pub written : List (List ℕ) → List ℕ
written lines = flat_map folded lines

-- a physical line of at most 75 octets, its line break not counted
abbrev pub is_short : List ℕ → Bool
is_short line = nat_le (length line) 75
