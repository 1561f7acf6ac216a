-- The tree of components that a list of lines spells (RFC 5545 3.4, 3.6).
use Rattle.std.specs.Prelude.{◌≡◌, ◌⊎◌, ℕ, suc, Bool, true, false, not, ◌&&◌, ◌||◌, ◌==◌, nat_le, nat_lt, List, [], ◌∷◌, ◌++◌, length, take, drop, filter, count_by, codes, if◌then◌else◌}
use Rattle.std.specs.List.{slice_split, join_with_byte, list_any}
use Rattle.std.specs.Str.{bytes_eq, str_to_ascii_lowercase}
use Rattle.profile.specs.text.Lines.{line_name, line_value, is_same_name, is_continuation, is_filled, physical_lines, unfolded, logical_lines, without_mark, without_return}
use Rattle.profile.specs.text.Trees.{Tree, tree_name, tree_own, tree_inside}

abbrev pub is_begin : List ℕ → Bool
is_begin line = is_same_name (line_name line) (codes "BEGIN")

abbrev pub is_end : List ℕ → Bool
is_end line = is_same_name (line_name line) (codes "END")

-- every other line is a property
abbrev pub is_property : List ℕ → Bool
is_property line = not (is_begin line) && not (is_end line)

-- the line is a BEGIN of this very name
pub record Opens (line name : List ℕ) : Type 0 where
  pub begins : is_begin line ≡ true
  pub names : line_value line ≡ name

-- the line is an END of this name, whose case doesn't matter
pub record Closes (line name : List ℕ) : Type 0 where
  pub ends : is_end line ≡ true
  pub names : is_same_name name (line_value line) ≡ true

abbrev pub is_version : List ℕ → Bool
is_version line = is_same_name (line_name line) (codes "VERSION")

abbrev pub is_version_only : List (List ℕ) → Bool
is_version_only (line ∷ []) = bytes_eq (line_value line) (codes "2.0")
is_version_only _ = false

-- VERSION occurs exactly once, and is `2.0`
abbrev pub has_version : List (List ℕ) → Bool
has_version lines = is_version_only (filter is_version lines)

-- the most VEVENTs of a message; this profile's choice
abbrev pub most_events : ℕ
most_events = 200

-- ---- what can be wrong with the lines of an object, by the number of its refusal

abbrev pub is_none : List (List ℕ) → Bool
is_none [] = true
is_none (_ ∷ _) = false

-- the names of the components that are open after a line, from the innermost on
abbrev pub now_open : List (List ℕ) → List ℕ → List (List ℕ)
now_open stack line = if is_begin line then line_value line ∷ stack else (if is_end line then drop 1 stack else stack)

abbrev pub opened_from : List (List ℕ) → List (List ℕ) → List (List ℕ)
opened_from stack [] = stack
opened_from stack (line ∷ lines) = opened_from (now_open stack line) lines

-- the names of the components that are open after some lines
abbrev pub opened : List (List ℕ) → List (List ℕ)
opened lines = opened_from [] lines

-- an END of this name closes the innermost open component
abbrev pub closes_innermost : List (List ℕ) → List ℕ → Bool
closes_innermost [] name = false
closes_innermost (innermost ∷ _) name = is_same_name innermost name

-- the name of the outermost component, whatever its case
abbrev pub is_calendar_name : List ℕ → Bool
is_calendar_name name = is_same_name name (codes "VCALENDAR")

-- a VCALENDAR may begin first of all, and nowhere else; every other component inside another
abbrev pub may_begin : List (List ℕ) → Bool → List ℕ → Bool
may_begin stack started name = if is_none stack then is_calendar_name name && not started else not (is_calendar_name name)

-- 22: a ninth component inside the others; 23: fewer are open, and this one may not begin here
abbrev pub misplaced_begin : ℕ → List (List ℕ) → Bool → List ℕ → Bool
misplaced_begin number stack started name =
    (number == 22 && nat_le 8 (length stack)) || (number == 23 && (not (nat_le 8 (length stack)) && not (may_begin stack started name)))

-- 20: an END with nothing open, or of another name than the innermost open component
abbrev pub misplaced_end : ℕ → List (List ℕ) → List ℕ → Bool
misplaced_end number stack name = number == 20 && not (closes_innermost stack name)

-- 23: a property outside
abbrev pub misplaced_property : ℕ → List (List ℕ) → Bool
misplaced_property number stack = number == 23 && is_none stack

-- this line has the fault of this number, 20, 22 or 23, where these components are open; `started` where lines come before it
abbrev pub misplaced : ℕ → List (List ℕ) → Bool → List ℕ → Bool
misplaced number stack started line =
    if is_begin line then misplaced_begin number stack started (line_value line)
    else (if is_end line then misplaced_end number stack (line_value line) else misplaced_property number stack)

-- this line has none of these faults
abbrev pub fits : List (List ℕ) → Bool → List ℕ → Bool
fits stack started line = not (misplaced 20 stack started line || misplaced 22 stack started line || misplaced 23 stack started line)

-- the first line that doesn't fit has the fault of this number
abbrev pub some_misplaced : ℕ → List (List ℕ) → Bool → List (List ℕ) → Bool
some_misplaced number stack started [] = false
some_misplaced number stack started (line ∷ lines) =
    misplaced number stack started line || (fits stack started line && some_misplaced number (now_open stack line) true lines)

abbrev pub all_fit : List (List ℕ) → Bool → List (List ℕ) → Bool
all_fit stack started [] = true
all_fit stack started (line ∷ lines) = fits stack started line && all_fit (now_open stack line) true lines

-- the lines have the fault of this number, 20 to 23: at the first that doesn't fit; or all fit and a component is open at
-- the end (21); or there is no line (23)
abbrev pub lines_have : ℕ → List (List ℕ) → Bool
lines_have number lines =
    some_misplaced number [] false lines || (number == 21 && (all_fit [] false lines && not (is_none (opened lines)))) || (number == 23 && is_none lines)

-- `body` spells these properties and components, each in their order, components at most `depth` deep and none a VCALENDAR
pub data SpellsBody : ℕ → List (List ℕ) → List Tree → List (List ℕ) → Type 0 where
  nothing : {depth : ℕ} → SpellsBody depth [] [] []
  property : {depth : ℕ} {lines : List (List ℕ)} {parts : List Tree} {body : List (List ℕ)} (line : List ℕ)
      → is_property line ≡ true → SpellsBody depth lines parts body → SpellsBody depth (lines ++ line ∷ []) parts (body ++ line ∷ [])
  component : {depth : ℕ} {lines : List (List ℕ)} {parts : List Tree} {body : List (List ℕ)} (part : Tree) (begin end : List ℕ) (inner : List (List ℕ))
      → is_calendar_name (tree_name part) ≡ false → Opens begin (tree_name part) → Closes end (tree_name part)
      → SpellsBody depth (tree_own part) (tree_inside part) inner → SpellsBody (suc depth) lines parts body
      → SpellsBody (suc depth) lines (parts ++ part ∷ []) (body ++ begin ∷ (inner ++ end ∷ []))

-- the lines spell the component: its BEGIN, its body, its END
pub record SpellsTree (depth : ℕ) (whole : Tree) (lines : List (List ℕ)) : Type 0 where
  pub begin : List ℕ
  pub end : List ℕ
  pub body : List (List ℕ)
  pub are : lines ≡ begin ∷ (body ++ end ∷ [])
  pub opens : Opens begin (tree_name whole)
  pub closes : Closes end (tree_name whole)
  pub holds : SpellsBody depth (tree_own whole) (tree_inside whole) body

-- how many components of this name are directly inside
abbrev pub count_inside : List ℕ → Tree → ℕ
count_inside name whole = count_by (λ part. is_same_name (tree_name part) name) (tree_inside whole)

-- the lines spell one VCALENDAR, with components nested at most 8 deep, and one VERSION, which is `2.0`
-- (RFC 5545 3.4, 3.7.4); 8 deep is the whole and 7 inside it. The depth is this profile's choice
pub record IsObject (bounded : Bool) (whole : Tree) (lines : List (List ℕ)) : Type 0 where
  pub spelled : SpellsTree 7 whole lines
  pub calendar : is_calendar_name (tree_name whole) ≡ true
  pub version : has_version (tree_own whole) ≡ true
  pub events : (bounded && nat_lt most_events (count_inside (codes "VEVENT") whole)) ≡ false

-- ---- the cut of a stream into objects; where an object ends is this profile's choice

-- the line that ends an object, whatever its case
abbrev pub is_last : List ℕ → Bool
is_last line = bytes_eq (str_to_ascii_lowercase line) (codes "end:vcalendar")

-- the octets between LFs that follow the first object, after the line that has begun: it ends where its last line isn't continued
abbrev pub parts_after : List ℕ → List (List ℕ) → List (List ℕ)
parts_after begun [] = []
parts_after begun (part ∷ rest) =
    if is_continuation part then parts_after (begun ++ drop 1 (without_return part)) rest
    else (if is_last begun then part ∷ rest else parts_after (without_return part) rest)

-- the octets that follow, where the line that has begun goes on with the first of these parts
abbrev pub octets_after : List ℕ → List (List ℕ) → List ℕ
octets_after begun [] = []
octets_after begun (part ∷ rest) = join_with_byte 10 (parts_after (begun ++ without_return part) rest)

-- what follows the first object of a stream
abbrev pub after_object : List ℕ → List ℕ
after_object octets = octets_after [] (slice_split (λ x. x == 10) (without_mark octets))

-- there is more than empty lines; a byte order mark is more
abbrev pub is_begun : List ℕ → Bool
is_begun octets =
    bytes_eq (take 3 octets) (0xEF ∷ 0xBB ∷ 0xBF ∷ []) || list_any is_filled (unfolded (physical_lines (without_mark octets)))

-- ---- the same cut, said of the lines

-- the lines of octets that don't begin a text, each with its continuations, empty ones too: no byte order mark is taken off
abbrev pub all_lines : List ℕ → List (List ℕ)
all_lines octets = unfolded (physical_lines octets)

-- the logical lines of such octets
abbrev pub lines_behind : List ℕ → List (List ℕ)
lines_behind octets = filter is_filled (all_lines octets)

-- the object is `body` and one LF: of the lines of `body` the last ends an object, and none before it does; the rest doesn't
-- continue it. So the logical lines of all octets are those of the object, and then those of the rest
pub record EndsWithItsLine (octets rest : List ℕ) : Type 0 where
  pub body : List ℕ
  pub front : List (List ℕ)
  pub line : List ℕ
  pub are : octets ≡ body ++ 10 ∷ rest
  pub spelled : all_lines (without_mark body) ≡ front ++ line ∷ []
  pub others : list_any is_last front ≡ false
  pub last : is_last line ≡ true
  pub starts : is_continuation rest ≡ false
  pub logical : logical_lines octets ≡ logical_lines (body ++ 10 ∷ []) ++ lines_behind rest

-- all octets are the object: no line ends it, or only the last of all, which no LF follows
pub record EndsWithTheInput (octets rest : List ℕ) : Type 0 where
  pub front : List (List ℕ)
  pub line : List ℕ
  pub spelled : all_lines (without_mark octets) ≡ front ++ line ∷ []
  pub others : list_any is_last front ≡ false
  pub nothing : rest ≡ []

-- the first object of the octets ends where this rest begins
abbrev pub EndsBefore : List ℕ → List ℕ → Type 0
EndsBefore octets rest = EndsWithItsLine octets rest ⊎ EndsWithTheInput octets rest
