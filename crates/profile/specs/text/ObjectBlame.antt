-- At which content line an object is refused (RFC 5545 3.4, 3.6). Lines are numbered from 1.
use Rattle.std.specs.Prelude.{◌≡◌, ℕ, ◌+◌, Bool, true, false, not, ◌&&◌, List, [], ◌∷◌, ◌++◌, length, drop, filter, map, codes, if◌then◌else◌}
use Rattle.std.specs.List.{enumerate_from}
use Rattle.std.specs.Str.{bytes_eq}
use Rattle.profile.specs.faults.Blame.{IsAt, IsSecond, Numbered, texts_of_numbered}
use Rattle.profile.specs.text.Lines.{line_value, is_same_name}
use Rattle.profile.specs.text.Objects.{Opens, SpellsBody, SpellsTree, all_fit, has_version, is_begin, is_calendar_name, is_none, is_property, is_version, misplaced, most_events, now_open, opened}
use Rattle.profile.specs.text.Trees.{Tree, tree_name}

-- ---- the VCALENDAR that lines spell, with their numbers

abbrev pub is_only : List (List ℕ) → Bool
is_only (_ ∷ []) = true
is_only _ = false

-- of the lines that come where one component is open, those that pass the test
abbrev pub inside_from : (List ℕ → Bool) → List (List ℕ) → List (ℕ × List ℕ) → List (ℕ × List ℕ)
inside_from test stack [] = []
inside_from test stack (line ∷ lines) =
    (if is_only stack && test line.1 then line ∷ [] else []) ++ inside_from test (now_open stack line.1) lines

-- those directly inside VCALENDAR
abbrev pub inside : (List ℕ → Bool) → List (List ℕ) → List (ℕ × List ℕ)
inside test lines = inside_from test [] (enumerate_from 1 lines)

abbrev pub begins_event : List ℕ → Bool
begins_event line = is_begin line && is_same_name (line_value line) (codes "VEVENT")

-- the numbers of the BEGINs of its VEVENTs
abbrev pub events_begun : List (List ℕ) → List ℕ
events_begun lines = map (λ line. line.0) (inside begins_event lines)

-- its own lines; its BEGIN is the first of all
abbrev pub calendar_of : List (List ℕ) → Numbered
calendar_of lines = record { begun = 1; lines = inside is_property lines }

-- the lines pair up to one VCALENDAR
abbrev pub IsWhole : List (List ℕ) → Type 0
IsWhole lines = (whole : Tree) × SpellsTree 7 whole lines × (is_calendar_name (tree_name whole) ≡ true)

-- ---- the line of a refusal

-- a VCALENDAR whose VEVENTs begin at these lines is refused, judged as a whole
pub data CalendarBlame (bounded : Bool) (calendar : Numbered) (events : List ℕ) : ℕ → ℕ → Type 0 where
  -- 24: VERSION is missing: the BEGIN of VCALENDAR
  no_version : filter is_version (texts_of_numbered calendar.lines) ≡ [] → CalendarBlame bounded calendar events 24 calendar.begun
  -- it occurs more than once: the second
  second_version : {at : ℕ} → IsSecond is_version calendar.lines at → CalendarBlame bounded calendar events 24 at
  -- it occurs once, and isn't `2.0`: its line
  other_version : {at : ℕ}
      → IsAt calendar.lines at (λ line. (filter is_version (texts_of_numbered calendar.lines) ≡ line ∷ []) × (bytes_eq (line_value line) (codes "2.0") ≡ false))
      → CalendarBlame bounded calendar events 24 at
  -- 25: it has its VERSION, and too many VEVENTs for a message: the BEGIN of the first after the most that it may have
  too_many : {at : ℕ} (after : List ℕ) → bounded ≡ true → has_version (texts_of_numbered calendar.lines) ≡ true
      → drop most_events events ≡ at ∷ after → CalendarBlame bounded calendar events 25 at

-- lines that are to spell an object are refused with this number at this line
pub data ObjectBlame (bounded : Bool) (lines : List (List ℕ)) : ℕ → ℕ → Type 0 where
  -- 20, 22, 23: the first line that doesn't go with those before it
  misplaced_line : {n : ℕ} (before after : List (List ℕ)) (line : List ℕ) → lines ≡ before ++ line ∷ after → all_fit [] false before ≡ true
      → misplaced n (opened before) (not (is_none before)) line ≡ true → ObjectBlame bounded lines n (length before + 1)
  -- 21: the BEGIN of the innermost component that isn't ended: behind it are whole properties and components. All lines fit
  not_closed : (before body own : List (List ℕ)) (begin name : List ℕ) (depth : ℕ) (parts : List Tree) → all_fit [] false lines ≡ true
      → lines ≡ before ++ begin ∷ body → Opens begin name → SpellsBody depth own parts body → ObjectBlame bounded lines 21 (length before + 1)
  -- 23: there is no line
  nothing : lines ≡ [] → ObjectBlame bounded lines 23 0
  -- 24, 25: they pair up to a VCALENDAR, which is refused as a whole
  whole : {n at : ℕ} → IsWhole lines → CalendarBlame bounded (calendar_of lines) (events_begun lines) n at → ObjectBlame bounded lines n at
