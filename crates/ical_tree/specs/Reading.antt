-- What the lines so far have spelled.
use Rattle.std.specs.Prelude.{◌≡◌, suc, false, ◌⊎◌, ◌&&◌, ◌||◌, ◌==◌, ℕ, ◌-◌, ◌≤◌, Bool, true, not, nat_lt, map, reverse, IsTrue, List, [], ◌∷◌, ◌++◌, Option, None, Some, is_some, length, slice_index, codes}
use Rattle.profile.specs.text.Lines.{logical_lines, text_has}
use Rattle.profile.specs.text.Objects.{Opens, Closes, is_property, is_calendar_name, may_begin, has_version, lines_have}
use Rattle.ical_lines.specs.Fault.{RefusesBy}
use Rattle.ical_lines.specs.declared.fault.Fault.{Fault}
use Rattle.ical_tree.specs.declared.component.Component.{Component}
use Rattle.ical_tree.specs.declared.read.Reader.{Reader}
use Rattle.ical_tree.specs.Runs.{run_numbered}
use Rattle.ical_tree.specs.Tree.{component_name, component_begun, component_lines, component_numbered, component_children, SpellsComponent, count_children}

abbrev pub SpellsOf : ℕ → Component → List (List ℕ) → Type 0
SpellsOf depth c lines = SpellsComponent depth c lines

abbrev pub IsCalendar : Component → Type 0
IsCalendar c = is_calendar_name (component_name c) ≡ true

-- the first octet is a letter that BEGIN or END begins with
abbrev pub may_pair : List ℕ → Bool
may_pair line =
    let first = slice_index line 0 in first == 66 || first == 98 || first == 69 || first == 101

-- `SpellsParts` with the number of each line: a component has that of its BEGIN, and its own lines have theirs
pub data NumberedParts : ℕ → List (ℕ × List ℕ) → List Component → List (ℕ × List ℕ) → Type 0 where
  nothing : {depth : ℕ} → NumberedParts depth [] [] []
  property : {depth : ℕ} {lines : List (ℕ × List ℕ)} {parts : List Component} {body : List (ℕ × List ℕ)} (line : ℕ × List ℕ)
      → is_property line.1 ≡ true → NumberedParts depth lines parts body → NumberedParts depth (lines ++ line ∷ []) parts (body ++ line ∷ [])
  component : {depth : ℕ} {lines : List (ℕ × List ℕ)} {parts : List Component} {body : List (ℕ × List ℕ)} (part : Component) (begin : List ℕ) (end : ℕ × List ℕ)
      (inner : List (ℕ × List ℕ)) → is_calendar_name (component_name part) ≡ false → Opens begin (component_name part) → Closes end.1 (component_name part)
      → NumberedParts depth (component_numbered part) (component_children part) inner → NumberedParts (suc depth) lines parts body
      → NumberedParts (suc depth) lines (parts ++ part ∷ []) (body ++ (component_begun part, begin) ∷ (inner ++ end ∷ []))

-- `SpellsComponent` with the number of each line
pub record SpellsNumbered (depth : ℕ) (whole : Component) (lines : List (ℕ × List ℕ)) : Type 0 where
  pub begin : List ℕ
  pub end : ℕ × List ℕ
  pub body : List (ℕ × List ℕ)
  pub are : lines ≡ (component_begun whole, begin) ∷ (body ++ end ∷ [])
  pub opens : Opens begin (component_name whole)
  pub closes : Closes end.1 (component_name whole)
  pub holds : NumberedParts depth (component_numbered whole) (component_children whole) body

-- a component that isn't closed yet: its name, the number of its BEGIN, and its own lines and the components inside it so far
pub record Open : Type 0 where
  pub name : List ℕ
  pub begun : ℕ
  pub own : List (ℕ × List ℕ)
  pub inside : List Component

abbrev pub open_of : Component → Open
open_of c = record { name = component_name c; begun = component_begun c; own = component_numbered c; inside = component_children c }

-- more lines of the innermost component's own
abbrev pub with_lines : List (ℕ × List ℕ) → List Open → List Open
with_lines lines [] = []
with_lines lines (c ∷ around) = record { name = c.name; begun = c.begun; own = c.own ++ lines; inside = c.inside } ∷ around

-- the open components, from the innermost on; that one has the lines of the run too
abbrev pub open_view : Reader → List Open
open_view reader = with_lines (run_numbered reader.run) (map open_of (reverse reader.open.items))

-- the names of the open components, from the innermost on
abbrev pub open_names : List Open → List (List ℕ)
open_names cs = map (λ c. c.name) cs

-- the number of the BEGIN of the innermost, 0 where none is open
abbrev pub begun_last : List Open → ℕ
begun_last [] = 0
begun_last (c ∷ _) = c.begun

-- the lines of an open component, after those of the components around it
pub record OpenLines (c : Open) (depth : ℕ) (before done : List (ℕ × List ℕ)) : Type 0 where
  pub begin : List ℕ
  pub body : List (ℕ × List ℕ)
  pub are : done ≡ before ++ (c.begun, begin) ∷ body
  pub opens : Opens begin c.name
  pub holds : NumberedParts depth c.own c.inside body

-- the open components, from the innermost on, and the closed one are what the lines so far spell
abbrev pub Built : List Open → Option Component → List (ℕ × List ℕ) → Type 0
Built [] None done = done ≡ []
Built [] (Some c) done = SpellsNumbered 7 c done × IsCalendar c
Built (c ∷ around) closed done =
    (before : List (ℕ × List ℕ)) × OpenLines c (7 - length around) before done × Built around closed before × (length around ≤ 7) × IsTrue (may_begin (open_names around) (is_some closed) c.name)

-- a VCALENDAR that the lines spell has the fault of this number: 24, or 25 where it doesn't have 24
abbrev pub calendar_has : Bool → ℕ → Component → Bool
calendar_has bounded number c =
    is_calendar_name (component_name c)
    && ((number == 24 && not (has_version (component_lines c))) || (number == 25 && (bounded && nat_lt 200 (count_children (codes "VEVENT") c) && has_version (component_lines c))))

-- there is a fault of this number in how the lines pair up, or in the object that they spell
abbrev pub TreeHas : Bool → ℕ → List (List ℕ) → Type 0
TreeHas bounded number lines =
    IsTrue (lines_have number lines) ⊎ ((c : Component) × (SpellsOf 7 c lines × IsTrue (calendar_has bounded number c)))

-- the octets have the fault of this number: in the lines, or in what they spell
abbrev pub ObjectHas : Bool → ℕ → List ℕ → Type 0
ObjectHas bounded number octets = IsTrue (text_has bounded number octets) ⊎ TreeHas bounded number (logical_lines octets)

-- out of memory, or a refusal whose fault the octets have
abbrev pub IsRefusalOf : Bool → List ℕ → Fault → Type 0
IsRefusalOf bounded octets fault = RefusesBy (λ n. ObjectHas bounded n octets) fault
