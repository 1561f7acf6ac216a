-- Where in its octets a logical line begins.
use Rattle.std.specs.Prelude.{◌≡◌, ◌<◌, ◌⊎◌, ◌+◌, ◌==◌, ◌&&◌, ℕ, Bool, true, false, List, [], ◌∷◌, ◌++◌, drop, filter, length, Contains, Option, Some, None, if◌then◌else◌}
use Rattle.std.specs.Str.{is_utf8}
use Rattle.ical_lines.specs.Breaks.{is_one_line}
use Rattle.ical_tree.specs.Tree.{component_begun, component_numbered}
use Rattle.ical_tree.specs.declared.component.Component.{Component}
use Rattle.profile.specs.text.Lines.{is_continuation, is_filled, line_name, logical_lines, physical_lines, reads_as_lines, unfolded, without_mark}
use Rattle.fault_places.specs.declared.place.Begun.{Begun}
use Rattle.fault_places.specs.declared.place.Place.{Place}
use Rattle.fault_places.specs.declared.spot.Spot.{Spot}

-- the name of a line; nothing where it is no text of one line
abbrev pub name_written : List ℕ → List ℕ
name_written content = if is_utf8 content && is_one_line content then line_name content else []

-- the property of a line, as it is written; nothing where it is no content line
abbrev pub property_written : List ℕ → List ℕ
property_written content = if reads_as_lines false content then name_written content else []

-- the logical line of this number, counted from 1, begins on this physical line, counted from 1, and has this property: the lines before it and those
-- from it on unfold apart, and it comes first of the latter and isn't empty
pub record IsPlaceOf (octets : List ℕ) (number line : ℕ) (property : List ℕ) : Type 0 where
  pub before : List (List ℕ)
  pub after : List (List ℕ)
  pub content : List ℕ
  pub others : List (List ℕ)
  pub lines : physical_lines (without_mark octets) ≡ before ++ after
  pub counted : line ≡ length before + 1
  pub apart : unfolded (before ++ after) ≡ unfolded before ++ unfolded after
  pub begins : unfolded after ≡ content ∷ others
  pub some : 0 < length content
  pub numbered : number ≡ length (filter is_filled (unfolded before)) + 1
  pub named : property ≡ property_written content

-- there is no logical line of this number
abbrev pub HasNoLine : List ℕ → ℕ → Type 0
HasNoLine octets number = (number ≡ 0) ⊎ (length (logical_lines octets) < number)

-- ---- a component and a line of it

-- the line of this text has this number in the component, or its BEGIN has it, where there is no text
abbrev pub IsLineAt : Component → Option (List ℕ) → ℕ → Type 0
IsLineAt component None at = at ≡ component_begun component
IsLineAt component (Some line) at = Contains (component_numbered component) (at, line)

-- the component begins there, and so does that line
pub record IsSpotOf (octets : List ℕ) (component : Component) (line : Option (List ℕ)) (spot : Spot) : Type 0 where
  pub property : List ℕ
  pub begins : IsPlaceOf octets (component_begun component) spot.begins property
  pub number : ℕ
  pub at : IsLineAt component line number
  pub place : IsPlaceOf octets number spot.place.line spot.place.property.items

-- ---- on the way

-- the line that has begun is the one
abbrev pub is_sought : Begun → Bool
is_sought begun = begun.sought == 1 && is_filled begun.content.items

-- this is its place
pub record IsHere (begun : Begun) (place : Place) : Type 0 where
  pub sought : is_sought begun ≡ true
  pub line : place.line ≡ begun.line
  pub property : place.property.items ≡ property_written begun.content.items

-- the next physical line continues the line that has begun
pub record Continues (old : Begun) (next : List ℕ) (new : Begun) : Type 0 where
  pub is : is_continuation next ≡ true
  pub content : new.content.items ≡ old.content.items ++ drop 1 next
  pub line : new.line ≡ old.line
  pub sought : new.sought ≡ old.sought

-- it begins another, and the one before isn't the one
pub record Begins (old : Begun) (next : List ℕ) (new : Begun) : Type 0 where
  pub is : is_continuation next ≡ false
  pub content : new.content.items ≡ next
  pub line : new.line ≡ new.count
  pub sought : old.sought ≡ length (filter is_filled (old.content.items ∷ [])) + new.sought
  pub more : 0 < new.sought
