-- What the octets that a component is written with read back as.
use Rattle.std.specs.Prelude.{◌≡◌, ℕ, Bool, true, false, List}
use Rattle.profile.specs.text.Lines.{logical_lines, reads_as_lines}
use Rattle.ical_tree.specs.declared.component.Component.{Component}
use Rattle.ical_tree.specs.Tree.{IsObjectOf, written_lines, tree_of}
use Rattle.ical_tree.specs.Reading.{ObjectHas}

-- the octets read as the lines that the component is written with, and these spell it
pub record ReadsBack (c : Component) (octets : List ℕ) : Type 0 where
  -- the octets, which may be of any length, have none of the faults of lines or of an object
  pub fine : (number : ℕ) → ObjectHas false number octets → ⊥
  pub reads : reads_as_lines false octets ≡ true
  pub lines : logical_lines octets ≡ written_lines c
  pub spelled : IsObjectOf false c (logical_lines octets)
  -- whatever component the octets are read as, it is the same tree
  pub same : (bounded : Bool) (other : Component) → IsObjectOf bounded other (logical_lines octets) → tree_of other ≡ tree_of c
