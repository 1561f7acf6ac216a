-- What callers see of a component.
use Rattle.std.specs.Prelude.{◌≡◌, Contains, ℕ, suc, Bool, true, false, ◌&&◌, nat_lt, List, [], ◌∷◌, ◌++◌, count_by, filter, map, codes}
use Rattle.std.specs.List.{flat_map}
use Rattle.profile.specs.faults.Blame.{IsAt, Numbered}
use Rattle.profile.specs.series.ZoneBlame.{NumberedZone}
use Rattle.profile.specs.text.Lines.{folded, is_same_name}
use Rattle.profile.specs.text.Objects.{is_property, is_calendar_name, has_version, most_events, Opens, Closes}
use Rattle.profile.specs.text.Trees.{Tree, Trees, tree, none, more}
use Rattle.ical_tree.specs.Runs.{run_lines, run_numbered}
use Rattle.ical_tree.specs.declared.own_lines.Run.{Run}
use Rattle.ical_tree.specs.declared.component.Component.{Component, out-Component}
use Rattle.ical_tree.specs.declared.component.Component.TheOpen.{Component-F}
use Rattle.ical_tree.specs.declared.component.Component.TheFolds.{fold-Component}

-- the name, as BEGIN has it
abbrev pub component_name : Component → List ℕ
component_name c = (out-Component c).name.now

-- the number of its BEGIN among the logical lines of its octets
abbrev pub component_begun : Component → ℕ
component_begun c = (out-Component c).begun

abbrev pub component_runs : Component → List Run
component_runs c = (out-Component c).runs.items

-- the component's own lines without BEGIN and END
abbrev pub component_lines : Component → List (List ℕ)
component_lines c = flat_map run_lines (component_runs c)

-- they with their numbers among the logical lines of its octets
abbrev pub component_numbered : Component → List (ℕ × List ℕ)
component_numbered c = flat_map run_numbered (component_runs c)

abbrev pub numbered_of : Component → Numbered
numbered_of c = record { begun = component_begun c; lines = component_numbered c }

-- the components directly inside
abbrev pub component_children : Component → List Component
component_children c = (out-Component c).children.items

-- a VTIMEZONE with its parts
abbrev pub zone_of_component : Component → NumberedZone
zone_of_component c = record { whole = numbered_of c; parts = map numbered_of (component_children c) }

-- the components directly inside of this name
abbrev pub children_named : List ℕ → Component → List Component
children_named name c = filter (λ part. is_same_name (component_name part) name) (component_children c)

-- the VTIMEZONEs of an object, and its VEVENTs
abbrev pub zones_in : Component → List NumberedZone
zones_in object = map zone_of_component (children_named (codes "VTIMEZONE") object)

abbrev pub events_in : Component → List Numbered
events_in object = map numbered_of (children_named (codes "VEVENT") object)

-- the numbers of the BEGINs of its VEVENTs
abbrev pub events_begun_in : Component → List ℕ
events_begun_in object = map component_begun (children_named (codes "VEVENT") object)

-- the component was read from these lines with their numbers: its BEGIN, its own lines, and each component inside it
pub data ArePlaced (lines : List (ℕ × List ℕ)) : Component → Type 0 where
  placed : (c : Component) → IsAt lines (component_begun c) (λ line. Opens line (component_name c))
      → ((line : ℕ × List ℕ) → Contains (component_numbered c) line → Contains lines line)
      → ((part : Component) → Contains (component_children c) part → ArePlaced lines part) → ArePlaced lines c

-- ---- what lines spell, said of components as the code has them: what they spell so they spell as trees

-- `body` spells these properties and components, each in their order, components at most `depth` deep and none a VCALENDAR
pub data SpellsParts : ℕ → List (List ℕ) → List Component → List (List ℕ) → Type 0 where
  nothing : {depth : ℕ} → SpellsParts depth [] [] []
  property : {depth : ℕ} {lines : List (List ℕ)} {parts : List Component} {body : List (List ℕ)} (line : List ℕ)
      → is_property line ≡ true → SpellsParts depth lines parts body → SpellsParts depth (lines ++ line ∷ []) parts (body ++ line ∷ [])
  component : {depth : ℕ} {lines : List (List ℕ)} {parts : List Component} {body : List (List ℕ)} (part : Component) (begin end : List ℕ) (inner : List (List ℕ))
      → is_calendar_name (component_name part) ≡ false → Opens begin (component_name part) → Closes end (component_name part)
      → SpellsParts depth (component_lines part) (component_children part) inner → SpellsParts (suc depth) lines parts body
      → SpellsParts (suc depth) lines (parts ++ part ∷ []) (body ++ begin ∷ (inner ++ end ∷ []))

-- the lines spell the component: its BEGIN, its body, its END
pub record SpellsComponent (depth : ℕ) (whole : Component) (lines : List (List ℕ)) : Type 0 where
  pub begin : List ℕ
  pub end : List ℕ
  pub body : List (List ℕ)
  pub are : lines ≡ begin ∷ (body ++ end ∷ [])
  pub opens : Opens begin (component_name whole)
  pub closes : Closes end (component_name whole)
  pub holds : SpellsParts depth (component_lines whole) (component_children whole) body

-- how many components of this name are directly inside
abbrev pub count_children : List ℕ → Component → ℕ
count_children name whole = count_by (λ part. is_same_name (component_name part) name) (component_children whole)

-- the lines spell this component as one object
pub record IsObjectOf (bounded : Bool) (whole : Component) (lines : List (List ℕ)) : Type 0 where
  pub spelled : SpellsComponent 7 whole lines
  pub calendar : is_calendar_name (component_name whole) ≡ true
  pub version : has_version (component_lines whole) ≡ true
  pub events : (bounded && nat_lt most_events (count_children (codes "VEVENT") whole)) ≡ false

-- the lines that one level is written with, given those of each component inside
abbrev pub written_step : Component-F (List (List ℕ)) → List (List ℕ)
written_step c =
    (codes "BEGIN" ++ 58 ∷ c.name.now) ∷ (flat_map run_lines c.runs.items ++ flat_map (λ part. part) c.children.items ++ (codes "END" ++ 58 ∷ c.name.now) ∷ [])

-- the lines that a component is written with: its BEGIN, its own lines, the components inside, its END
abbrev pub written_lines : Component → List (List ℕ)
written_lines = fold-Component (List (List ℕ)) written_step

-- the octets that a component is written with
abbrev pub written : Component → List ℕ
written c = flat_map folded (written_lines c)

-- ---- a component as a tree: its name, its own lines, and the components inside, each as a tree

abbrev pub trees_of : List Tree → Trees
trees_of [] = none
trees_of (t ∷ ts) = more t (trees_of ts)

-- one level as a tree, given those of the components inside
abbrev pub tree_step : Component-F Tree → Tree
tree_step c = tree c.name.now (flat_map run_lines c.runs.items) (trees_of c.children.items)

abbrev pub tree_of : Component → Tree
tree_of = fold-Component Tree tree_step
