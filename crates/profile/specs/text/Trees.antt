-- Components as trees: a name, lines of one's own, and the components inside (RFC 5545 3.6).
use Rattle.std.specs.Prelude.{ℕ, List, [], ◌∷◌, map, filter, codes}
use Rattle.profile.specs.text.Lines.{is_same_name}

mutual
  -- a component
  pub data Tree : Type 0 where
    tree : List ℕ → List (List ℕ) → Trees → Tree

  -- components in a row
  pub data Trees : Type 0 where
    none : Trees
    more : Tree → Trees → Trees

abbrev pub trees_list : Trees → List Tree
trees_list none = []
trees_list (more t ts) = t ∷ trees_list ts

abbrev pub tree_name : Tree → List ℕ
tree_name (tree name own inside) = name

abbrev pub tree_own : Tree → List (List ℕ)
tree_own (tree name own inside) = own

abbrev pub tree_inside : Tree → List Tree
tree_inside (tree name own inside) = trees_list inside

-- the own lines of the VEVENTs directly inside, in order
abbrev pub vevents : Tree → List (List (List ℕ))
vevents t = map tree_own (filter (λ part. is_same_name (tree_name part) (codes "VEVENT")) (tree_inside t))
