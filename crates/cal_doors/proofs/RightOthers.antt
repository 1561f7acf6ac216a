-- Components but for VTIMEZONEs, one by one. For `are_same_components` and `past_zones`.
use Rattle.std.proofs.Common.{◌≡◌, ◌∙◌, ap, sym, refl, suc, ◌-◌, ◌≤◌, Bool, true, false, not, cond, List, [], ◌∷◌, map, filter, codes, length, get_or, take, drop, arith}
use Rattle.std.proofs.lemmas.List.{take_all}
use Rattle.ical_tree.specs.Tree.{component_name, component_children, tree_of}
use Rattle.ical_tree.specs.declared.component.Component.{Component}
use Rattle.ical_tree.proofs.TreeOfLemmas.{tree_of-name, tree_of-inside}
use Rattle.profile.specs.text.Lines.{is_same_name}
use Rattle.profile.specs.text.Trees.{Tree, tree_name}
use Rattle.profile.specs.doors.Adapting.{without_zones}
use Rattle.cal_doors.specs.Adapted.{others_among}

abbrev pub is_zone : Component → Bool
is_zone c = is_same_name (component_name c) (codes "VTIMEZONE")

pub zone_first : (c : Component) (cs : List Component) → is_zone c ≡ true → others_among (c ∷ cs) ≡ others_among cs
zone_first c cs e = ap (λ b. map tree_of (cond (not b) (c ∷ filter (λ d. not (is_zone d)) cs) (filter (λ d. not (is_zone d)) cs))) e

pub other_first : (c : Component) (cs : List Component) → is_zone c ≡ false → others_among (c ∷ cs) ≡ tree_of c ∷ others_among cs
other_first c cs e = ap (λ b. map tree_of (cond (not b) (c ∷ filter (λ d. not (is_zone d)) cs) (filter (λ d. not (is_zone d)) cs))) e

pub same_kind : (c d : Component) → tree_of c ≡ tree_of d → is_zone c ≡ is_zone d
same_kind c d e = ap (λ n. is_same_name n (codes "VTIMEZONE")) (sym (tree_of-name c) ∙ ap tree_name e ∙ tree_of-name d)

one_other : (p q : Bool) (c : Component) (t : Tree) (cs : List Component) (ts : List Tree) → p ≡ q → t ≡ tree_of c → ts ≡ map tree_of cs
    → cond (not p) (t ∷ ts) ts ≡ map tree_of (cond (not q) (c ∷ cs) cs)
one_other p true c t cs ts e here later = ap (λ b. cond (not b) (t ∷ ts) ts) e ∙ later
one_other p false c t cs ts e here later = ap (λ b. cond (not b) (t ∷ ts) ts) e ∙ ap (λ x. x ∷ ts) here ∙ ap (λ xs. tree_of c ∷ xs) later

others_as_trees : (cs : List Component) → filter (λ part. not (is_same_name (tree_name part) (codes "VTIMEZONE"))) (map tree_of cs) ≡ others_among cs
others_as_trees [] = refl
others_as_trees (c ∷ cs) =
    one_other (is_same_name (tree_name (tree_of c)) (codes "VTIMEZONE")) (is_zone c) c (tree_of c) (filter (λ d. not (is_zone d)) cs)
    (filter (λ part. not (is_same_name (tree_name part) (codes "VTIMEZONE"))) (map tree_of cs)) (ap (λ n. is_same_name n (codes "VTIMEZONE")) (tree_of-name c)) refl (others_as_trees cs)

pub without : (c : Component) → without_zones (tree_of c) ≡ others_among (component_children c)
without c = ap (filter (λ part. not (is_same_name (tree_name part) (codes "VTIMEZONE")))) (tree_of-inside c) ∙ others_as_trees (component_children c)

-- what is left of both is the same where all is
abbrev pub SameLeft : List Component → List Component → List Component → List Component → Type 0
SameLeft before rest after left = others_among rest ≡ others_among left → others_among before ≡ others_among after

-- a VTIMEZONE before
pub zone_before : (before rest more after left : List Component) (c : Component) → rest ≡ c ∷ more → is_zone c ≡ true → SameLeft before rest after left → SameLeft before more after left
zone_before before rest more after left c is zone h e = h (ap others_among is ∙ zone_first c more zone ∙ e)

-- the same component in both
pub same_first : (before rest more after left past later : List Component) (c d : Component) → rest ≡ c ∷ more → is_zone c ≡ false → others_among past ≡ others_among left
    → past ≡ d ∷ later → tree_of c ≡ tree_of d → SameLeft before rest after left → SameLeft before more after later
same_first before rest more after left past later c d is other gone are same h e =
    h (ap others_among is ∙ other_first c more other ∙ ap (λ t. t ∷ others_among more) same ∙ ap (λ ts. tree_of d ∷ ts) e
    ∙ sym (other_first d later (sym (same_kind c d same) ∙ other)) ∙ sym (ap others_among are) ∙ gone)

pub none_left : (before rest after left past : List Component) → rest ≡ [] → others_among past ≡ others_among left → past ≡ [] → SameLeft before rest after left
    → others_among before ≡ others_among after
none_left before rest after left past is gone are h = h (ap others_among is ∙ sym (ap others_among are) ∙ gone)

-- what is behind the first
pub rest_of : (xs : List Component) (x : Component) → 1 ≤ length xs → x ≡ get_or xs 0 x → xs ≡ x ∷ take (length xs - 1) (drop 1 xs)
rest_of [] x some is = absurd (omega (arith, some))
rest_of (y ∷ ys) x some is = ap (λ z. z ∷ ys) (sym is) ∙ ap (λ zs. x ∷ zs) (sym (take_all (suc (length ys) - 1) ys (omega arith)))
