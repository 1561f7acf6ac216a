-- The lines of the VEVENTs among components.
use Rattle.std.proofs.Common.{◌≡◌, ◌∙◌, ℕ, ◌+◌, ◌<◌, ◌≤◌, Bool, true, false, cond, List, [], ◌∷◌, ◌++◌, map, filter, take, length, get_or, codes, sym, refl, ap, subst}
use Rattle.std.proofs.lemmas.List.{map-append, take_all}
use Rattle.std.proofs.lemmas.List.{take_more}
use Rattle.std.proofs.lemmas.List.Elements.{filter-append}
use Rattle.profile.specs.text.Lines.{is_same_name}
use Rattle.profile.specs.text.Trees.{tree_name, tree_own, vevents}
use Rattle.ical_tree.specs.declared.component.Component.{Component}
use Rattle.ical_tree.specs.Tree.{component_name, component_lines, component_children, tree_of}
use Rattle.ical_tree.proofs.TreeOfLemmas.{tree_of-name, tree_of-own, tree_of-inside}

abbrev pub is_event : Component → Bool
is_event c = is_same_name (component_name c) (codes "VEVENT")

abbrev pub lines_of_events : List Component → List (List (List ℕ))
lines_of_events cs = map component_lines (filter is_event cs)

more : (cs : List Component) (c : Component) (b : Bool) → is_event c ≡ b → lines_of_events (cs ++ c ∷ []) ≡ lines_of_events cs ++ map component_lines (cond b (c ∷ []) [])
more cs c b is =
    ap (map component_lines) (filter-append is_event cs (c ∷ []) ∙ ap (λ x. filter is_event cs ++ cond x (c ∷ []) []) is)
    ∙ map-append component_lines (filter is_event cs) (cond b (c ∷ []) [])

no_more : (xs : List (List (List ℕ))) → xs ++ [] ≡ xs
no_more [] = refl
no_more (x ∷ xs) = ap (λ l. x ∷ l) (no_more xs)

pub event_more : (cs : List Component) (c : Component) → is_event c ≡ true → lines_of_events (cs ++ c ∷ []) ≡ lines_of_events cs ++ component_lines c ∷ []
event_more cs c is = more cs c true is

pub other_more : (cs : List Component) (c : Component) → is_event c ≡ false → lines_of_events (cs ++ c ∷ []) ≡ lines_of_events cs
other_more cs c is = more cs c false is ∙ no_more (lines_of_events cs)

-- they are those of the object
among : (cs : List Component) → map tree_own (filter (λ part. is_same_name (tree_name part) (codes "VEVENT")) (map tree_of cs)) ≡ lines_of_events cs
among [] = refl
among (c ∷ cs) =
    ap (λ n. map tree_own (cond (is_same_name n (codes "VEVENT")) (tree_of c ∷ filter (λ part. is_same_name (tree_name part) (codes "VEVENT")) (map tree_of cs)) (filter (λ part. is_same_name (tree_name part) (codes "VEVENT")) (map tree_of cs)))) (tree_of-name c)
    ∙ go (is_event c) (among cs)
  where
    go : (b : Bool) → map tree_own (filter (λ part. is_same_name (tree_name part) (codes "VEVENT")) (map tree_of cs)) ≡ lines_of_events cs
        → map tree_own (cond b (tree_of c ∷ filter (λ part. is_same_name (tree_name part) (codes "VEVENT")) (map tree_of cs)) (filter (λ part. is_same_name (tree_name part) (codes "VEVENT")) (map tree_of cs)))
        ≡ map component_lines (cond b (c ∷ filter is_event cs) (filter is_event cs))
    go true h = ap (λ own. own ∷ map tree_own (filter (λ part. is_same_name (tree_name part) (codes "VEVENT")) (map tree_of cs))) (tree_of-own c) ∙ ap (λ l. component_lines c ∷ l) h
    go false h = h

pub events_are : (object : Component) → vevents (tree_of object) ≡ lines_of_events (component_children object)
events_are object =
    ap (λ ts. map tree_own (filter (λ part. is_same_name (tree_name part) (codes "VEVENT")) ts)) (tree_of-inside object) ∙ among (component_children object)

-- ---- one more of a list

taken : (items cs : List Component) (i : ℕ) (c : Component) → items ≡ cs → i < length items → c ≡ get_or items i c → take (i + 1) cs ≡ take i cs ++ c ∷ []
taken items cs i c same lt at =
    subst (λ l. take (i + 1) l ≡ take i l ++ c ∷ []) same (take_more items i c lt ∙ ap (λ x. take i items ++ x ∷ []) (sym at))

pub event_there : (items cs : List Component) (i : ℕ) (c : Component) → items ≡ cs → i < length items → c ≡ get_or items i c → is_event c ≡ true
    → lines_of_events (take (i + 1) cs) ≡ lines_of_events (take i cs) ++ component_lines c ∷ []
event_there items cs i c same lt at is = ap lines_of_events (taken items cs i c same lt at) ∙ event_more (take i cs) c is

pub other_there : (items cs : List Component) (i : ℕ) (c : Component) → items ≡ cs → i < length items → c ≡ get_or items i c → is_event c ≡ false
    → lines_of_events (take (i + 1) cs) ≡ lines_of_events (take i cs)
other_there items cs i c same lt at is = ap lines_of_events (taken items cs i c same lt at) ∙ other_more (take i cs) c is

pub all_there : (items : List Component) (object : Component) (i : ℕ) → items ≡ component_children object → length items ≤ i
    → lines_of_events (take i (component_children object)) ≡ vevents (tree_of object)
all_there items object i same past =
    ap lines_of_events (subst (λ l. take i l ≡ l) same (take_all i items past)) ∙ sym (events_are object)
