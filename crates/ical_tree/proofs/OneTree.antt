-- Lines spell at most one tree, and none where there is a fault in how they pair up.
use Rattle.std.proofs.Common.{◌≡◌, ℕ, Bool, true, false, not, ◌&&◌, ◌||◌, eqb, cond, List, [], ◌∷◌, ◌++◌, refl, ap, sym, ◌∙◌, arith}
use Rattle.std.proofs.lemmas.Bool.{true≢false, or_from}
use Rattle.std.proofs.lemmas.List.{append_assoc, append-nil}
use Rattle.std.proofs.Math.Bool.{and-false}
use Rattle.profile.specs.text.Lines.{line_name, line_value}
use Rattle.profile.specs.text.Objects.{is_begin, is_end, is_property, Opens, Closes, IsObject, is_none, opened_from, some_misplaced, all_fit, lines_have}
use Rattle.profile.specs.text.Objects.SpellsBody.{nothing, property, component}
use Rattle.ical_tree.specs.Tree.{trees_of}
use Rattle.ical_tree.proofs.PairLemmas.{not_both, no_begin, no_end, any_misplaced, first_none, fine_first, stays_whole, stays, fine_whole, fine}
use Rattle.ical_tree.proofs.TreeOfLemmas.{BodyT, SpellsT}
use Rattle.profile.specs.text.Trees.{Tree, Trees, tree, none, more, trees_list, tree_name, tree_own, tree_inside}

abbrev Lines : Type 0
Lines = List (List ℕ)

-- ---- one pass over the lines: the open components with what they have so far, from the innermost on

record Frame : Type 0 where
  label : List ℕ
  own : Lines
  parts : List Tree

trees_there : (ts : Trees) → trees_of (trees_list ts) ≡ ts
trees_there none = refl
trees_there (more t ts) = ap (λ l. more t l) (trees_there ts)

rebuilt : (t : Tree) → tree (tree_name t) (tree_own t) (trees_of (tree_inside t)) ≡ t
rebuilt (tree name own inside) = ap (λ l. tree name own l) (trees_there inside)

abbrev frame : List ℕ → Lines → List Tree → Frame
frame n o p = record { label = n; own = o; parts = p }

abbrev added : List Frame → List ℕ → List Frame
added [] line = []
added (f ∷ fs) line = frame f.label (f.own ++ line ∷ []) f.parts ∷ fs

abbrev closed_in : Frame → List Frame → List Frame
closed_in f [] = []
closed_in f (g ∷ fs) = frame g.label g.own (g.parts ++ tree f.label f.own (trees_of f.parts) ∷ []) ∷ fs

abbrev closed : List Frame → List Frame
closed [] = []
closed (f ∷ fs) = closed_in f fs

abbrev step_by : Bool → Bool → List Frame → List ℕ → List Frame
step_by begins ends fs line = cond begins (frame (line_value line) [] [] ∷ fs) (cond ends (closed fs) (added fs line))

abbrev step : List Frame → List ℕ → List Frame
step fs line = step_by (is_begin line) (is_end line) fs line

abbrev run : List Frame → Lines → List Frame
run fs [] = fs
run fs (line ∷ lines) = run (step fs line) lines

run-append : (fs : List Frame) (a b : Lines) → run fs (a ++ b) ≡ run (run fs a) b
run-append fs [] b = refl
run-append fs (line ∷ a) b = run-append (step fs line) a b

step_property : (fs : List Frame) (line : List ℕ) → is_property line ≡ true → step fs line ≡ added fs line
step_property fs line h =
    ap (λ b. step_by b (is_end line) fs line) (no_begin (is_begin line) (is_end line) h) ∙ ap (λ e. step_by false e fs line) (no_end (is_begin line) (is_end line) h)

step_begin : (fs : List Frame) (line name : List ℕ) → Opens line name → step fs line ≡ frame name [] [] ∷ fs
step_begin fs line name o =
    ap (λ b. step_by b (is_end line) fs line) o.begins ∙ ap (λ n. frame n [] [] ∷ fs) o.names

step_end : (fs : List Frame) (line name : List ℕ) → Closes line name → step fs line ≡ closed fs
step_end fs line name c =
    ap (λ b. step_by b (is_end line) fs line) (not_both (line_name line) c.ends) ∙ ap (λ e. step_by false e fs line) c.ends

-- the pass over a body adds its lines and its components to the innermost open component
abbrev Adds : Lines → List Tree → Lines → Type 0
Adds own parts body = (n : List ℕ) (o : Lines) (p : List Tree) (fs : List Frame) → run (frame n o p ∷ fs) body ≡ frame n (o ++ own) (p ++ parts) ∷ fs

adds_nothing : Adds [] [] []
adds_nothing n o p fs = ap (λ l. frame n l p ∷ fs) (sym (append-nil o)) ∙ ap (λ l. frame n (o ++ []) l ∷ fs) (sym (append-nil p))

adds_property : (own : Lines) (parts : List Tree) (body : Lines) (line : List ℕ) → is_property line ≡ true → Adds own parts body → Adds (own ++ line ∷ []) parts (body ++ line ∷ [])
adds_property own parts body line h a n o p fs =
    run-append (frame n o p ∷ fs) body (line ∷ [])
    ∙ ap (λ s. step s line) (a n o p fs)
    ∙ step_property (frame n (o ++ own) (p ++ parts) ∷ fs) line h
    ∙ ap (λ l. frame n l (p ++ parts) ∷ fs) (append_assoc o own (line ∷ []))

-- the pass over a component adds it
adds_whole : (part : Tree) (begin end : List ℕ) (inner : Lines) → Opens begin (tree_name part) → Closes end (tree_name part) → Adds (tree_own part) (tree_inside part) inner
    → (g : Frame) (fs : List Frame) → run (g ∷ fs) (begin ∷ (inner ++ end ∷ [])) ≡ frame g.label g.own (g.parts ++ part ∷ []) ∷ fs
adds_whole part begin end inner o c a g fs =
    ap (λ s. run s (inner ++ end ∷ [])) (step_begin (g ∷ fs) begin (tree_name part) o)
    ∙ run-append (frame (tree_name part) [] [] ∷ g ∷ fs) inner (end ∷ [])
    ∙ ap (λ s. step s end) (a (tree_name part) [] [] (g ∷ fs))
    ∙ step_end (frame (tree_name part) (tree_own part) (tree_inside part) ∷ g ∷ fs) end (tree_name part) c
    ∙ ap (λ t. frame g.label g.own (g.parts ++ t ∷ []) ∷ fs) (rebuilt part)

adds_component : (own : Lines) (parts : List Tree) (body : Lines) (part : Tree) (begin end : List ℕ) (inner : Lines) → Opens begin (tree_name part) → Closes end (tree_name part) → Adds (tree_own part) (tree_inside part) inner
    → Adds own parts body → Adds own (parts ++ part ∷ []) (body ++ begin ∷ (inner ++ end ∷ []))
adds_component own parts body part begin end inner op cl i a n o p fs =
    run-append (frame n o p ∷ fs) body (begin ∷ (inner ++ end ∷ []))
    ∙ ap (λ s. run s (begin ∷ (inner ++ end ∷ []))) (a n o p fs)
    ∙ adds_whole part begin end inner op cl i (frame n (o ++ own) (p ++ parts)) fs
    ∙ ap (λ l. frame n (o ++ own) l ∷ fs) (append_assoc p parts (part ∷ []))

adds : {depth : ℕ} {own : Lines} {parts : List Tree} {body : Lines} → BodyT depth own parts body → Adds own parts body
adds nothing = adds_nothing
adds (property {lines = own} {parts = parts} {body = body} line h b) = adds_property own parts body line h (adds b)
adds (component {lines = own} {parts = parts} {body = body} part begin end inner v o e b rest) = adds_component own parts body part begin end inner o e (adds b) (adds rest)

-- the pass over the lines of a component
passed : (depth : ℕ) (t : Tree) (lines : Lines) → SpellsT depth t lines → run (frame [] [] [] ∷ []) lines ≡ frame [] [] (t ∷ []) ∷ []
passed depth t lines s =
    ap (run (frame [] [] [] ∷ [])) s.are ∙ adds_whole t s.begin s.end s.body s.opens s.closes (adds s.holds) (frame [] [] []) []

first_tree : Tree → List Tree → Tree
first_tree d [] = d
first_tree d (t ∷ ts) = t

found_tree : Tree → List Frame → Tree
found_tree d [] = d
found_tree d (f ∷ fs) = first_tree d f.parts

pub one_tree : (d e : ℕ) (lines : Lines) (a b : Tree) → SpellsT d a lines → SpellsT e b lines → a ≡ b
unfolding first_tree found_tree
one_tree d e lines a b s t = ap (found_tree a) (sym (passed d a lines s) ∙ passed e b lines t)

-- ---- there is no fault in how they pair up

nothing_wrong : (n : ℕ) (lines : Lines) → some_misplaced n [] false lines ≡ false → is_none (opened_from [] lines) ≡ true → is_none lines ≡ false → lines_have n lines ≡ false
nothing_wrong n lines m o l =
    let f = all_fit [] false lines in
    or_from (some_misplaced n [] false lines || (eqb n 21 && (f && not (is_none (opened_from [] lines))))) (eqb n 23 && is_none lines)
    (or_from (some_misplaced n [] false lines) (eqb n 21 && (f && not (is_none (opened_from [] lines)))) m (ap (λ b. eqb n 21 && (f && not b)) o ∙ (ap (λ b. eqb n 21 && b) (and-false f) ∙ and-false (eqb n 21))))
    (ap (λ b. eqb n 23 && b) l ∙ and-false (eqb n 23))

-- lines that spell an object have no fault in how they pair up
pub pairs_up : (bounded : Bool) (t : Tree) (lines : Lines) (n : ℕ) → IsObject bounded t lines → lines_have n lines ≡ true → ⊥
pairs_up bounded t lines n object h =
    let s = object.spelled in
    let all = s.begin ∷ (s.body ++ s.end ∷ []) in
    let a : any_misplaced n [] false all ≡ false = fine_whole n [] false (tree_name t) s.begin s.end s.body s.opens s.closes (stays s.holds) (fine_first n s.begin (tree_name t) s.opens object.calendar) (fine s.holds n (tree_name t) [] (omega arith)) in
    let m = first_none n [] false all a in
    let o : is_none (opened_from [] all) ≡ true = ap is_none (stays_whole (tree_name t) s.begin s.end s.body s.opens s.closes (stays s.holds) []) in
    true≢false (sym h ∙ (ap (lines_have n) s.are ∙ nothing_wrong n all m o refl))
