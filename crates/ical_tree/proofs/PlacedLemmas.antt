-- What was read from numbered lines is among them.
use Rattle.std.proofs.Common.{subst, sym, arith, ℕ, List, [], ◌∷◌, ◌++◌, Contains, inl, inr}
use Rattle.std.proofs.lemmas.List.Elements.{Contains-append_left, Contains-append_right, Contains-append_cases, Contains-push}
use Rattle.profile.specs.faults.Blame.{IsAt}
use Rattle.profile.specs.text.Objects.{Opens}
use Rattle.ical_tree.specs.declared.component.Component.{Component}
use Rattle.ical_tree.specs.Tree.{ArePlaced, component_begun, component_children, component_name, component_numbered}
use Rattle.ical_tree.specs.Tree.ArePlaced.{placed}
use Rattle.ical_tree.specs.Reading.{NumberedParts, SpellsNumbered}
use Rattle.ical_tree.specs.Reading.NumberedParts.{nothing, property, component}
use Rattle.ical_tree.proofs.NumberLemmas.{Numbers}
use Rattle.ical_tree.proofs.OneLine.{at_one}

-- ---- what the clause says

pub placed_begin : {lines : Numbers} {c : Component} → ArePlaced lines c → IsAt lines (component_begun c) (λ line. Opens line (component_name c))
placed_begin (placed c begin own inside) = begin

pub placed_own : {lines : Numbers} {c : Component} → ArePlaced lines c → (line : ℕ × List ℕ) → Contains (component_numbered c) line → Contains lines line
placed_own (placed c begin own inside) = own

pub placed_inside : {lines : Numbers} {c : Component} → ArePlaced lines c → (part : Component) → Contains (component_children c) part → ArePlaced lines part
placed_inside (placed c begin own inside) = inside

-- ---- its proof

abbrev AreAmong : Numbers → Numbers → Type 0
AreAmong lines all = (line : ℕ × List ℕ) → Contains lines line → Contains all line

abbrev PartsPlaced : Numbers → Numbers → List Component → Type 0
PartsPlaced all own parts = AreAmong own all × ((part : Component) → Contains parts part → ArePlaced all part)

-- one more at the end
one_more : {A : Type 0} (P : A → Type 0) (xs : List A) (x : A) → ((y : A) → Contains xs y → P y) → P x → (y : A) → Contains (xs ++ x ∷ []) y → P y
one_more P xs x before last y c = elim (Contains-append_cases xs (x ∷ []) y c) [
  | inl early ↦ before y early
  | inr late ↦ subst P (at_one x y late) last
]

part_placed : (all : Numbers) (c : Component) (begin : List ℕ) → Opens begin (component_name c) → Contains all (component_begun c, begin)
    → PartsPlaced all (component_numbered c) (component_children c) → ArePlaced all c
part_placed all c begin opens among inner = placed c (record { line = begin; among = among; holds = opens }) inner.0 inner.1

parts_placed : {depth : ℕ} {own body : Numbers} {parts : List Component} → NumberedParts depth own parts body → (all : Numbers) → AreAmong body all → PartsPlaced all own parts
parts_placed nothing = λ all among. (among, λ part c. absurd (omega (arith, c.1)))
parts_placed (property {lines = own} {body = body} line h b) = λ all among.
    let before = parts_placed b all (λ l c. among l (Contains-append_left body (line ∷ []) l c)) in
    (one_more (Contains all) own line before.0 (among line (Contains-push body line)), before.1)
parts_placed (component {parts = parts} {body = body} part begin end inner v o e b rest) = λ all among.
    let begun : ℕ × List ℕ = (component_begun part, begin) in
    let before = parts_placed rest all (λ l c. among l (Contains-append_left body (begun ∷ (inner ++ end ∷ [])) l c)) in
    let later : AreAmong (begun ∷ (inner ++ end ∷ [])) all = λ l c. among l (Contains-append_right body (begun ∷ (inner ++ end ∷ [])) l c) in
    let within = parts_placed b all (λ l c. later l (Contains-append_right (begun ∷ []) (inner ++ end ∷ []) l (Contains-append_left inner (end ∷ []) l c))) in
    let here = part_placed all part begin o (later begun (Contains-append_left (begun ∷ []) (inner ++ end ∷ []) begun (Contains-push [] begun))) within in
    (before.0, one_more (ArePlaced all) parts part before.1 here)

pub whole_placed : {depth : ℕ} {c : Component} {lines : Numbers} → SpellsNumbered depth c lines → ArePlaced lines c
whole_placed {depth} {c} {lines} s =
    let begun : ℕ × List ℕ = (component_begun c, s.begin) in
    let all : AreAmong (begun ∷ (s.body ++ s.end ∷ [])) lines = λ l among. subst (λ (ls : Numbers). Contains ls l) (sym s.are) among in
    let inner = parts_placed s.holds lines (λ l among. all l (Contains-append_right (begun ∷ []) (s.body ++ s.end ∷ []) l (Contains-append_left s.body (s.end ∷ []) l among))) in
    part_placed lines c s.begin s.opens (all begun (Contains-append_left (begun ∷ []) (s.body ++ s.end ∷ []) begun (Contains-push [] begun))) inner
