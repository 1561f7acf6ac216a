-- Lines that spell a component spell its tree.
use Rattle.std.proofs.Common.{◌≡◌, ℕ, ◌+◌, suc, Bool, nat_lt, ◌&&◌, cond, List, [], ◌∷◌, ◌++◌, fold, map, codes, subst, sym, refl, ap, ◌∙◌}
use Rattle.std.specs.Prelude.{count_by}
use Rattle.std.proofs.lemmas.List.{map-append}
use Rattle.profile.specs.text.Lines.{is_same_name}
use Rattle.profile.specs.text.Objects.{SpellsBody, is_calendar_name, Opens, Closes, SpellsTree, IsObject, has_version, count_inside}
use Rattle.profile.specs.text.Objects.SpellsBody.{nothing as no_tree, property as tree_property, component as tree_component}
use Rattle.profile.specs.text.Trees.{Tree, tree, trees_list, tree_name, tree_own, tree_inside}
use Rattle.ical_tree.specs.declared.component.Component.{Component}
use Rattle.ical_tree.specs.declared.component.Component.TheFolds.{fold_out-Component}
use Rattle.ical_tree.specs.Tree.{component_name, component_lines, component_children, IsObjectOf, trees_of, tree_step, tree_of, SpellsParts, count_children}
use Rattle.ical_tree.specs.Tree.SpellsParts.{nothing, property, component}
use Rattle.ical_tree.specs.Reading.{SpellsOf}

abbrev Lines : Type 0
Lines = List (List ℕ)

trees_back : (ts : List Tree) → trees_list (trees_of ts) ≡ ts
trees_back [] = refl
trees_back (t ∷ ts) = ap (λ l. t ∷ l) (trees_back ts)

tree_out : (c : Component) → tree_of c ≡ tree (component_name c) (component_lines c) (trees_of (map tree_of (component_children c)))
tree_out c = fold_out-Component Tree tree_step c

pub tree_of-name : (c : Component) → tree_name (tree_of c) ≡ component_name c
tree_of-name c = ap tree_name (tree_out c)

pub tree_of-own : (c : Component) → tree_own (tree_of c) ≡ component_lines c
tree_of-own c = ap tree_own (tree_out c)

pub tree_of-inside : (c : Component) → tree_inside (tree_of c) ≡ map tree_of (component_children c)
tree_of-inside c = ap tree_inside (tree_out c) ∙ trees_back (map tree_of (component_children c))

-- bodies and components whose parts are trees
abbrev pub BodyT : ℕ → Lines → List Tree → Lines → Type 0
BodyT = SpellsBody

abbrev pub SpellsT : ℕ → Tree → Lines → Type 0
SpellsT = SpellsTree

opens_tree : (line : List ℕ) (c : Component) → Opens line (component_name c) → Opens line (tree_name (tree_of c))
opens_tree line c o = subst (Opens line) (sym (tree_of-name c)) o

closes_tree : (line : List ℕ) (c : Component) → Closes line (component_name c) → Closes line (tree_name (tree_of c))
closes_tree line c o = subst (Closes line) (sym (tree_of-name c)) o

holds_tree : (depth : ℕ) (c : Component) (body : Lines) → BodyT depth (component_lines c) (map tree_of (component_children c)) body → BodyT depth (tree_own (tree_of c)) (tree_inside (tree_of c)) body
holds_tree depth c body b =
    subst (λ (own : Lines). BodyT depth own (tree_inside (tree_of c)) body) (sym (tree_of-own c)) (subst (λ (ts : List Tree). BodyT depth (component_lines c) ts body) (sym (tree_of-inside c)) b)

pub body_tree : {depth : ℕ} {own : Lines} {parts : List Component} {body : Lines} → SpellsParts depth own parts body → BodyT depth own (map tree_of parts) body
body_tree nothing = no_tree
body_tree (property line h b) = tree_property line h (body_tree b)
body_tree (component {depth = d} {lines = own} {parts = ps} {body = body} part begin end inner v o e b rest) =
    subst (λ (ts : List Tree). BodyT (suc d) own ts (body ++ begin ∷ (inner ++ end ∷ []))) (sym (map-append tree_of ps (part ∷ [])))
    (tree_component (tree_of part) begin end inner (ap is_calendar_name (tree_of-name part) ∙ v) (opens_tree begin part o) (closes_tree end part e) (holds_tree d part inner (body_tree b)) (body_tree rest))

pub spells_tree : (depth : ℕ) (c : Component) (lines : Lines) → SpellsOf depth c lines → SpellsT depth (tree_of c) lines
spells_tree depth c lines s = record {
  begin = s.begin;
  end = s.end;
  body = s.body;
  are = s.are;
  opens = opens_tree s.begin c s.opens;
  closes = closes_tree s.end c s.closes;
  holds = holds_tree depth c s.body (body_tree s.holds);
}

counted : (kind : List ℕ) (cs : List Component) (n : ℕ) → fold (λ (a : ℕ) (t : Tree). a + cond (is_same_name (tree_name t) kind) 1 0) n (map tree_of cs) ≡ fold (λ (a : ℕ) (c : Component). a + cond (is_same_name (component_name c) kind) 1 0) n cs
counted kind [] n = refl
counted kind (c ∷ cs) n =
    counted kind cs (n + cond (is_same_name (tree_name (tree_of c)) kind) 1 0) ∙ ap (λ x. fold (λ (a : ℕ) (d : Component). a + cond (is_same_name (component_name d) kind) 1 0) (n + cond (is_same_name x kind) 1 0) cs) (tree_of-name c)

pub count_tree : (kind : List ℕ) (c : Component) → count_inside kind (tree_of c) ≡ count_children kind c
count_tree kind c =
    ap (λ (ts : List Tree). count_by (λ t. is_same_name (tree_name t) kind) ts) (tree_of-inside c) ∙ counted kind (component_children c) 0

-- an object that lines spell as a component they spell as its tree
pub object_tree : (bounded : Bool) (c : Component) (lines : Lines) → IsObjectOf bounded c lines → IsObject bounded (tree_of c) lines
object_tree bounded c lines object = record {
  spelled = spells_tree 7 c lines object.spelled;
  calendar = ap is_calendar_name (tree_of-name c) ∙ object.calendar;
  version = ap has_version (tree_of-own c) ∙ object.version;
  events = ap (λ n. bounded && nat_lt 200 n) (count_tree (codes "VEVENT") c) ∙ object.events;
}
