-- Lines with their numbers, and without.
use Rattle.std.proofs.Common.{◌≡◌, ◌∙◌, ap, sym, refl, subst, ℕ, zero, suc, ◌+◌, List, [], ◌∷◌, ◌++◌, length, take, drop, get_or, arith}
use Rattle.std.specs.List.{enumerate_from, flat_map}
use Rattle.std.proofs.lemmas.List.{map-append}
use Rattle.profile.specs.faults.Blame.{texts_of_numbered}
use Rattle.ical_lines.specs.Text.{lines_left, numbered_left}
use Rattle.ical_lines.specs.declared.text.Lines.{Lines as LinesLeft}
use Rattle.ical_tree.specs.declared.component.Component.{Component}
use Rattle.ical_tree.specs.declared.own_lines.Run.{Run}
use Rattle.ical_tree.specs.Runs.{run_lines, run_numbered}
use Rattle.ical_tree.specs.Tree.{SpellsParts, component_runs, component_lines, component_numbered, component_children}
use Rattle.ical_tree.specs.Tree.SpellsParts.{nothing as no_parts, property as plain_property, component as plain_component}
use Rattle.ical_tree.specs.Reading.{NumberedParts, SpellsNumbered, SpellsOf}
use Rattle.ical_tree.specs.Reading.NumberedParts.{nothing, property, component}

abbrev Lines : Type 0
Lines = List (List ℕ)

abbrev pub Numbers : Type 0
Numbers = List (ℕ × List ℕ)

abbrev pub texts : Numbers → Lines
texts lines = texts_of_numbered lines

pub texts-append : (a b : Numbers) → texts (a ++ b) ≡ texts a ++ texts b
texts-append a b = map-append (λ line. line.1) a b

pub texts_enumerated : (n : ℕ) (xs : Lines) → texts (enumerate_from n xs) ≡ xs
texts_enumerated n [] = refl
texts_enumerated n (x ∷ xs) = ap (λ z. x ∷ z) (texts_enumerated (n + 1) xs)

taken : (k n : ℕ) (xs : Lines) → texts (take k (enumerate_from n xs)) ≡ take k xs
taken zero n xs = refl
taken (suc k) n [] = refl
taken (suc k) n (x ∷ xs) = ap (λ z. x ∷ z) (taken k (n + 1) xs)

runs_texts : (rs : List Run) → texts (flat_map run_numbered rs) ≡ flat_map run_lines rs
runs_texts [] = refl
runs_texts (r ∷ rs) =
    texts-append (run_numbered r) (flat_map run_numbered rs)
    ∙ (ap (λ z. z ++ texts (flat_map run_numbered rs)) (taken r.count (r.from.passed + 1) (lines_left r.from)) ∙ ap (λ z. run_lines r ++ z) (runs_texts rs))

pub component_texts : (c : Component) → texts (component_numbered c) ≡ component_lines c
component_texts c = runs_texts (component_runs c)

-- a line among numbered ones has the number of its place
pub split_numbered : (n : ℕ) (xs : Lines) (before after : Numbers) (k : ℕ) (x : List ℕ) → enumerate_from n xs ≡ before ++ (k, x) ∷ after
    → (xs ≡ texts before ++ x ∷ texts after) × (length (texts before) + n ≡ k)
split_numbered n [] [] after k x e = cc
split_numbered n [] (b ∷ before) after k x e = cc
split_numbered n (y ∷ ys) [] after k x e =
    let same : n ≡ k = ap (λ z. (get_or {A = ℕ × List ℕ} z 0 (0, [])).0) e in
    (sym (texts_enumerated n (y ∷ ys)) ∙ ap texts e, omega (arith, same))
split_numbered n (y ∷ ys) (b ∷ before) after k x e =
    let rest : enumerate_from (n + 1) ys ≡ before ++ (k, x) ∷ after = ap (drop 1) e in
    let later = split_numbered (n + 1) ys before after k x rest in
    (sym (texts_enumerated n (y ∷ ys)) ∙ (ap texts e ∙ texts-append (b ∷ before) ((k, x) ∷ after)), omega (arith, later.1))

-- the next line of a text has the next number
pub numbered_next : (old new : LinesLeft) (x : List ℕ) → lines_left old ≡ x ∷ lines_left new → new.passed ≡ old.passed + 1 → numbered_left old ≡ (new.passed, x) ∷ numbered_left new
numbered_next old new x e n = rw (n, e) refl

-- none are left
pub none_left : (left : LinesLeft) → lines_left left ≡ [] → numbered_left left ≡ []
none_left left e = ap (enumerate_from (left.passed + 1)) e

-- all are
pub all_numbered : (left : LinesLeft) (lines : Lines) → (lines_left left ≡ lines) × (left.passed ≡ 0) → numbered_left left ≡ enumerate_from 1 lines
all_numbered left lines e = rw (e.0, e.1) refl

-- ---- what is spelled with numbers is spelled without

pub plain_parts : {depth : ℕ} {own body : Numbers} {parts : List Component} → NumberedParts depth own parts body → SpellsParts depth (texts own) parts (texts body)
plain_parts nothing = no_parts
plain_parts (property {lines = own} {body = body} line h b) = rw (texts-append own (line ∷ []), texts-append body (line ∷ [])) (plain_property line.1 h (plain_parts b))
plain_parts (component {depth = d} {lines = own} {parts = ps} {body = body} part begin end inner v o e b rest) =
    let within = subst (λ (ls : Lines). SpellsParts d ls (component_children part) (texts inner)) (component_texts part) (plain_parts b) in
    rw (texts-append body (_ ∷ (inner ++ end ∷ [])), texts-append inner (end ∷ [])) (plain_component part begin end.1 (texts inner) v o e within (plain_parts rest))

pub plain_whole : {depth : ℕ} {c : Component} {lines : Numbers} → SpellsNumbered depth c lines → SpellsOf depth c (texts lines)
plain_whole {depth} {c} {lines} s = record {
  begin = s.begin;
  end = s.end.1;
  body = texts s.body;
  are = ap texts s.are ∙ ap (λ z. s.begin ∷ z) (texts-append s.body (s.end ∷ []));
  opens = s.opens;
  closes = s.closes;
  holds = subst (λ (ls : Lines). SpellsParts depth ls (component_children c) (texts s.body)) (component_texts c) (plain_parts s.holds);
}
