-- What was there before a write is there after it.
use Rattle.std.proofs.Common.{◌≡◌, ℕ, ◌+◌, ◌<◌, ◌≤◌, Result, Ok, Err, OnOk, OnErr, List, [], ◌∷◌, ◌++◌, map, codes, length, take, get_or, refl, ap, sym, ◌∙◌, arith}
use Rattle.std.specs.List.{flat_map}
use Rattle.profile.specs.text.Lines.{folded}
use Rattle.ical_tree.specs.declared.component.Component.{Component}
use Rattle.ical_tree.specs.declared.component.Component.TheFolds.{fold_out-Component}
use Rattle.ical_tree.specs.Tree.{component_name, component_lines, component_children, written_lines, written_step, written}
use Rattle.std.proofs.lemmas.List.{append_assoc, append-nil, length-take, take-append-le, take_all, take_at, take_more}
use Rattle.std.proofs.lemmas.List.Concat.{flat_map-append}

pub keeps_written : {T E : Type 0} (r : Result T E) (a y z x : List ℕ) → take (length a) y ≡ a → OnOk r (z ≡ y ++ x) → OnErr r (z ≡ y) → take (length a) z ≡ a
keeps_written (Ok t) a y z x e o k =
    let l : length a ≤ length y = omega (arith, ap length e, length-take (length a) y) in
    ap (take (length a)) o ∙ (take-append-le (length a) y x l ∙ e)
keeps_written (Err t) a y z x e o k = ap (take (length a)) k ∙ e

-- ---- what a component is written with

parts_joined : (cs : List Component) → flat_map (λ part. part) (map written_lines cs) ≡ flat_map written_lines cs
parts_joined [] = refl
parts_joined (c ∷ cs) = ap (λ z. written_lines c ++ z) (parts_joined cs)

pub written_out : (c : Component) → written_lines c ≡ (codes "BEGIN" ++ 58 ∷ component_name c) ∷ (component_lines c ++ flat_map written_lines (component_children c) ++ (codes "END" ++ 58 ∷ component_name c) ∷ [])
written_out c = fold_out-Component (List (List ℕ)) written_step c ∙ ap (λ z. (codes "BEGIN" ++ 58 ∷ component_name c) ∷ (component_lines c ++ z ++ (codes "END" ++ 58 ∷ component_name c) ∷ [])) (parts_joined (component_children c))

abbrev pub begin_of : Component → List ℕ
begin_of c = codes "BEGIN" ++ 58 ∷ component_name c

abbrev pub end_of : Component → List ℕ
end_of c = codes "END" ++ 58 ∷ component_name c

-- what comes before the components inside
abbrev pub start_of : Component → List ℕ → List ℕ
start_of c old = (old ++ folded (begin_of c)) ++ flat_map folded (component_lines c)

pub child_first : (out start : List ℕ) (cs : List Component) → out ≡ start → out ≡ start ++ flat_map folded (flat_map written_lines (take 0 cs))
child_first out start cs e = e ∙ sym (append-nil start)

pub child_more : (out new start : List ℕ) (cs : List Component) (i : ℕ) (c : Component) → i < length cs → c ≡ get_or cs i c → out ≡ start ++ flat_map folded (flat_map written_lines (take i cs)) → new ≡ out ++ written c → new ≡ start ++ flat_map folded (flat_map written_lines (take (i + 1) cs))
child_more out new start cs i c l e h w =
    let lines = flat_map written_lines (take i cs) in
    let more : take (i + 1) cs ≡ take i cs ++ c ∷ [] = take_more cs i c l ∙ ap (λ x. take i cs ++ x ∷ []) (sym e) in
    let joined : flat_map written_lines (take (i + 1) cs) ≡ lines ++ written_lines c = ap (flat_map written_lines) more ∙ (flat_map-append written_lines (take i cs) (c ∷ []) ∙ ap (λ z. lines ++ z) (append-nil (written_lines c))) in
    w ∙ (ap (λ z. z ++ written c) h ∙ (append_assoc start (flat_map folded lines) (written c) ∙ ap (λ z. start ++ z) (sym (ap (flat_map folded) joined ∙ flat_map-append folded lines (written_lines c)))))

written_parts : (c : Component) → written c ≡ folded (begin_of c) ++ (flat_map folded (component_lines c) ++ flat_map folded (flat_map written_lines (component_children c)) ++ folded (end_of c))
written_parts c =
    let inner = flat_map written_lines (component_children c) in
    ap (flat_map folded) (written_out c) ∙ ap (λ z. folded (begin_of c) ++ z) (flat_map-append folded (component_lines c ++ inner) (end_of c ∷ []) ∙ (ap (λ z. z ++ (folded (end_of c) ++ [])) (flat_map-append folded (component_lines c) inner) ∙ ap (λ z. (flat_map folded (component_lines c) ++ flat_map folded inner) ++ z) (append-nil (folded (end_of c)))))

regroup : (old b own inner e : List ℕ) → (((old ++ b) ++ own) ++ inner) ++ e ≡ old ++ (b ++ ((own ++ inner) ++ e))
regroup old b own inner e = simp append_assoc

pub all_written : {T E : Type 0} (r : Result T E) (out new old : List ℕ) (c : Component) (cs : List Component) (n : ℕ) → cs ≡ component_children c → length cs ≤ n → out ≡ start_of c old ++ flat_map folded (flat_map written_lines (take n cs)) → OnOk r (new ≡ out ++ folded (end_of c)) → OnOk r (new ≡ old ++ written c)
all_written (Err t) out new old c cs n k l h w = tt
all_written (Ok t) out new old c cs n k l h w =
    let inner = flat_map folded (flat_map written_lines (component_children c)) in
    let all : out ≡ start_of c old ++ inner = h ∙ ap (λ ds. start_of c old ++ flat_map folded (flat_map written_lines ds)) (take_all n cs l ∙ k) in
    w ∙ (ap (λ z. z ++ folded (end_of c)) all ∙ (regroup old (folded (begin_of c)) (flat_map folded (component_lines c)) inner (folded (end_of c)) ∙ ap (λ z. old ++ z) (sym (written_parts c))))

pub keeps_after : (a x y : List ℕ) → y ≡ a ++ x → take (length a) y ≡ a
keeps_after a x y e = ap (take (length a)) e ∙ take_at a x (length a) refl
