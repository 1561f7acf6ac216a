-- One more line, and what the open components are then.
use Rattle.std.proofs.Common.{◌≡◌, ℕ, zero, suc, ◌-◌, ◌<◌, ◌≤◌, Bool, true, false, not, ◌&&◌, Option, None, Some, is_some, List, [], ◌∷◌, ◌++◌, map, length, reverse, refl, ap, sym, subst, ◌∙◌, arith}
use Rattle.std.proofs.lemmas.List.{append_assoc, append-nil, reverse-append, length-reverse, length-map, nil_from_length}
use Rattle.std.proofs.lemmas.Bool.{not-true, false≢true}
use Rattle.profile.specs.text.Lines.{line_value, is_same_name}
use Rattle.profile.specs.text.Objects.{Opens, Closes, is_begin, is_none, is_property, is_end, is_calendar_name, may_begin}
use Rattle.ical_tree.specs.Reading.NumberedParts.{nothing, property, component}
use Rattle.ical_tree.specs.declared.component.Component.{Component}
use Rattle.ical_tree.specs.Tree.{component_name, component_begun, component_numbered, component_children}
use Rattle.ical_tree.specs.Reading.{Built, NumberedParts, Open, open_of, with_lines, open_names}

abbrev Lines : Type 0
Lines = List (ℕ × List ℕ)

-- the open components, from the innermost on, without the lines of the run
abbrev pub opens : List Component → List Open
opens items = map open_of (reverse items)

pub opens-push : (xs : List Component) (x : Component) → opens (xs ++ x ∷ []) ≡ open_of x ∷ opens xs
opens-push xs x = ap (map open_of) (reverse-append xs (x ∷ []))

opens-length : (xs : List Component) → length (opens xs) ≡ length xs
opens-length xs = length-map (reverse xs) open_of ∙ length-reverse xs

abbrev with_own : Lines → Open → Open
with_own own c = record { name = c.name; begun = c.begun; own = own; inside = c.inside }

pub with_none : (cs : List Open) (run : Lines) → run ≡ [] → with_lines run cs ≡ cs
with_none [] run e = refl
with_none (c ∷ cs) run e = ap (λ own. with_own own c ∷ cs) (ap (λ r. c.own ++ r) e ∙ append-nil c.own)

pub names-with : (cs : List Open) (run : Lines) → open_names (with_lines run cs) ≡ open_names cs
names-with [] run = refl
names-with (c ∷ cs) run = refl

-- ---- BEGIN

pub outermost : (closed : Option Component) (same : Bool) → (same && not (is_some closed)) ≡ true → (closed ≡ None) × (same ≡ true)
outermost None true h = (refl, refl)
outermost None false h = cc
outermost (Some c) true h = cc
outermost (Some c) false h = cc

begun_in : (around : List Open) (c : Component) (closed : Option Component) (done : Lines) (line : List ℕ) → Opens line (component_name c) → component_numbered c ≡ [] → component_children c ≡ [] → may_begin (open_names around) (is_some closed) (component_name c) ≡ true → length around ≤ 7 → Built around closed done → Built (open_of c ∷ around) closed (done ++ (component_begun c, line) ∷ [])
begun_in around c closed done line o l k h n b =
    let empty : NumberedParts (7 - length around) (component_numbered c) (component_children c) [] = rw (l, k) nothing in
    (done, record { begin = line; body = []; are = refl; opens = o; holds = empty }, b, n, h)

pub begun : (items : List Component) (run : Lines) (c : Component) (closed : Option Component) (done : Lines) (line : List ℕ) → run ≡ [] → Opens line (component_name c) → component_numbered c ≡ [] → component_children c ≡ [] → may_begin (open_names (with_lines run (opens items))) (is_some closed) (component_name c) ≡ true → length items ≤ 7 → Built (with_lines run (opens items)) closed done → Built (with_lines run (opens (items ++ c ∷ []))) closed (done ++ (component_begun c, line) ∷ [])
begun items run c closed done line e o l k h n b =
    let old : with_lines run (opens items) ≡ opens items = with_none (opens items) run e in
    let new : with_lines run (opens (items ++ c ∷ [])) ≡ open_of c ∷ opens items = with_none (opens (items ++ c ∷ [])) run e ∙ opens-push items c in
    let few : length (opens items) ≤ 7 = omega (arith, opens-length items) in
    rw new (begun_in (opens items) c closed done line o l k (rw old at h) few (subst (λ cs. Built cs closed done) old b))

-- ---- a property

pub added : (cs : List Open) (run more : Lines) (closed : Option Component) (done : Lines) (line : ℕ × List ℕ) → 0 < length cs → more ≡ run ++ line ∷ [] → is_property line.1 ≡ true → Built (with_lines run cs) closed done → Built (with_lines more cs) closed (done ++ line ∷ [])
added [] run more closed done line l e p b = absurd (omega arith)
added (c ∷ around) run more closed done line l e p h =
    let own : (c.own ++ run) ++ line ∷ [] ≡ c.own ++ more = append_assoc c.own run (line ∷ []) ∙ ap (λ z. c.own ++ z) (sym e) in (
      h.0,
      record {
        begin = h.1.begin;
        body = h.1.body ++ line ∷ [];
        are = ap (λ z. z ++ line ∷ []) h.1.are ∙ append_assoc h.0 ((c.begun, h.1.begin) ∷ h.1.body) (line ∷ []);
        opens = h.1.opens;
        holds = subst (λ (ls : Lines). NumberedParts (7 - length around) ls c.inside (h.1.body ++ line ∷ [])) own (property line p h.1.holds);
      },
      h.2,
      h.3,
      h.4,
    )

-- ---- END

ended_in : (around : List Open) (p q c : Component) (closed : Option Component) (done : Lines) (line : ℕ × List ℕ) → is_end line.1 ≡ true → is_same_name (component_name c) (line_value line.1) ≡ true → component_name q ≡ component_name p → component_begun q ≡ component_begun p → component_numbered q ≡ component_numbered p → component_children q ≡ component_children p ++ c ∷ [] → Built (open_of c ∷ open_of p ∷ around) closed done → Built (open_of q ∷ around) closed (done ++ line ∷ [])
ended_in around p q c closed done line e s n m l k h =
    let g = h.2 in
    let deep : 7 - length around ≡ suc (7 - length (open_of p ∷ around)) = omega (arith, h.3) in
    let outer : NumberedParts (suc (7 - length (open_of p ∷ around))) (component_numbered p) (component_children p) g.1.body = subst (λ d. NumberedParts d (component_numbered p) (component_children p) g.1.body) deep g.1.holds in
    let closes : Closes line.1 (component_name c) = record { ends = e; names = s } in
    let all : done ++ line ∷ [] ≡ g.0 ++ (component_begun p, g.1.begin) ∷ (g.1.body ++ (component_begun c, h.1.begin) ∷ (h.1.body ++ line ∷ [])) = ap (λ z. z ++ line ∷ []) (h.1.are ∙ ap (λ z. z ++ (component_begun c, h.1.begin) ∷ h.1.body) g.1.are) ∙ (append_assoc (g.0 ++ (component_begun p, g.1.begin) ∷ g.1.body) ((component_begun c, h.1.begin) ∷ h.1.body) (line ∷ []) ∙ append_assoc g.0 ((component_begun p, g.1.begin) ∷ g.1.body) ((component_begun c, h.1.begin) ∷ (h.1.body ++ line ∷ []))) in (
      g.0,
      record {
        begin = g.1.begin;
        body = g.1.body ++ (component_begun c, h.1.begin) ∷ (h.1.body ++ line ∷ []);
        are = rw m all;
        opens = rw n g.1.opens;
        holds = rw (deep, l, k) (component c h.1.begin line h.1.body (not-true (is_calendar_name (component_name c)) h.4) h.1.opens closes h.1.holds outer);
      },
      g.2,
      g.3,
      rw n g.4,
    )

pub ended_child : (items : List Component) (run : Lines) (p q c : Component) (closed : Option Component) (done : Lines) (line : ℕ × List ℕ) → run ≡ [] → is_end line.1 ≡ true → is_same_name (component_name c) (line_value line.1) ≡ true → component_name q ≡ component_name p → component_begun q ≡ component_begun p → component_numbered q ≡ component_numbered p → component_children q ≡ component_children p ++ c ∷ [] → Built (with_lines run (opens ((items ++ p ∷ []) ++ c ∷ []))) closed done → Built (with_lines run (opens (items ++ q ∷ []))) closed (done ++ line ∷ [])
ended_child items run p q c closed done line r e s n m l k b =
    let old : with_lines run (opens ((items ++ p ∷ []) ++ c ∷ [])) ≡ open_of c ∷ open_of p ∷ opens items = with_none (opens ((items ++ p ∷ []) ++ c ∷ [])) run r ∙ (opens-push (items ++ p ∷ []) c ∙ ap (λ z. open_of c ∷ z) (opens-push items p)) in
    let new : with_lines run (opens (items ++ q ∷ [])) ≡ open_of q ∷ opens items = with_none (opens (items ++ q ∷ [])) run r ∙ opens-push items q in
    rw new (ended_in (opens items) p q c closed done line e s n m l k (subst (λ cs. Built cs closed done) old b))

ended_last : (c : Component) (closed : Option Component) (done : Lines) (line : ℕ × List ℕ) → is_end line.1 ≡ true → is_same_name (component_name c) (line_value line.1) ≡ true → Built (open_of c ∷ []) closed done → Built [] (Some c) (done ++ line ∷ [])
ended_last c closed done line e s h =
    let outer = outermost closed (is_calendar_name (component_name c)) h.4 in
    let none : h.0 ≡ [] = subst (λ o. Built [] o h.0) outer.0 h.2 in (
      record {
        begin = h.1.begin;
        end = line;
        body = h.1.body;
        are = ap (λ z. z ++ line ∷ []) (h.1.are ∙ ap (λ z. z ++ (component_begun c, h.1.begin) ∷ h.1.body) none);
        opens = h.1.opens;
        closes = record { ends = e; names = s };
        holds = h.1.holds;
      },
      outer.1,
    )

pub ended_only : (old rest after : List Component) (run : Lines) (c : Component) (closed : Option Component) (done : Lines) (line : ℕ × List ℕ) → run ≡ [] → is_end line.1 ≡ true → is_same_name (component_name c) (line_value line.1) ≡ true → old ≡ rest ++ c ∷ [] → length rest ≡ 0 → length after ≡ 0 → Built (with_lines run (opens old)) closed done → Built (with_lines run (opens after)) (Some c) (done ++ line ∷ [])
ended_only old rest after run c closed done line r e s p l a b =
    let bare : old ≡ c ∷ [] = p ∙ ap (λ z. z ++ c ∷ []) (nil_from_length rest l) in
    let only : with_lines run (opens old) ≡ open_of c ∷ [] = with_none (opens old) run r ∙ ap opens bare in
    let none : after ≡ [] = nil_from_length after a in
    subst (λ xs. Built (with_lines run (opens xs)) (Some c) (done ++ line ∷ [])) (sym none) (ended_last c closed done line e s (subst (λ cs. Built cs closed done) only b))

-- ---- the names of the open components

-- ---- small facts of the reader

pub some_open : (cs : List Open) (run : Lines) → is_none (open_names (with_lines run cs)) ≡ false → 0 < length cs
some_open [] run h = cc
some_open (c ∷ cs) run h = omega arith

pub plain : (line : List ℕ) → is_begin line ≡ false → is_end line ≡ false → is_property line ≡ true
plain line b e = rw (b, e) refl

pub none_left : (n : ℕ) → (0 < n → false ≡ true) → n ≡ 0
none_left zero h = refl
none_left (suc n) h = absurd (false≢true (h (omega arith)))
