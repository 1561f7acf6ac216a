-- What a component is written with reads back as the same tree.
use Rattle.std.proofs.Common.{◌≡◌, ℕ, ◌+◌, suc, zero, Bool, true, false, not, ◌||◌, ltb, eqb, List, [], ◌∷◌, ◌++◌, length, drop, codes, subst, sym, refl, ap, ◌∙◌, inl, inr, arith, ◌<◌, ◌≤◌, ◌&&◌, cond, get_or}
use Rattle.std.specs.List.{flat_map, list_all, list_any}
use Rattle.std.specs.Str.{IsUtf8, is_utf8, str_to_ascii_lowercase}
use Rattle.std.proofs.Math.Bool.{and-false}
use Rattle.std.proofs.lemmas.Bool.{eqb-true, ltb-true, ltb-false, true≢false, or_parts, and_parts, not-true}
use Rattle.std.proofs.lemmas.Bool.Decides.{nat_tests}
use Rattle.std.proofs.lemmas.Slice.Eq.{bytes_eq-Decides}
use Rattle.std.proofs.lemmas.List.{append_assoc, append-nil, drop_all}
use Rattle.std.proofs.lemmas.List.Concat.{flat_map-append}
use Rattle.std.proofs.lemmas.List.Folds.{list_all-append}
use Rattle.std.proofs.lemmas.Str.{IsUtf8-from_ascii, is_utf8-from_IsUtf8, IsUtf8-from_is_utf8, IsUtf8-drop, IsUtf8-nil, IsCharBoundary-after_ascii}
use Rattle.std.proofs.lemmas.Str.Ascii.{IsAscii-cons, IsAscii-nil}
use Rattle.profile.specs.text.Lines.{outside_from, outside, line_value, is_same_name, is_control, has_control, lacks_colon, has_bad_name, has_bad_quote, is_faulty, is_content, logical_lines, reads_as_lines}
use Rattle.profile.specs.text.Objects.{is_property, Opens, Closes, has_version}
use Rattle.ical_tree.specs.Tree.SpellsParts.{nothing, property, component}
use Rattle.profile.specs.text.Trees.{tree_own}
use Rattle.ical_lines.proofs.ContentLemmas.{lines_back, lines_fine, read_content, read_fine}
use Rattle.ical_lines.proofs.ReadBackLemmas.{property_utf8}
use Rattle.ical_tree.specs.declared.component.Component.{Component}
use Rattle.ical_tree.specs.Tree.{component_name, component_lines, component_children, IsObjectOf, written_lines, written, tree_of, SpellsParts}
use Rattle.ical_tree.specs.Reading.{SpellsOf, ObjectHas, calendar_has}
use Rattle.ical_tree.specs.ReadsBack.{ReadsBack}
use Rattle.ical_tree.proofs.OneTree.{one_tree, pairs_up}
use Rattle.ical_tree.proofs.TreeOfLemmas.{tree_of-own, spells_tree, object_tree}
use Rattle.ical_tree.proofs.WriteLemmas.{begin_of, end_of, written_out}

abbrev Lines : Type 0
Lines = List (List ℕ)

abbrev BodyC : ℕ → Lines → List Component → Lines → Type 0
BodyC = SpellsParts

-- the lines of components that are written one after another
abbrev all_written : List Component → Lines
all_written cs = flat_map written_lines cs

-- ---- a list and its parts

module _ {T : Type 0} (p : T → Bool) where
  all_parts : (xs ys : List T) → list_all p (xs ++ ys) ≡ true → (list_all p xs ≡ true) × (list_all p ys ≡ true)
  all_parts xs ys h = and_parts (list_all p xs) (list_all p ys) (sym (list_all-append p xs ys) ∙ h)

  all_both : (xs ys : List T) → list_all p xs ≡ true → list_all p ys ≡ true → list_all p (xs ++ ys) ≡ true
  all_both xs ys h k = rw (list_all-append p xs ys, h) k

  all_more : (x : T) (xs : List T) → p x ≡ true → list_all p xs ≡ true → list_all p (x ∷ xs) ≡ true
  all_more x xs h k = rw h k

-- ---- BEGIN and END as they are written are content lines

no_control_after : (n : ℕ) (line : List ℕ) → list_any is_control line ≡ false → list_any is_control (drop n line) ≡ false
no_control_after zero line h = h
no_control_after (suc n) [] h = refl
no_control_after (suc n) (c ∷ cs) h = no_control_after n cs (or_parts (is_control c) (list_any is_control cs) h).1

value_clean : (line : List ℕ) → is_content line ≡ true → has_control (line_value line) ≡ false
value_clean line h =
    let fine = not-true (is_faulty line) (and_parts (not (is_faulty line)) (is_utf8 line) h).0 in
    no_control_after (outside 58 line + 1) line (or_parts (lacks_colon line || has_bad_name line || has_bad_quote line) (has_control line) fine).1

begin_content : (name : List ℕ) → has_control name ≡ false → IsUtf8 name → is_content (codes "BEGIN" ++ 58 ∷ name) ≡ true
begin_content name h u =
    let colon : ltb 5 (length (codes "BEGIN" ++ 58 ∷ name)) ≡ true = grind (arith, nat_tests) in
    let utf8 : is_utf8 (codes "BEGIN" ++ 58 ∷ name) ≡ true = is_utf8-from_IsUtf8 (codes "BEGIN" ++ 58 ∷ name) (property_utf8 (codes "BEGIN") name (IsUtf8-from_ascii (codes "BEGIN") (IsAscii-cons 66 (codes "EGIN") (omega arith) (IsAscii-cons 69 (codes "GIN") (omega arith) (IsAscii-cons 71 (codes "IN") (omega arith) (IsAscii-cons 73 (codes "N") (omega arith) (IsAscii-cons 78 [] (omega arith) IsAscii-nil)))))) u) in
    rw (colon, h, utf8) refl

end_content : (name : List ℕ) → has_control name ≡ false → IsUtf8 name → is_content (codes "END" ++ 58 ∷ name) ≡ true
end_content name h u =
    let colon : ltb 3 (length (codes "END" ++ 58 ∷ name)) ≡ true = grind (arith, nat_tests) in
    let utf8 : is_utf8 (codes "END" ++ 58 ∷ name) ≡ true = is_utf8-from_IsUtf8 (codes "END" ++ 58 ∷ name) (property_utf8 (codes "END") name (IsUtf8-from_ascii (codes "END") (IsAscii-cons 69 (codes "ND") (omega arith) (IsAscii-cons 78 (codes "D") (omega arith) (IsAscii-cons 68 [] (omega arith) IsAscii-nil)))) u) in
    rw (colon, h, utf8) refl

at_by : (stop c : ℕ) (cs : List ℕ) (m n : ℕ) (b d : Bool) → (d ≡ true → c ≡ stop) → (m < length cs → get_or cs m 0 ≡ stop) → (n < length cs → get_or cs n 0 ≡ stop) → cond b (1 + m) (cond d 0 (1 + n)) < length (c ∷ cs) → get_or (c ∷ cs) (cond b (1 + m) (cond d 0 (1 + n))) 0 ≡ stop
at_by stop c cs m n true d h f g l = let e : 1 + m ≡ suc m = omega arith in rw e (f (omega arith))
at_by stop c cs m n false true h f g l = h refl
at_by stop c cs m n false false h f g l = let e : 1 + n ≡ suc n = omega arith in rw e (g (omega arith))

outside_at : (stop : ℕ) (q : Bool) (text : List ℕ) → outside_from stop q text < length text → get_or text (outside_from stop q text) 0 ≡ stop
outside_at stop q [] l = absurd (omega arith)
outside_at stop q (c ∷ cs) l =
    at_by stop c cs (outside_from stop (not q) cs) (outside_from stop q cs) (eqb c 34) (eqb c stop && not q) (λ h. eqb-true c stop (and_parts (eqb c stop) (not q) h).0) (outside_at stop (not q) cs) (outside_at stop q cs) l

value_from : (text : List ℕ) (b : Bool) → ltb (outside 58 text) (length text) ≡ b → IsUtf8 text → IsUtf8 (line_value text)
value_from text true e u =
    let l = ltb-true (outside 58 text) (length text) e in
    let a : get_or text (outside 58 text) 0 < 128 = omega (arith, outside_at 58 false text l) in
    IsUtf8-drop text (outside 58 text + 1) u (IsCharBoundary-after_ascii text (outside 58 text) u l a)
value_from text false e u =
    let l : length text ≤ outside 58 text + 1 = omega (arith, ltb-false (outside 58 text) (length text) e) in
    rw (drop_all (outside 58 text + 1) text l) IsUtf8-nil

back_utf8 : (text : List ℕ) → IsUtf8 text → IsUtf8 (line_value text)
back_utf8 text u = value_from text (ltb (outside 58 text) (length text)) refl u

-- the value of a content line is a text
value_utf8 : (line : List ℕ) → is_content line ≡ true → IsUtf8 (line_value line)
value_utf8 line h =
    let fine = not-true (is_faulty line) (and_parts (not (is_faulty line)) (is_utf8 line) h).0 in
    back_utf8 line (IsUtf8-from_is_utf8 line (and_parts (not (is_faulty line)) (is_utf8 line) h).1)

name_clean : (c : Component) (begin : List ℕ) → is_content begin ≡ true → Opens begin (component_name c) → has_control (component_name c) ≡ false
name_clean c begin h o = ap has_control (sym o.names) ∙ value_clean begin h

whole_content : (c : Component) (begin : List ℕ) → is_content begin ≡ true → Opens begin (component_name c) → list_all is_content (component_lines c) ≡ true → list_all is_content (all_written (component_children c)) ≡ true → list_all is_content (written_lines c) ≡ true
whole_content c begin h o own inside =
    let clean = name_clean c begin h o in
    let utf8 : IsUtf8 (component_name c) = subst IsUtf8 o.names (value_utf8 begin h) in
    let middle = component_lines c ++ all_written (component_children c) in
    ap (list_all is_content) (written_out c) ∙ all_more is_content (begin_of c) (middle ++ end_of c ∷ []) (begin_content (component_name c) clean utf8) (all_both is_content middle (end_of c ∷ []) (all_both is_content (component_lines c) (all_written (component_children c)) own inside) (all_more is_content (end_of c) [] (end_content (component_name c) clean utf8) refl))

-- ---- the lines that a body is written with are content lines, where its lines are

pushed : (cs : List Component) (c : Component) → all_written (cs ++ c ∷ []) ≡ all_written cs ++ written_lines c
pushed cs c = flat_map-append written_lines cs (c ∷ []) ∙ ap (λ z. all_written cs ++ z) (append-nil (written_lines c))

body_content : {depth : ℕ} {own : Lines} {parts : List Component} {body : Lines} → BodyC depth own parts body → list_all is_content body ≡ true → (list_all is_content own ≡ true) × (list_all is_content (all_written parts) ≡ true)
body_content nothing h = (refl, refl)
body_content (property {lines = own} {body = body} line p b) h =
    let parts = all_parts is_content body (line ∷ []) h in
    let rest = body_content b parts.0 in
    (all_both is_content own (line ∷ []) rest.0 parts.1, rest.1)
body_content (component {lines = own} {parts = ps} {body = body} part begin end inner v o e b rest) h =
    let outer = all_parts is_content body (begin ∷ (inner ++ end ∷ [])) h in
    let first = and_parts (is_content begin) (list_all is_content (inner ++ end ∷ [])) outer.1 in
    let inside = body_content b (all_parts is_content inner (end ∷ []) first.1).0 in
    let before = body_content rest outer.0 in
    (before.0, ap (list_all is_content) (pushed ps part) ∙ all_both is_content (all_written ps) (written_lines part) before.1 (whole_content part begin first.0 o inside.0 inside.1))

written_content : (depth : ℕ) (c : Component) (lines : Lines) → SpellsOf depth c lines → list_all is_content lines ≡ true → list_all is_content (written_lines c) ≡ true
written_content depth c lines s h =
    let all = and_parts (is_content s.begin) (list_all is_content (s.body ++ s.end ∷ [])) (ap (list_all is_content) (sym s.are) ∙ h) in
    let inside = body_content s.holds (all_parts is_content s.body (s.end ∷ []) all.1).0 in
    whole_content c s.begin all.0 s.opens inside.0 inside.1

-- ---- they spell the component

opens_begin : (c : Component) → Opens (begin_of c) (component_name c)
opens_begin c = record { begins = refl; names = refl }

same_name : (name : List ℕ) → is_same_name name name ≡ true
same_name name = (bytes_eq-Decides (str_to_ascii_lowercase name) (str_to_ascii_lowercase name)).1 refl

closes_end : (c : Component) → Closes (end_of c) (component_name c)
closes_end c = record { ends = refl; names = same_name (component_name c) }

own_properties : {depth : ℕ} {own : Lines} {parts : List Component} {body : Lines} → BodyC depth own parts body → list_all is_property own ≡ true
own_properties nothing = refl
own_properties (property {lines = own} line p b) = all_both is_property own (line ∷ []) (own_properties b) (all_more is_property line [] p refl)
own_properties (component part begin end inner v o e b rest) = own_properties rest

own_from : (depth : ℕ) (done rest : Lines) → BodyC depth done [] done → list_all is_property rest ≡ true → BodyC depth (done ++ rest) [] (done ++ rest)
own_from depth done [] b h = subst (λ (ls : Lines). BodyC depth ls [] ls) (sym (append-nil done)) b
own_from depth done (x ∷ xs) b h =
    let parts = and_parts (is_property x) (list_all is_property xs) h in
    subst (λ (ls : Lines). BodyC depth ls [] ls) (append_assoc done (x ∷ []) xs) (own_from depth (done ++ x ∷ []) xs (property x parts.0 b) parts.1)

-- properties first, and then the components, each as it is written
in_order : {depth : ℕ} {own : Lines} {parts : List Component} {body : Lines} → BodyC depth own parts body → (lines : Lines) → list_all is_property lines ≡ true → BodyC depth lines parts (lines ++ all_written parts)
in_order {depth = depth} nothing lines h = subst (λ (ls : Lines). BodyC depth lines [] ls) (sym (append-nil lines)) (own_from depth [] lines nothing h)
in_order (property line p b) lines h = in_order b lines h
in_order (component {depth = d} {parts = ps} part begin end inner v o e b rest) lines h =
    let inside = component_lines part ++ all_written (component_children part) in
    let order : (lines ++ all_written ps) ++ begin_of part ∷ (inside ++ end_of part ∷ []) ≡ lines ++ all_written (ps ++ part ∷ []) = append_assoc lines (all_written ps) (begin_of part ∷ (inside ++ end_of part ∷ [])) ∙ ap (λ z. lines ++ z) (ap (λ z. all_written ps ++ z) (sym (written_out part)) ∙ sym (pushed ps part)) in
    subst (λ (ls : Lines). BodyC (suc d) lines (ps ++ part ∷ []) ls) order (component part (begin_of part) (end_of part) inside v (opens_begin part) (closes_end part) (in_order b (component_lines part) (own_properties b)) (in_order rest lines h))

written_spells : (depth : ℕ) (c : Component) (lines : Lines) → SpellsOf depth c lines → SpellsOf depth c (written_lines c)
written_spells depth c lines s = record {
  begin = begin_of c;
  end = end_of c;
  body = component_lines c ++ all_written (component_children c);
  are = written_out c;
  opens = opens_begin c;
  closes = closes_end c;
  holds = in_order s.holds (component_lines c) (own_properties s.holds);
}

-- ---- what is read from them

same_tree : (bounded : Bool) (c other : Component) (lines : Lines) → SpellsOf 7 c lines → IsObjectOf bounded other lines → tree_of other ≡ tree_of c
same_tree bounded c other lines s object =
    one_tree 7 7 lines (tree_of other) (tree_of c) (spells_tree 7 other lines object.spelled) (spells_tree 7 c lines s)

version_stays : (c other : Component) → tree_of other ≡ tree_of c → component_lines other ≡ component_lines c
version_stays c other e = sym (tree_of-own other) ∙ (ap tree_own e ∙ tree_of-own c)

no_calendar_fault : (number : ℕ) (c : Component) → has_version (component_lines c) ≡ true → calendar_has false number c ≡ false
no_calendar_fault number c h = rw (h, and-false (eqb number 24), and-false (eqb number 25), and-false (is_same_name (component_name c) (codes "VCALENDAR"))) refl

no_fault : (c : Component) (octets : List ℕ) → reads_as_lines false octets ≡ true → IsObjectOf false c (logical_lines octets) → (number : ℕ) → ObjectHas false number octets → ⊥
no_fault c octets reads object number (inl h) = true≢false (sym h ∙ read_fine false octets number reads)
no_fault c octets reads object number (inr (inl h)) = pairs_up false (tree_of c) (logical_lines octets) number (object_tree false c (logical_lines octets) object) h
no_fault c octets reads object number (inr (inr (other, (s, h)))) =
    let e : tree_of other ≡ tree_of c = one_tree 7 7 (logical_lines octets) (tree_of other) (tree_of c) (spells_tree 7 other (logical_lines octets) s) (spells_tree 7 c (logical_lines octets) object.spelled) in
    true≢false (sym h ∙ no_calendar_fault number other (ap has_version (version_stays c other e) ∙ object.version))

pub reads_back : (bounded : Bool) (c : Component) (octets : List ℕ) → reads_as_lines bounded octets ≡ true → IsObjectOf bounded c (logical_lines octets) → ReadsBack c (written c)
reads_back bounded c octets reads object =
    let content = written_content 7 c (logical_lines octets) object.spelled (read_content bounded octets reads) in
    let lines = lines_back (written_lines c) content in
    let fine = lines_fine (written_lines c) content in
    let spells : SpellsOf 7 c (logical_lines (written c)) = subst (λ (ls : Lines). SpellsOf 7 c ls) (sym lines) (written_spells 7 c (logical_lines octets) object.spelled) in
    let whole : IsObjectOf false c (logical_lines (written c)) = record { spelled = spells; calendar = object.calendar; version = object.version; events = refl } in
    record {
      fine = no_fault c (written c) fine whole;
      reads = fine;
      lines = lines;
      spelled = whole;
      same = λ b other o. same_tree b c other (logical_lines (written c)) spells o;
    }
