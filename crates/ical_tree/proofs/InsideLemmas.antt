-- The lines directly inside a VCALENDAR are its own lines and the BEGINs of its components.
use Rattle.std.proofs.Common.{◌≡◌, ◌∙◌, ap, sym, refl, subst, ℕ, Bool, true, false, not, ◌&&◌, cond, List, [], ◌∷◌, ◌++◌, map, filter, codes, get_or}
use Rattle.std.specs.List.{enumerate_from}
use Rattle.std.proofs.lemmas.List.{append_assoc, append-nil, map-append}
use Rattle.std.proofs.lemmas.List.Elements.{filter-append}
use Rattle.profile.specs.text.Lines.{line_name, line_value, is_same_name}
use Rattle.profile.specs.text.ObjectBlame.{CalendarBlame, ObjectBlame, is_only, inside_from, inside, begins_event, events_begun}
use Rattle.profile.specs.text.ObjectBlame.ObjectBlame.{whole}
use Rattle.profile.specs.text.Objects.{Opens, is_begin, is_calendar_name, is_end, is_property, now_open, opened_from}
use Rattle.ical_tree.specs.declared.component.Component.{Component}
use Rattle.ical_tree.specs.Tree.{component_begun, component_name, component_numbered, events_begun_in, numbered_of, tree_of}
use Rattle.ical_tree.specs.Reading.{IsCalendar, NumberedParts, SpellsNumbered, SpellsOf}
use Rattle.ical_tree.specs.Reading.NumberedParts.{nothing, property, component}
use Rattle.ical_tree.proofs.NumberLemmas.{Numbers, texts, texts_enumerated, plain_parts, plain_whole}
use Rattle.ical_tree.proofs.PairLemmas.{no_begin, not_both, now_begin, stays}
use Rattle.ical_tree.proofs.TreeOfLemmas.{body_tree, spells_tree, tree_of-name}

abbrev Test : Type 0
Test = List ℕ → Bool

abbrev Stack : Type 0
Stack = List (List ℕ)

-- one line, where these are open
abbrev one_inside : Test → Stack → ℕ × List ℕ → Numbers
one_inside test stack line = cond (is_only stack && test line.1) (line ∷ []) []

inside-append : (test : Test) (stack : Stack) (a b : Numbers) → inside_from test stack (a ++ b) ≡ inside_from test stack a ++ inside_from test (opened_from stack (texts a)) b
inside-append test stack [] b = refl
inside-append test stack (line ∷ a) b =
    ap (λ z. one_inside test stack line ++ z) (inside-append test (now_open stack line.1) a b)
    ∙ sym (append_assoc (one_inside test stack line) (inside_from test (now_open stack line.1) a) _)

-- after a body the same components are open
body_then : {depth : ℕ} {own body : Numbers} {parts : List Component} → NumberedParts depth own parts body → (test : Test) (stack : Stack) (b : Numbers)
    → inside_from test stack (body ++ b) ≡ inside_from test stack body ++ inside_from test stack b
body_then {body = body} held test stack b =
    inside-append test stack body b ∙ ap (λ s. inside_from test stack body ++ inside_from test s b) (stays (body_tree (plain_parts held)) stack)

-- where two are open, no line is directly inside the first
abbrev IsDeeper : Numbers → Type 0
IsDeeper body = (test : Test) (x y : List ℕ) (stack : Stack) → inside_from test (x ∷ y ∷ stack) body ≡ []

part_inside : {depth : ℕ} {own inner : Numbers} {parts : List Component} → NumberedParts depth own parts inner → IsDeeper inner
    → (test : Test) (x : List ℕ) (stack : Stack) (begin end : ℕ × List ℕ) (name : List ℕ) → Opens begin.1 name
    → inside_from test (x ∷ stack) (begin ∷ (inner ++ end ∷ [])) ≡ one_inside test (x ∷ stack) begin
part_inside {inner = inner} held deep test x stack begin end name o =
    ap (λ s. one_inside test (x ∷ stack) begin ++ inside_from test s (inner ++ end ∷ [])) (now_begin (x ∷ stack) begin.1 name o)
    ∙ (ap (λ z. one_inside test (x ∷ stack) begin ++ z) (body_then held test (name ∷ x ∷ stack) (end ∷ []) ∙ ap (λ z. z ++ []) (deep test name x stack))
    ∙ append-nil (one_inside test (x ∷ stack) begin))

deeper : {depth : ℕ} {own body : Numbers} {parts : List Component} → NumberedParts depth own parts body → IsDeeper body
deeper nothing = λ test x y stack. refl
deeper (property line h b) = λ test x y stack.
    body_then b test (x ∷ y ∷ stack) (line ∷ []) ∙ ap (λ z. z ++ []) (deeper b test x y stack)
deeper (component {body = body} part begin end inner v o e b rest) = λ test x y stack.
    body_then rest test (x ∷ y ∷ stack) (_ ∷ (inner ++ end ∷ []))
    ∙ (ap (λ z. inside_from test (x ∷ y ∷ stack) body ++ z) (part_inside b (deeper b) test x (y ∷ stack) (component_begun part, begin) end (component_name part) o)
    ∙ ap (λ z. z ++ []) (deeper rest test x y stack))

-- ---- its own lines

no_property : (line name : List ℕ) → Opens line name → is_property line ≡ false
no_property line name o = ap (λ b. not b && not (is_end line)) o.begins

own_inside : {depth : ℕ} {own body : Numbers} {parts : List Component} → NumberedParts depth own parts body → (x : List ℕ) → inside_from is_property (x ∷ []) body ≡ own
own_inside nothing = λ x. refl
own_inside (property {lines = own} {body = body} line h b) = λ x.
    body_then b is_property (x ∷ []) (line ∷ [])
    ∙ (ap (λ z. z ++ inside_from is_property (x ∷ []) (line ∷ [])) (own_inside b x) ∙ ap (λ t. own ++ (cond t (line ∷ []) [] ++ [])) h)
own_inside (component {lines = own} {body = body} part begin end inner v o e b rest) = λ x.
    body_then rest is_property (x ∷ []) (_ ∷ (inner ++ end ∷ []))
    ∙ (ap (λ z. z ++ inside_from is_property (x ∷ []) ((component_begun part, begin) ∷ (inner ++ end ∷ []))) (own_inside rest x)
    ∙ (ap (λ z. own ++ z) (part_inside b (deeper b) is_property x [] (component_begun part, begin) end (component_name part) o
    ∙ ap (λ t. cond t ((component_begun part, begin) ∷ []) []) (no_property begin (component_name part) o))
    ∙ append-nil own))

-- ---- the BEGINs of its VEVENTs

abbrev events_of : List Component → List ℕ
events_of parts = map component_begun (filter (λ part. is_same_name (component_name part) (codes "VEVENT")) parts)

abbrev numbers : Numbers → List ℕ
numbers lines = map (λ line. line.0) lines

one_event : (part : Component) (begin : List ℕ) → Opens begin (component_name part) → numbers (cond (begins_event begin) ((component_begun part, begin) ∷ []) []) ≡ events_of (part ∷ [])
one_event part begin o =
    ap (λ b. numbers (cond (b && is_same_name (line_value begin) (codes "VEVENT")) ((component_begun part, begin) ∷ []) [])) o.begins
    ∙ (ap (λ n. numbers (cond (is_same_name n (codes "VEVENT")) ((component_begun part, begin) ∷ []) [])) o.names ∙ either (is_same_name (component_name part) (codes "VEVENT")))
  where
    either : (b : Bool) → numbers (cond b ((component_begun part, begin) ∷ []) []) ≡ map component_begun (cond b (part ∷ []) [])
    either true = refl
    either false = refl

events_inside : {depth : ℕ} {own body : Numbers} {parts : List Component} → NumberedParts depth own parts body → (x : List ℕ) → numbers (inside_from begins_event (x ∷ []) body) ≡ events_of parts
events_inside nothing = λ x. refl
events_inside (property {body = body} line h b) = λ x.
    let none : begins_event line.1 ≡ false = ap (λ t. t && is_same_name (line_value line.1) (codes "VEVENT")) (no_begin (is_begin line.1) (is_end line.1) h) in
    ap numbers (body_then b begins_event (x ∷ []) (line ∷ []) ∙ (ap (λ t. inside_from begins_event (x ∷ []) body ++ (cond t (line ∷ []) [] ++ [])) none ∙ append-nil (inside_from begins_event (x ∷ []) body)))
    ∙ events_inside b x
events_inside (component {parts = parts} {body = body} part begin end inner v o e b rest) = λ x.
    let before = inside_from begins_event (x ∷ []) body in
    let here = cond (begins_event begin) ((component_begun part, begin) ∷ []) [] in
    ap numbers (body_then rest begins_event (x ∷ []) (_ ∷ (inner ++ end ∷ []))
    ∙ ap (λ z. before ++ z) (part_inside b (deeper b) begins_event x [] (component_begun part, begin) end (component_name part) o))
    ∙ (map-append (λ line. line.0) before here
    ∙ (ap (λ z. z ++ numbers here) (events_inside rest x) ∙ (ap (λ z. events_of parts ++ z) (one_event part begin o)
    ∙ (sym (map-append component_begun (filter (λ part. is_same_name (component_name part) (codes "VEVENT")) parts) _)
    ∙ ap (map component_begun) (sym (filter-append (λ part. is_same_name (component_name part) (codes "VEVENT")) parts (part ∷ [])))))))

-- ---- the whole

whole_inside : (test : Test) (c : Component) (lines : Numbers) (s : SpellsNumbered 7 c lines) → test s.end.1 ≡ false → inside_from test [] lines ≡ inside_from test (component_name c ∷ []) s.body
whole_inside test c lines s h =
    ap (inside_from test []) s.are
    ∙ (ap (λ z. inside_from test z (s.body ++ s.end ∷ [])) (now_begin [] s.begin (component_name c) s.opens)
    ∙ (body_then s.holds test (component_name c ∷ []) (s.end ∷ [])
    ∙ (ap (λ t. inside_from test (component_name c ∷ []) s.body ++ (cond t (s.end ∷ []) [] ++ [])) h ∙ append-nil (inside_from test (component_name c ∷ []) s.body))))

-- a VCALENDAR that lines spell is refused as a whole
pub whole_blames : (bounded : Bool) (lines : List (List ℕ)) (c : Component) (n at : ℕ) → SpellsNumbered 7 c (enumerate_from 1 lines) × IsCalendar c
    → CalendarBlame bounded (numbered_of c) (events_begun_in c) n at → ObjectBlame bounded lines n at
whole_blames bounded lines c n at (s, calendar) blamed =
    let property : is_property s.end.1 ≡ false = ap (λ b. not (is_begin s.end.1) && not b) s.closes.ends ∙ never (not (is_begin s.end.1)) in
    let event : begins_event s.end.1 ≡ false = ap (λ b. b && is_same_name (line_value s.end.1) (codes "VEVENT")) (not_both (line_name s.end.1) s.closes.ends) in
    let own : inside is_property lines ≡ component_numbered c = whole_inside is_property c (enumerate_from 1 lines) s property ∙ own_inside s.holds (component_name c) in
    let events : events_begun lines ≡ events_begun_in c = ap numbers (whole_inside begins_event c (enumerate_from 1 lines) s event) ∙ events_inside s.holds (component_name c) in
    let first : component_begun c ≡ 1 = sym (begins lines s.are) in
    let spelled = spells_tree 7 c lines (subst (λ (ls : List (List ℕ)). SpellsOf 7 c ls) (texts_enumerated 1 lines) (plain_whole s)) in
    whole (tree_of c, spelled, ap is_calendar_name (tree_of-name c) ∙ calendar) (rw (own, events, sym first) blamed)
  where
    never : (b : Bool) → (b && false) ≡ false
    never true = refl
    never false = refl

    begins : (ls : List (List ℕ)) {k : ℕ} {line : List ℕ} {rest : Numbers} → enumerate_from 1 ls ≡ (k, line) ∷ rest → 1 ≡ k
    begins [] e = cc
    begins (l ∷ ls) e = ap (λ (z : Numbers). (get_or {A = ℕ × List ℕ} z 0 (0, [])).0) e
