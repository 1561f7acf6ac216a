-- Which faults the lines so far have.
use Rattle.std.proofs.Common.{◌≡◌, inl, inr, ℕ, ◌+◌, ◌-◌, ◌<◌, ◌≤◌, arith, Bool, true, false, not, ◌&&◌, ◌||◌, eqb, Option, None, Some, is_some, List, [], ◌∷◌, ◌++◌, map, length, reverse, refl, ap, sym, subst, ◌∙◌}
use Rattle.std.specs.List.{enumerate_from}
use Rattle.std.proofs.lemmas.Bool.{lt-leb, or_from, not-true}
use Rattle.std.proofs.lemmas.Bool.Decides.{nat_tests}
use Rattle.std.proofs.lemmas.List.{append_assoc, append-nil, nil_from_length, length-map, length-reverse}
use Rattle.profile.specs.text.Lines.{logical_lines, text_has}
use Rattle.profile.specs.text.ObjectBlame.{ObjectBlame}
use Rattle.profile.specs.text.ObjectBlame.ObjectBlame.{misplaced_line, not_closed, nothing}
use Rattle.profile.specs.text.Objects.{Opens, is_none, now_open, opened_from, opened, is_calendar_name, may_begin, misplaced, misplaced_begin, fits, some_misplaced, all_fit, lines_have}
use Rattle.ical_lines.specs.Fault.{RefusesOnly, RefusesBy, RefusesWhere, fault_at}
use Rattle.ical_lines.specs.declared.fault.Fault.{Fault}
use Rattle.ical_lines.specs.declared.fault.Fault.TheVariants.{Refused, Memory}
use Rattle.ical_tree.specs.declared.component.Component.{Component}
use Rattle.ical_tree.specs.Tree.{component_name, tree_of}
use Rattle.ical_tree.specs.Reading.{Built, Open, OpenLines, open_of, IsRefusalOf, TreeHas, SpellsNumbered, IsCalendar, begun_last, open_names, with_lines}
use Rattle.ical_tree.proofs.NumberLemmas.{Numbers, texts, texts-append, texts_enumerated, split_numbered, plain_parts, plain_whole}
use Rattle.ical_tree.proofs.BuiltLemmas.{outermost, opens, names-with}
use Rattle.ical_tree.proofs.TreeOfLemmas.{body_tree}
use Rattle.ical_tree.proofs.PairLemmas.{opened-append, any_misplaced, after, after_first, none-append, all_fit_from, found_later, now_begin, fine_begin, fine_first, stays_whole, stays, fine_whole, fine}

-- ---- BEGIN of a component that may not begin here

is_none-some : (names : List (List ℕ)) → 0 < length names → is_none names ≡ false
is_none-some [] l = absurd (omega arith)
is_none-some (name ∷ names) l = refl

names-length : (items : List Component) (run : Numbers) → length (open_names (with_lines run (opens items))) ≡ length items
names-length items run = ap length (names-with (opens items) run) ∙ (length-map (opens items) (λ c. c.name) ∙ (length-map (reverse items) open_of ∙ length-reverse items))

-- nothing is open where this test says that there are no items
pub outside : (items : List Component) (run : Numbers) (b : Bool) → (b ≡ true → length items ≡ 0) → (b ≡ false → 0 < length items) → b ≡ is_none (open_names (with_lines run (opens items)))
outside items run true none some = ap (λ xs. is_none (open_names (with_lines run (opens xs)))) (sym (nil_from_length items (none refl)))
outside items run false none some =
    let l = some refl in
    sym (is_none-some (open_names (with_lines run (opens items))) (omega (arith, names-length items run, l)))

pub stray : (items : List Component) (run : Numbers) (started : Bool) (name : List ℕ) → length items < 8 → may_begin (open_names (with_lines run (opens items))) started name ≡ false → misplaced_begin 23 (open_names (with_lines run (opens items))) started name ≡ true
stray items run started name l h =
    let stack = open_names (with_lines run (opens items)) in
    let room : length stack < 8 = omega (arith, names-length items run) in
    ap (λ b. not b && not (may_begin stack started name)) (lt-leb 8 (length stack) room) ∙ ap not h

-- ---- one more line

opened_from-push : (stack lines : List (List ℕ)) (line : List ℕ) → opened_from stack (lines ++ line ∷ []) ≡ now_open (opened_from stack lines) line
opened_from-push stack [] line = refl
opened_from-push stack (l ∷ lines) line = opened_from-push (now_open stack l) lines line

-- ---- what is built pairs up

-- the lines of an open component, without numbers
open_texts : (c : Open) (depth : ℕ) (before done : Numbers) (o : OpenLines c depth before done) → texts done ≡ texts before ++ o.begin ∷ texts o.body
open_texts c depth before done o = ap texts o.are ∙ texts-append before (_ ∷ o.body)

built_opened : (cs : List Open) (closed : Option Component) (done : Numbers) → Built cs closed done → opened (texts done) ≡ open_names cs
built_opened [] None done b = ap (λ z. opened (texts z)) b
built_opened [] (Some c) done b =
    let s = plain_whole b.0 in
    ap opened s.are ∙ stays_whole (component_name c) s.begin s.end s.body s.opens s.closes (stays (body_tree s.holds)) []
built_opened (c ∷ around) closed done b =
    let o = b.1 in
    ap opened (open_texts c _ b.0 done o)
    ∙ (opened-append [] (texts b.0) (o.begin ∷ texts o.body)
    ∙ (ap (λ s. opened_from s (o.begin ∷ texts o.body)) (built_opened around closed b.0 b.2)
    ∙ (ap (λ s. opened_from s (texts o.body)) (now_begin (open_names around) o.begin c.name o.opens)
    ∙ stays (body_tree (plain_parts o.holds)) (c.name ∷ open_names around))))

begin_fits : (n : ℕ) (c : Open) (around : List Open) (closed : Option Component) (before : Numbers) (begin : List ℕ) → Opens begin c.name → length around ≤ 7 → may_begin (open_names around) (is_some closed) c.name ≡ true → Built around closed before → misplaced n (open_names around) (after false (texts before)) begin ≡ false
begin_fits n c [] None before begin o l h b = ap (λ ls. misplaced n [] (after false (texts ls)) begin) b ∙ fine_first n begin c.name o (outermost None (is_calendar_name c.name) h).1
begin_fits n c [] (Some d) before begin o l h b = let e = (outermost (Some d) (is_calendar_name c.name) h).0 in cc
begin_fits n c (x ∷ xs) closed before begin o l h b =
    let m : length (open_names xs) < 7 = omega (arith, length-map xs (λ c. c.name)) in
    fine_begin n x.name (open_names xs) (after false (texts before)) begin c.name (not-true (is_calendar_name c.name) h) o m

built_none : (n : ℕ) (cs : List Open) (closed : Option Component) (done : Numbers) → Built cs closed done → any_misplaced n [] false (texts done) ≡ false
built_none n [] None done b = ap (λ z. any_misplaced n [] false (texts z)) b
built_none n [] (Some c) done b =
    let s = plain_whole b.0 in
    ap (any_misplaced n [] false) s.are ∙ fine_whole n [] false (component_name c) s.begin s.end s.body s.opens s.closes (stays (body_tree s.holds)) (fine_first n s.begin (component_name c) s.opens b.1) (fine (body_tree s.holds) n (component_name c) [] (omega arith))
built_none n (c ∷ around) closed done b =
    let o = b.1 in
    let l = b.3 in
    let deep : length (open_names around) + (7 - length around) ≤ 7 = omega (arith, length-map around (λ c. c.name)) in
    let inner : any_misplaced n (now_open (open_names around) o.begin) true (texts o.body) ≡ false = ap (λ s. any_misplaced n s true (texts o.body)) (now_begin (open_names around) o.begin c.name o.opens) ∙ fine (body_tree (plain_parts o.holds)) n c.name (open_names around) deep in
    let here : any_misplaced n (open_names around) (after false (texts b.0)) (o.begin ∷ texts o.body) ≡ false = or_from (misplaced n (open_names around) (after false (texts b.0)) o.begin) (any_misplaced n (now_open (open_names around) o.begin) true (texts o.body)) (begin_fits n c around closed b.0 o.begin o.opens l b.4 b.2) inner in
    ap (any_misplaced n [] false) (open_texts c _ b.0 done o)
    ∙ none-append n [] false (texts b.0) (o.begin ∷ texts o.body) (built_none n around closed b.0 b.2) (ap (λ s. any_misplaced n s (after false (texts b.0)) (o.begin ∷ texts o.body)) (built_opened around closed b.0 b.2) ∙ here)

built_fits : (cs : List Open) (closed : Option Component) (done : Numbers) → Built cs closed done → all_fit [] false (texts done) ≡ true
built_fits cs closed done b = all_fit_from [] false (texts done) (built_none 20 cs closed done b) (built_none 22 cs closed done b) (built_none 23 cs closed done b)

-- what the lines so far have built
abbrev pub State : List Open → Option Component → Numbers → List (List ℕ) → Type 0
State cs closed left lines =
    (done : Numbers) × Built cs closed done × (done ++ left ≡ enumerate_from 1 lines) × (open_names cs ≡ opened (texts done))

pub state_first : (items : List Component) (run : Numbers) (closed : Option Component) (left : Numbers) (lines : List (List ℕ)) → items ≡ [] → closed ≡ None → left ≡ enumerate_from 1 lines → State (with_lines run (opens items)) closed left lines
state_first items run closed left lines i c e =
    rw (i, c) ([], refl, e, refl)

all_done : (cs : List Open) (closed : Option Component) (left : Numbers) (lines : List (List ℕ)) (s : State cs closed left lines) → left ≡ [] → s.0 ≡ enumerate_from 1 lines
all_done cs closed left lines s e = sym (append-nil s.0) ∙ (ap (λ z. s.0 ++ z) (sym e) ∙ s.2)

pub state_spelled : (cs : List Open) (closed : Option Component) (left : Numbers) (lines : List (List ℕ)) (c : Component) → State cs closed left lines → left ≡ [] → ((done : Numbers) → Built cs closed done → SpellsNumbered 7 c done × IsCalendar c) → SpellsNumbered 7 c (enumerate_from 1 lines) × IsCalendar c
state_spelled cs closed left lines c s e h =
    subst (λ ls. SpellsNumbered 7 c ls × IsCalendar c) (all_done cs closed left lines s e) (h s.0 s.1)

pub state_next : (cs ds : List Open) (closed after : Option Component) (left rest : Numbers) (lines : List (List ℕ)) (line : ℕ × List ℕ) → State cs closed left lines → left ≡ line ∷ rest → ((done : Numbers) → Built cs closed done → Built ds after (done ++ line ∷ [])) → open_names ds ≡ now_open (open_names cs) line.1 → State ds after rest lines
state_next cs ds closed after left rest lines line s e b n =
    let done = s.0 in
    let more = ap opened (texts-append done (line ∷ [])) ∙ opened_from-push [] (texts done) line.1 in (
      done ++ line ∷ [],
      b done s.1,
      append_assoc done (line ∷ []) rest ∙ (ap (λ z. done ++ z) (sym e) ∙ s.2),
      n ∙ (ap (λ z. now_open z line.1) s.3 ∙ sym more),
    )

-- ---- a refusal at a line

same_started : (cs : List Open) (closed : Option Component) (done : Numbers) (n : ℕ) (line : List ℕ) → Built cs closed done → misplaced n (open_names cs) (is_some closed) line ≡ misplaced n (open_names cs) (not (is_none (texts done))) line
same_started [] None done n line b = ap (λ d. misplaced n [] (not (is_none (texts d))) line) (sym b)
same_started [] (Some c) done n line b = ap (λ d. misplaced n [] (not (is_none (texts d))) line) (sym b.0.are)
same_started (c ∷ cs) closed done n line b = refl

or_first : (a b c : Bool) → a ≡ true → (a || b || c) ≡ true
or_first a b c h = ap (λ x. x || b || c) h

-- the next line is the first that doesn't fit
first_misplaced : (cs : List Open) (closed : Option Component) (left rest : Numbers) (lines : List (List ℕ)) (k n : ℕ) (line : List ℕ) → State cs closed left lines → left ≡ (k, line) ∷ rest → misplaced n (open_names cs) (is_some closed) line ≡ true
    → (before after : List (List ℕ)) × (lines ≡ before ++ line ∷ after) × (length before + 1 ≡ k) × (all_fit [] false before ≡ true) × (misplaced n (opened before) (not (is_none before)) line ≡ true)
first_misplaced cs closed left rest lines k n line s e h =
    let at = split_numbered 1 lines s.0 rest k line (sym s.2 ∙ ap (λ z. s.0 ++ z) e) in
    let here = ap (λ z. misplaced n z (not (is_none (texts s.0))) line) (sym s.3) ∙ (sym (same_started cs closed s.0 n line s.1) ∙ h) in
    (texts s.0, texts rest, at.0, at.1, built_fits cs closed s.0 s.1, here)

pub take_refuses : (bounded : Bool) (lines : List (List ℕ)) (cs : List Open) (closed : Option Component) (left rest : Numbers) (k : ℕ) (line : List ℕ) (fault : Fault) → State cs closed left lines → left ≡ (k, line) ∷ rest → RefusesOnly (λ n. misplaced n (open_names cs) (is_some closed) line) fault → RefusesBy (λ m. TreeHas bounded m lines) fault
take_refuses bounded lines cs closed left rest k line Memory s e h = tt
take_refuses bounded lines cs closed left rest k line (Refused r) s e h =
    let n = r.number in
    let (before, after, are, number, fit, here) = first_misplaced cs closed left rest lines k n line s e h in
    let next : some_misplaced n (opened before) (not (is_none before)) (line ∷ after) ≡ true = ap (λ x. x || (fits (opened before) (not (is_none before)) line && some_misplaced n (now_open (opened before) line) true after)) here in
    let later : some_misplaced n [] false (before ++ line ∷ after) ≡ true = found_later n [] false before (line ∷ after) fit (ap (λ b. some_misplaced n (opened before) b (line ∷ after)) (after_first before) ∙ next) in
    let found : some_misplaced n [] false lines ≡ true = ap (some_misplaced n [] false) are ∙ later in
    inl (or_first (some_misplaced n [] false lines) (eqb n 21 && (all_fit [] false lines && not (is_none (opened lines)))) (eqb n 23 && is_none lines) found)

pub take_blames : (bounded : Bool) (lines : List (List ℕ)) (cs : List Open) (closed : Option Component) (left rest : Numbers) (k : ℕ) (line : List ℕ) (fault : Fault) → State cs closed left lines → left ≡ (k, line) ∷ rest → RefusesOnly (λ n. misplaced n (open_names cs) (is_some closed) line) fault → RefusesWhere (ObjectBlame bounded lines) (fault_at k fault)
take_blames bounded lines cs closed left rest k line Memory s e h = tt
take_blames bounded lines cs closed left rest k line (Refused r) s e h =
    let (before, after, are, number, fit, here) = first_misplaced cs closed left rest lines k r.number line s e h in
    subst (ObjectBlame bounded lines r.number) number (misplaced_line before after line are fit here)

-- ---- a refusal after the last line

all_texts : (cs : List Open) (closed : Option Component) (left : Numbers) (lines : List (List ℕ)) (s : State cs closed left lines) → left ≡ [] → texts s.0 ≡ lines
all_texts cs closed left lines s e = ap texts (all_done cs closed left lines s e) ∙ texts_enumerated 1 lines

all_fitting : (cs : List Open) (closed : Option Component) (left : Numbers) (lines : List (List ℕ)) → State cs closed left lines → left ≡ [] → all_fit [] false lines ≡ true
all_fitting cs closed left lines s e = subst (λ ls. all_fit [] false ls ≡ true) (all_texts cs closed left lines s e) (built_fits cs closed s.0 s.1)

-- how the reader ends with a refusal: a component is open, or there was no line
abbrev pub IsEnded : List Open → Option Component → ℕ → Type 0
IsEnded cs closed n = ((eqb n 21 && not (is_none (open_names cs))) || (eqb n 23 && (is_none (open_names cs) && not (is_some closed)))) ≡ true

pub finish_refuses : (bounded : Bool) (lines : List (List ℕ)) (cs : List Open) (closed : Option Component) (left : Numbers) (n : ℕ) → State cs closed left lines → left ≡ [] → IsEnded cs closed n → lines_have n lines ≡ true
finish_refuses bounded lines [] None left n s e h =
    let number : n ≡ 23 = grind (arith, nat_tests) in
    rw (number, sym (all_texts [] None left lines s e) ∙ ap texts s.1) refl
finish_refuses bounded lines [] (Some c) left n s e h = absurd (grind (arith, nat_tests))
finish_refuses bounded lines (c ∷ cs) closed left n s e h =
    let number : n ≡ 21 = grind (arith, nat_tests) in
    let fit = all_fitting (c ∷ cs) closed left lines s e in
    let some : is_none (opened lines) ≡ false = ap is_none (ap opened (sym (all_texts (c ∷ cs) closed left lines s e)) ∙ sym s.3) in
    rw (number, fit, some) (either (some_misplaced 21 [] false lines))
  where
    either : (a : Bool) → ((a || true) || false) ≡ true
    either true = refl
    either false = refl

pub finish_blames : (bounded : Bool) (lines : List (List ℕ)) (cs : List Open) (closed : Option Component) (left : Numbers) (n at : ℕ) → State cs closed left lines → left ≡ [] → IsEnded cs closed n → at ≡ begun_last cs → ObjectBlame bounded lines n at
finish_blames bounded lines [] None left n at s e h p =
    let number : n ≡ 23 = grind (arith, nat_tests) in
    rw (number, p) (nothing (sym (all_texts [] None left lines s e) ∙ ap texts s.1))
finish_blames bounded lines [] (Some c) left n at s e h p = absurd (grind (arith, nat_tests))
finish_blames bounded lines (c ∷ cs) closed left n at s e h p =
    let number : n ≡ 21 = grind (arith, nat_tests) in
    let o = s.1.1 in
    let are = split_numbered 1 lines s.1.0 o.body c.begun o.begin (sym (all_done (c ∷ cs) closed left lines s e) ∙ o.are) in
    rw (number, p, sym are.1) (not_closed (texts s.1.0) (texts o.body) (texts c.own) o.begin c.name (7 - length cs) (map tree_of c.inside) (all_fitting (c ∷ cs) closed left lines s e) are.0 o.opens (body_tree (plain_parts o.holds)))

-- ---- of octets: a fault of their lines, or of what these spell

pub text_refuses : (bounded : Bool) (octets : List ℕ) (fault : Fault) → RefusesOnly (λ n. text_has bounded n octets) fault → IsRefusalOf bounded octets fault
text_refuses bounded octets Memory h = tt
text_refuses bounded octets (Refused r) h = inl h

pub tree_refuses : (bounded : Bool) (octets : List ℕ) (lines : List (List ℕ)) (fault : Fault) → lines ≡ logical_lines octets → RefusesBy (λ n. TreeHas bounded n lines) fault → IsRefusalOf bounded octets fault
tree_refuses bounded octets lines Memory e h = tt
tree_refuses bounded octets lines (Refused r) e h = inr (subst (λ (ls : List (List ℕ)). TreeHas bounded r.number ls) e h)

-- what is said of numbers alone holds at another line
pub fault_by : (P : ℕ → Type 0) (line : ℕ) (fault : Fault) → RefusesBy P fault → RefusesBy P (fault_at line fault)
fault_by P line Memory h = tt
fault_by P line (Refused r) h = h
