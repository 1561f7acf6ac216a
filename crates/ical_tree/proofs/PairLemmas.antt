-- How the lines of a component pair up: what is open after them, and that none is misplaced.
use Rattle.std.proofs.Common.{◌≡◌, ℕ, ◌+◌, ◌<◌, ◌≤◌, Bool, true, false, not, ◌&&◌, ◌||◌, eqb, cond, List, [], ◌∷◌, ◌++◌, length, drop, codes, refl, ap, ◌∙◌, arith}
use Rattle.std.specs.Prelude.{nat_le}
use Rattle.std.specs.Str.{bytes_eq, str_to_ascii_lowercase}
use Rattle.std.proofs.lemmas.Bool.{lt-leb, or_from, or_parts, or_right, and_from, and_parts, and_right, not-true}
use Rattle.std.proofs.lemmas.Slice.Eq.{bytes_eq-Decides}
use Rattle.std.proofs.Math.Bool.{and-false}
use Rattle.profile.specs.text.Lines.{line_name, line_value, is_same_name}
use Rattle.profile.specs.text.Objects.{is_begin, is_end, is_property, Opens, Closes, SpellsBody, is_none, now_open, opened_from, misplaced, misplaced_begin, misplaced_end, misplaced_property, is_calendar_name, fits, some_misplaced, all_fit}
use Rattle.profile.specs.text.Objects.SpellsBody.{nothing, property, component}
use Rattle.profile.specs.text.Trees.{Tree, tree_name}

abbrev Lines : Type 0
Lines = List (List ℕ)

-- ---- a line is one of BEGIN, END and a property

bytes_eq-true : (xs ys : List ℕ) → bytes_eq xs ys ≡ true → xs ≡ ys
bytes_eq-true xs ys h = (bytes_eq-Decides xs ys).0 h

pub not_both : (name : List ℕ) → is_same_name name (codes "END") ≡ true → is_same_name name (codes "BEGIN") ≡ false
not_both name h =
    ap (λ x. bytes_eq x (str_to_ascii_lowercase (codes "BEGIN"))) (bytes_eq-true (str_to_ascii_lowercase name) (str_to_ascii_lowercase (codes "END")) h)

pub no_begin : (a b : Bool) → (not a && not b) ≡ true → a ≡ false
no_begin a b h = not-true a (and_parts (not a) (not b) h).0

pub no_end : (a b : Bool) → (not a && not b) ≡ true → b ≡ false
no_end a b h = not-true b (and_parts (not a) (not b) h).1

-- ---- no line is misplaced, the others not looked at

abbrev pub any_misplaced : ℕ → Lines → Bool → Lines → Bool
any_misplaced n stack started [] = false
any_misplaced n stack started (line ∷ lines) = misplaced n stack started line || any_misplaced n (now_open stack line) true lines

-- whether a line comes before, after these
abbrev pub after : Bool → Lines → Bool
after started [] = started
after started (line ∷ lines) = after true lines

after_true : (lines : Lines) → after true lines ≡ true
after_true [] = refl
after_true (line ∷ lines) = after_true lines

pub after_first : (lines : Lines) → after false lines ≡ not (is_none lines)
after_first [] = refl
after_first (line ∷ lines) = after_true lines

pub opened-append : (stack a b : Lines) → opened_from stack (a ++ b) ≡ opened_from (opened_from stack a) b
opened-append stack [] b = refl
opened-append stack (line ∷ a) b = opened-append (now_open stack line) a b

pub none-append : (n : ℕ) (stack : Lines) (started : Bool) (a b : Lines) → any_misplaced n stack started a ≡ false → any_misplaced n (opened_from stack a) (after started a) b ≡ false → any_misplaced n stack started (a ++ b) ≡ false
none-append n stack started [] b h k = k
none-append n stack started (line ∷ a) b h k =
    let x = misplaced n stack started line in
    let y = any_misplaced n (now_open stack line) true a in
    or_from x (any_misplaced n (now_open stack line) true (a ++ b)) (or_parts x y h).0 (none-append n (now_open stack line) true a b (or_parts x y h).1 k)

fine-append : (n : ℕ) (stack a b : Lines) → any_misplaced n stack true a ≡ false → any_misplaced n (opened_from stack a) true b ≡ false → any_misplaced n stack true (a ++ b) ≡ false
fine-append n stack a b h k = none-append n stack true a b h (ap (λ s. any_misplaced n (opened_from stack a) s b) (after_true a) ∙ k)

pub all_fit_from : (stack : Lines) (started : Bool) (lines : Lines) → any_misplaced 20 stack started lines ≡ false → any_misplaced 22 stack started lines ≡ false → any_misplaced 23 stack started lines ≡ false → all_fit stack started lines ≡ true
all_fit_from stack started [] h k m = refl
all_fit_from stack started (line ∷ lines) h k m =
    let a = misplaced 20 stack started line in
    let b = misplaced 22 stack started line in
    let c = misplaced 23 stack started line in
    let next = now_open stack line in
    and_from (fits stack started line) (all_fit next true lines)
    (ap not (or_from (a || b) c (or_from a b (or_parts a (any_misplaced 20 next true lines) h).0 (or_parts b (any_misplaced 22 next true lines) k).0) (or_parts c (any_misplaced 23 next true lines) m).0))
    (all_fit_from next true lines (or_parts a (any_misplaced 20 next true lines) h).1 (or_parts b (any_misplaced 22 next true lines) k).1 (or_parts c (any_misplaced 23 next true lines) m).1)

pub first_none : (n : ℕ) (stack : Lines) (started : Bool) (lines : Lines) → any_misplaced n stack started lines ≡ false → some_misplaced n stack started lines ≡ false
first_none n stack started [] h = refl
first_none n stack started (line ∷ lines) h =
    let a = misplaced n stack started line in
    let next = now_open stack line in
    or_from a (fits stack started line && some_misplaced n next true lines) (or_parts a (any_misplaced n next true lines) h).0
    (and_right (fits stack started line) (some_misplaced n next true lines) (first_none n next true lines (or_parts a (any_misplaced n next true lines) h).1))

-- a fault after lines that all fit is one of all lines
pub found_later : (n : ℕ) (stack : Lines) (started : Bool) (done left : Lines) → all_fit stack started done ≡ true → some_misplaced n (opened_from stack done) (after started done) left ≡ true → some_misplaced n stack started (done ++ left) ≡ true
found_later n stack started [] left h k = k
found_later n stack started (line ∷ done) left h k =
    let next = now_open stack line in
    let f = fits stack started line in
    let g = all_fit next true done in
    let rest = some_misplaced n next true (done ++ left) in
    or_right (misplaced n stack started line) (f && rest) (and_from f rest (and_parts f g h).0 (found_later n next true done left (and_parts f g h).1 k))

-- ---- where a line is

pub now_begin : (stack : Lines) (line name : List ℕ) → Opens line name → now_open stack line ≡ name ∷ stack
now_begin stack line name o =
    ap (λ b. cond b (line_value line ∷ stack) (cond (is_end line) (drop 1 stack) stack)) o.begins ∙ ap (λ n. n ∷ stack) o.names

now_end : (stack : Lines) (line name : List ℕ) → Closes line name → now_open stack line ≡ drop 1 stack
now_end stack line name c =
    ap (λ b. cond b (line_value line ∷ stack) (cond (is_end line) (drop 1 stack) stack)) (not_both (line_name line) c.ends)
    ∙ ap (λ e. cond e (drop 1 stack) stack) c.ends

pub now_property : (stack : Lines) (line : List ℕ) → is_property line ≡ true → now_open stack line ≡ stack
now_property stack line h =
    ap (λ b. cond b (line_value line ∷ stack) (cond (is_end line) (drop 1 stack) stack)) (no_begin (is_begin line) (is_end line) h)
    ∙ ap (λ e. cond e (drop 1 stack) stack) (no_end (is_begin line) (is_end line) h)

at_begin : (n : ℕ) (stack : Lines) (started : Bool) (line name : List ℕ) → Opens line name → misplaced n stack started line ≡ misplaced_begin n stack started name
at_begin n stack started line name o =
    ap (λ b. cond b (misplaced_begin n stack started (line_value line)) (cond (is_end line) (misplaced_end n stack (line_value line)) (misplaced_property n stack))) o.begins
    ∙ ap (misplaced_begin n stack started) o.names

at_end : (n : ℕ) (stack : Lines) (started : Bool) (line name : List ℕ) → Closes line name → misplaced n stack started line ≡ misplaced_end n stack (line_value line)
at_end n stack started line name c =
    ap (λ b. cond b (misplaced_begin n stack started (line_value line)) (cond (is_end line) (misplaced_end n stack (line_value line)) (misplaced_property n stack))) (not_both (line_name line) c.ends)
    ∙ ap (λ e. cond e (misplaced_end n stack (line_value line)) (misplaced_property n stack)) c.ends

pub at_property : (n : ℕ) (stack : Lines) (started : Bool) (line : List ℕ) → is_property line ≡ true → misplaced n stack started line ≡ misplaced_property n stack
at_property n stack started line h =
    ap (λ b. cond b (misplaced_begin n stack started (line_value line)) (cond (is_end line) (misplaced_end n stack (line_value line)) (misplaced_property n stack))) (no_begin (is_begin line) (is_end line) h)
    ∙ ap (λ e. cond e (misplaced_end n stack (line_value line)) (misplaced_property n stack)) (no_end (is_begin line) (is_end line) h)

never_two : (a b : Bool) → ((a && false) || (b && false)) ≡ false
never_two a b = or_from (a && false) (b && false) (and-false a) (and-false b)

-- a component that isn't a VCALENDAR may begin inside another, at most seven components around it
pub fine_begin : (n : ℕ) (x : List ℕ) (stack : Lines) (started : Bool) (line name : List ℕ) → is_calendar_name name ≡ false → Opens line name → length stack < 7 → misplaced n (x ∷ stack) started line ≡ false
fine_begin n x stack started line name v o h =
    let l : length (x ∷ stack) < 8 = omega arith in
    let e : nat_le 8 (length (x ∷ stack)) ≡ false = lt-leb 8 (length (x ∷ stack)) l in
    at_begin n (x ∷ stack) started line name o
    ∙ (ap (λ b. (eqb n 22 && b) || (eqb n 23 && (not b && not (not (is_calendar_name name))))) e
    ∙ (ap (λ b. (eqb n 22 && false) || (eqb n 23 && not (not b))) v
    ∙ never_two (eqb n 22) (eqb n 23)))

-- a VCALENDAR may be first
pub fine_first : (n : ℕ) (line name : List ℕ) → Opens line name → is_calendar_name name ≡ true → misplaced n [] false line ≡ false
fine_first n line name o h =
    at_begin n [] false line name o ∙ (ap (λ b. (eqb n 22 && false) || (eqb n 23 && not (b && true))) h ∙ never_two (eqb n 22) (eqb n 23))

fine_end : (n : ℕ) (stack : Lines) (line name : List ℕ) → Closes line name → misplaced n (name ∷ stack) true line ≡ false
fine_end n stack line name c =
    at_end n (name ∷ stack) true line name c ∙ (ap (λ b. eqb n 20 && not b) c.names ∙ and-false (eqb n 20))

fine_property : (n : ℕ) (x : List ℕ) (stack : Lines) (line : List ℕ) → is_property line ≡ true → misplaced n (x ∷ stack) true line ≡ false
fine_property n x stack line h = at_property n (x ∷ stack) true line h ∙ and-false (eqb n 23)

-- a body leaves open what was open before it
abbrev pub Stays : Lines → Type 0
Stays body = (stack : Lines) → opened_from stack body ≡ stack

pub stays_whole : (name begin end : List ℕ) (inner : Lines) → Opens begin name → Closes end name → Stays inner → (stack : Lines) → opened_from stack (begin ∷ (inner ++ end ∷ [])) ≡ stack
stays_whole name begin end inner o c k stack =
    ap (λ s. opened_from s (inner ++ end ∷ [])) (now_begin stack begin name o)
    ∙ (opened-append (name ∷ stack) inner (end ∷ []) ∙ (ap (λ s. now_open s end) (k (name ∷ stack)) ∙ now_end (name ∷ stack) end name c))

pub stays : {depth : ℕ} {lines : Lines} {parts : List Tree} {body : Lines} → SpellsBody depth lines parts body → Stays body
stays nothing = λ stack. refl
stays (property {body = body} line h b) = λ stack.
    opened-append stack body (line ∷ []) ∙ (ap (λ s. now_open s line) (stays b stack) ∙ now_property stack line h)
stays (component {body = body} part begin end inner v o e b rest) = λ stack.
    opened-append stack body (begin ∷ (inner ++ end ∷ [])) ∙ (ap (λ s. opened_from s (begin ∷ (inner ++ end ∷ []))) (stays rest stack) ∙ stays_whole (tree_name part) begin end inner o e (stays b) stack)

pub fine_whole : (n : ℕ) (stack : Lines) (started : Bool) (name begin end : List ℕ) (inner : Lines) → Opens begin name → Closes end name → Stays inner
    → misplaced n stack started begin ≡ false → any_misplaced n (name ∷ stack) true inner ≡ false → any_misplaced n stack started (begin ∷ (inner ++ end ∷ [])) ≡ false
fine_whole n stack started name begin end inner o c k m f =
    let last : any_misplaced n (name ∷ stack) true (end ∷ []) ≡ false = or_from (misplaced n (name ∷ stack) true end) false (fine_end n stack end name c) refl in
    let rest : any_misplaced n (name ∷ stack) true (inner ++ end ∷ []) ≡ false = fine-append n (name ∷ stack) inner (end ∷ []) f (ap (λ s. any_misplaced n s true (end ∷ [])) (k (name ∷ stack)) ∙ last) in
    or_from (misplaced n stack started begin) (any_misplaced n (now_open stack begin) true (inner ++ end ∷ [])) m (ap (λ s. any_misplaced n s true (inner ++ end ∷ [])) (now_begin stack begin name o) ∙ rest)

pub fine : {depth : ℕ} {lines : Lines} {parts : List Tree} {body : Lines} → SpellsBody depth lines parts body → (n : ℕ) (x : List ℕ) (stack : Lines) → length stack + depth ≤ 7 → any_misplaced n (x ∷ stack) true body ≡ false
fine nothing = λ n x stack h. refl
fine (property {body = body} line p b) = λ n x stack h.
    let last : any_misplaced n (x ∷ stack) true (line ∷ []) ≡ false = or_from (misplaced n (x ∷ stack) true line) false (fine_property n x stack line p) refl in
    fine-append n (x ∷ stack) body (line ∷ []) (fine b n x stack h) (ap (λ s. any_misplaced n s true (line ∷ [])) (stays b (x ∷ stack)) ∙ last)
fine (component {body = body} part begin end inner v o e b rest) = λ n x stack h.
    let within : any_misplaced n (tree_name part ∷ x ∷ stack) true inner ≡ false = fine b n (tree_name part) (x ∷ stack) (omega arith) in
    let last : any_misplaced n (x ∷ stack) true (begin ∷ (inner ++ end ∷ [])) ≡ false = fine_whole n (x ∷ stack) true (tree_name part) begin end inner o e (stays b) (fine_begin n x stack true begin (tree_name part) v o (omega arith)) within in
    fine-append n (x ∷ stack) body (begin ∷ (inner ++ end ∷ [])) (fine rest n x stack h) (ap (λ s. any_misplaced n s true (begin ∷ (inner ++ end ∷ []))) (stays rest (x ∷ stack)) ∙ last)
