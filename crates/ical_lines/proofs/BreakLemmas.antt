-- The lines of a text that is split at LFs.
use Rattle.std.proofs.Common.{◌≡◌, map, filter, ℕ, suc, zero, ◌+◌, ◌-◌, ◌<◌, ◌≤◌, Bool, true, false, not, ◌&&◌, ◌||◌, cond, eqb, ltb, None, Some, List, [], ◌∷◌, ◌++◌, length, take, drop, get_or, refl, ap, sym, subst, ◌∙◌, arith}
use Rattle.std.specs.List.{slice_split, onto_first, list_any, list_all}
use Rattle.std.proofs.lemmas.List.{append-nil, length-take, length-drop, drop-drop, get_or-take}
use Rattle.std.proofs.lemmas.List.Elements.{filter-append}
use Rattle.std.proofs.lemmas.List.Folds.{list_any-append}
use Rattle.memchr.specs.Find.{IsFirstByte, is_byte}
use Rattle.profile.specs.text.Lines.{ended, without_return, physical_lines, is_continuation, gather, unfolded, is_filled, logical_lines, line_has, is_faulty, text_has, reads_as_lines}
use Rattle.ical_lines.specs.Breaks.{is_break, is_one_line, lines_of}
use Rattle.std.specs.Str.{IsUtf8, is_utf8, IsCharBoundary}
use Rattle.std.proofs.Math.Bool.{or-true}
use Rattle.std.proofs.lemmas.Bool.Decides.{Decides-eqb, nat_tests}
use Rattle.std.proofs.lemmas.Bool.{or_parts, and_parts, false_from_ne_true, not-true, not_from_false}
use Rattle.ical_lines.proofs.PieceLemmas.{boundary_past}
use Rattle.ical_lines.proofs.SplitLemmas.{split_at_byte, split_no_byte}

-- ---- the lines of a text

pub filled_cons : (c : ℕ) (cs : List ℕ) → is_filled (c ∷ cs) ≡ true
filled_cons c cs = grind (arith, nat_tests)

filter_first : (x : List ℕ) (s : List (List ℕ)) → filter is_filled (x ∷ s) ≡ filter is_filled (x ∷ []) ++ filter is_filled s
filter_first x s = filter-append is_filled (x ∷ []) s

pub lines_of_first : (xs : List ℕ) (i : ℕ) → IsFirstByte (is_byte 10) xs (Some i) → lines_of xs ≡ filter is_filled (without_return (take i xs) ∷ []) ++ lines_of (drop (i + 1) xs)
lines_of_first xs i h =
    ap (λ s. filter is_filled (map without_return s)) (split_at_byte 10 xs i h) ∙ filter_first (without_return (take i xs)) (physical_lines (drop (i + 1) xs))

pub lines_of_none : (xs : List ℕ) → IsFirstByte (is_byte 10) xs None → lines_of xs ≡ filter is_filled (without_return xs ∷ [])
lines_of_none xs h = ap (λ s. filter is_filled (map without_return s)) (split_no_byte 10 xs h)

filled_more : (b : Bool) (l : List ℕ) (s : List (List ℕ)) (n : ℕ) → length s ≤ n → length (cond b (l ∷ s) s) ≤ suc n
filled_more true l s n h = omega (arith, h)
filled_more false l s n h = omega (arith, h)

filled_less : (b : Bool) (l : List ℕ) (s : List (List ℕ)) (n : ℕ) → length (cond b (l ∷ s) s) ≤ n → length s ≤ n
filled_less true l s n h = omega (arith, h)
filled_less false l s n h = omega (arith, h)

le_by : (b : Bool) (x : ℕ) (s : List (List ℕ)) (n : ℕ) → length (filter is_filled (map without_return s)) ≤ n → length (filter is_filled (map without_return (cond b ([] ∷ s) (onto_first x s)))) ≤ suc n
le_by true x s n h = omega (arith, h)
le_by false x [] n h = filled_more (is_filled (without_return (x ∷ []))) (without_return (x ∷ [])) [] n h
le_by false x (p ∷ ps) n h =
    let rest = filter is_filled (map without_return ps) in
    filled_more (is_filled (without_return (x ∷ p))) (without_return (x ∷ p)) rest n (filled_less (is_filled (without_return p)) (without_return p) rest n h)

pub lines_of-le : (xs : List ℕ) → length (lines_of xs) ≤ length xs
lines_of-le [] = omega arith
lines_of-le (x ∷ xs) = le_by (is_break x) x (slice_split is_break xs) (length xs) (lines_of-le xs)

-- ---- texts without a break

pub not_any : (p : ℕ → Bool) (xs : List ℕ) → ((k : ℕ) → k < length xs → p (get_or xs k 0) ≡ false) → list_any p xs ≡ false
not_any p [] h = refl
not_any p (x ∷ xs) h =
    let first : p x ≡ false = h 0 (omega arith) in
    let rest : list_any p xs ≡ false = not_any p xs (λ k l. h (suc k) (omega arith)) in
    rw (first, rest) refl

pub none_at : (p : ℕ → Bool) (xs : List ℕ) → list_any p xs ≡ false → (k d : ℕ) → k < length xs → p (get_or xs k d) ≡ false
none_at p [] h k d l = absurd (omega arith)
none_at p (x ∷ xs) h zero d l = (or_parts (p x) (list_any p xs) h).0
none_at p (x ∷ xs) h (suc k) d l = none_at p xs (or_parts (p x) (list_any p xs) h).1 k d (omega arith)

front_at : (xs : List ℕ) (i : ℕ) → IsFirstByte (is_byte 10) xs (Some i) → (k : ℕ) → k < i → is_break (get_or (take i xs) k 0) ≡ false
front_at xs i h k l = rw (get_or-take i xs k 0 l) (false_from_ne_true (is_break (get_or xs k 0)) (h.0.before k (omega arith) l))

pub one_line_front : (xs : List ℕ) (i : ℕ) → IsFirstByte (is_byte 10) xs (Some i) → is_one_line (take i xs) ≡ true
one_line_front xs i h =
    let e : list_any is_break (take i xs) ≡ false = not_any is_break (take i xs) (λ k l. front_at xs i h k (omega (arith, length-take i xs))) in
    rw e refl

-- ---- what is split at breaks has none

whole_by : (b : Bool) (x : ℕ) (s : List (List ℕ)) → is_break x ≡ b → list_all is_one_line s ≡ true → list_all is_one_line (cond b ([] ∷ s) (onto_first x s)) ≡ true
whole_by true x s e h = h
whole_by false x [] e h = rw e refl
whole_by false x (part ∷ s) e h = rw e h

pub parts_whole : (xs : List ℕ) → list_all is_one_line (slice_split is_break xs) ≡ true
parts_whole [] = refl
parts_whole (x ∷ xs) = whole_by (is_break x) x (slice_split is_break xs) refl (parts_whole xs)

any_take : (n : ℕ) (xs : List ℕ) → list_any is_break xs ≡ false → list_any is_break (take n xs) ≡ false
any_take zero xs h = refl
any_take (suc n) [] h = refl
any_take (suc n) (x ∷ xs) h =
    let first = (or_parts (is_break x) (list_any is_break xs) h).0 in
    rw (first, any_take n xs (or_parts (is_break x) (list_any is_break xs) h).1) refl

any_rest : (xs : List ℕ) → list_any is_break xs ≡ false → list_any is_break (drop 1 xs) ≡ false
any_rest [] h = refl
any_rest (x ∷ xs) h = (or_parts (is_break x) (list_any is_break xs) h).1

pub any_append : (xs ys : List ℕ) → list_any is_break xs ≡ false → list_any is_break ys ≡ false → list_any is_break (xs ++ ys) ≡ false
any_append xs ys h k = rw (list_any-append is_break xs ys, h) k

return_by : (b : Bool) (n : ℕ) (l : List ℕ) → is_one_line l ≡ true → is_one_line (cond b (take n l) l) ≡ true
return_by true n l h = not_from_false (list_any is_break (take n l)) (any_take n l (not-true (list_any is_break l) h))
return_by false n l h = h

returns_whole : (s : List (List ℕ)) → list_all is_one_line s ≡ true → list_all is_one_line (map without_return s) ≡ true
returns_whole [] h = refl
returns_whole (l ∷ s) h =
    let parts = and_parts (is_one_line l) (list_all is_one_line s) h in
    let first : is_one_line (without_return l) ≡ true = return_by (eqb (get_or l (length l - 1) 0) 13) (length l - 1) l parts.0 in
    rw (first, returns_whole s parts.1) refl

all_cond : (b : Bool) (s t : List (List ℕ)) → list_all is_one_line s ≡ true → list_all is_one_line t ≡ true → list_all is_one_line (cond b s t) ≡ true
all_cond true s t h k = h
all_cond false s t h k = k

gather_whole : (begun : List ℕ) (s : List (List ℕ)) → is_one_line begun ≡ true → list_all is_one_line s ≡ true → list_all is_one_line (gather begun s) ≡ true
gather_whole begun [] h k = rw h refl
gather_whole begun (l ∷ s) h k =
    let parts = and_parts (is_one_line l) (list_all is_one_line s) k in
    let joined : is_one_line (begun ++ drop 1 l) ≡ true = not_from_false (list_any is_break (begun ++ drop 1 l)) (any_append begun (drop 1 l) (not-true (list_any is_break begun) h) (any_rest l (not-true (list_any is_break l) parts.0))) in
    all_cond (is_continuation l) (gather (begun ++ drop 1 l) s) (begun ∷ gather l s) (gather_whole (begun ++ drop 1 l) s joined parts.1) (rw h (gather_whole l s parts.0 parts.1))

unfolded_whole : (s : List (List ℕ)) → list_all is_one_line s ≡ true → list_all is_one_line (unfolded s) ≡ true
unfolded_whole [] h = refl
unfolded_whole (l ∷ s) h =
    let parts = and_parts (is_one_line l) (list_all is_one_line s) h in gather_whole l s parts.0 parts.1

filled_whole : (s : List (List ℕ)) → list_all is_one_line s ≡ true → list_all is_one_line (filter is_filled s) ≡ true
filled_whole [] h = refl
filled_whole (l ∷ s) h =
    let parts = and_parts (is_one_line l) (list_all is_one_line s) h in
    all_cond (is_filled l) (l ∷ filter is_filled s) (filter is_filled s) (rw parts.0 (filled_whole s parts.1)) (filled_whole s parts.1)

pub unfolded_lines_whole : (octets : List ℕ) → list_all is_one_line (filter is_filled (unfolded (physical_lines octets))) ≡ true
unfolded_lines_whole octets =
    filled_whole (unfolded (physical_lines octets)) (unfolded_whole (physical_lines octets) (returns_whole (slice_split is_break octets) (parts_whole octets)))

-- ---- the first line of a text

pub next_line : (bytes text line tail rest first : List ℕ) (i : ℕ) → bytes ≡ text → IsFirstByte (is_byte 10) bytes (Some i) → line ≡ take i text → tail ≡ drop i text → rest ≡ drop 1 tail → first ≡ without_return line → lines_of text ≡ filter is_filled (first ∷ []) ++ lines_of rest
next_line bytes text line tail rest first i b f l t r e =
    let found : IsFirstByte (is_byte 10) text (Some i) = (let P : List ℕ → Type 0 = λ xs. IsFirstByte (is_byte 10) xs (Some i) in subst P b f) in
    let after : drop (i + 1) text ≡ rest = sym (r ∙ (ap (drop 1) t ∙ drop-drop 1 i text)) in
    let here : without_return (take i text) ≡ first = sym (e ∙ ap without_return l) in
    lines_of_first text i found ∙ (ap (λ z. filter is_filled (z ∷ []) ++ lines_of (drop (i + 1) text)) here ∙ ap (λ z. filter is_filled (first ∷ []) ++ lines_of z) after)

pub last_line : (bytes text first : List ℕ) → bytes ≡ text → IsFirstByte (is_byte 10) bytes None → first ≡ without_return text → lines_of text ≡ filter is_filled (first ∷ []) ++ []
last_line bytes text first b f e =
    ap lines_of (sym b) ∙ (lines_of_none bytes f ∙ (ap (λ z. filter is_filled (z ∷ [])) (ap without_return b ∙ sym e) ∙ sym (append-nil (filter is_filled (first ∷ [])))))

return_whole : (line : List ℕ) → is_one_line line ≡ true → is_one_line (without_return line) ≡ true
return_whole line h = return_by (eqb (get_or line (length line - 1) 0) 13) (length line - 1) line h

pub next_whole : (bytes text line first : List ℕ) (i : ℕ) → bytes ≡ text → IsFirstByte (is_byte 10) bytes (Some i) → line ≡ take i text → first ≡ without_return line → is_one_line first ≡ true
next_whole bytes text line first i b f l e =
    ap is_one_line e ∙ return_whole line (ap is_one_line (l ∙ ap (take i) (sym b)) ∙ one_line_front bytes i f)

pub last_whole : (bytes text first : List ℕ) → bytes ≡ text → IsFirstByte (is_byte 10) bytes None → first ≡ without_return text → is_one_line first ≡ true
last_whole bytes text first b f e =
    let none : list_any is_break bytes ≡ false = not_any is_break bytes (λ k l. false_from_ne_true (is_break (get_or bytes k 0)) (f k (omega arith) l)) in
    ap is_one_line e ∙ return_whole text (ap is_one_line (sym b) ∙ not_from_false (list_any is_break bytes) none)

pub next_cut : (bytes text tail : List ℕ) (i : ℕ) → IsUtf8 bytes → bytes ≡ text → IsFirstByte (is_byte 10) bytes (Some i) → tail ≡ drop i text → IsCharBoundary tail 1
next_cut bytes text tail i u b f t =
    let l : i < length bytes = f.0.high in
    let here : get_or bytes i 0 ≡ 10 = (Decides-eqb (get_or bytes i 0) 10).0 f.1 in
    let filled : 0 < length tail = omega (arith, ap length t, length-drop i text, ap length b) in
    boundary_past text bytes tail i 10 (subst IsUtf8 b u) b t filled (λ _. here) (omega arith)

-- ---- a test of the lines so far

pub any_later : (p : List ℕ → Bool) (x : List ℕ) (xs ys : List (List ℕ)) → ys ≡ x ∷ xs → list_any p xs ≡ true → list_any p ys ≡ true
any_later p x xs ys e h = ap (list_any p) e ∙ (ap (λ b. p x || b) h ∙ or-true (p x))

pub any_here : (p : List ℕ → Bool) (x : List ℕ) (xs ys : List (List ℕ)) → ys ≡ x ∷ xs → p x ≡ true → list_any p ys ≡ true
any_here p x xs ys e h = ap (list_any p) e ∙ ap (λ b. b || list_any p xs) h

-- ---- what a text of logical lines has

within_or : (b x y : Bool) → (b && y) ≡ true → (b && (x || y)) ≡ true
within_or true true y h = refl
within_or true false y h = h
within_or false x y h = h

bound_or : (a u k b x y : Bool) → (a || (k && (b && y))) ≡ true → (a || u || (k && (b && (x || y)))) ≡ true
bound_or true u k b x y h = refl
bound_or false true k b x y h = refl
bound_or false false true b x y h = within_or b x y h
bound_or false false false b x y h = h

neither_bound : (b x y : Bool) → (b && x) ≡ false → (b && y) ≡ false → (b && (x || y)) ≡ false
neither_bound true true y h k = h
neither_bound true false y h k = k
neither_bound false x y h k = refl

pub lines_refuse : (b : Bool) (n : ℕ) (octets : List ℕ) (lines : List (List ℕ)) → lines ≡ logical_lines octets → (list_any (line_has n) lines || (eqb n 6 && (b && ltb 65536 (length lines)))) ≡ true → text_has b n octets ≡ true
lines_refuse b n octets lines e h =
    let k : (list_any (line_has n) (logical_lines octets) || (eqb n 6 && (b && ltb 65536 (length (logical_lines octets))))) ≡ true = (let P : List (List ℕ) → Type 0 = λ ls. (list_any (line_has n) ls || (eqb n 6 && (b && ltb 65536 (length ls)))) ≡ true in subst P e h) in
    bound_or (list_any (line_has n) (logical_lines octets)) (eqb n 5 && not (is_utf8 (ended (logical_lines octets)))) (eqb n 6) b (ltb 1048576 (length octets)) (ltb 65536 (length (logical_lines octets))) k

pub all_read : (b : Bool) (octets : List ℕ) (lines : List (List ℕ)) → lines ≡ logical_lines octets → is_utf8 (ended (logical_lines octets)) ≡ true → list_any is_faulty lines ≡ false → (b && ltb 65536 (length lines)) ≡ false → (b && ltb 1048576 (length octets)) ≡ false → reads_as_lines b octets ≡ true
all_read b octets lines e u f n o =
    let g : list_any is_faulty (logical_lines octets) ≡ false = ap (list_any is_faulty) (sym e) ∙ f in
    let m : (b && ltb 65536 (length (logical_lines octets))) ≡ false = ap (λ ls. b && ltb 65536 (length ls)) (sym e) ∙ n in
    let w : (b && (ltb 1048576 (length octets) || ltb 65536 (length (logical_lines octets)))) ≡ false = neither_bound b (ltb 1048576 (length octets)) (ltb 65536 (length (logical_lines octets))) o m in
    rw (g, u, w) refl
