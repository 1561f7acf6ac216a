-- A line that is cut before its first mark: what comes before the mark is its name.
use Rattle.std.proofs.Common.{◌≡◌, ℕ, suc, ◌+◌, Bool, true, false, ◌||◌, cond, eqb, ltb, List, [], ◌∷◌, ◌++◌, ◌<◌, ◌≤◌, Option, Some, None, MatchOption, Bor, length, take, drop, get_or, refl, ap, sym, ◌∙◌, arith}
use Rattle.std.specs.List.{list_any, onto_first, position, position_or_len}
use Rattle.std.specs.Option.{option_map}
use Rattle.std.specs.Str.{IsCharBoundary}
use Rattle.std.proofs.lemmas.List.{append-nil, length-take, get_or-take}
use Rattle.std.proofs.lemmas.List.Quantifiers.{position-Some}
use Rattle.std.proofs.lemmas.List.Sums.{fails_before_first}
use Rattle.std.proofs.lemmas.Str.{IsCharBoundary-before_ascii}
use Rattle.std.proofs.lemmas.Bool.{or_parts}
use Rattle.std.proofs.lemmas.Bool.Decides.{nat_tests}
use Rattle.profile.specs.text.Lines.{outside, front, back, line_head, line_name, line_params, pieces}
use Rattle.ical_lines.specs.Breaks.{is_mark, value_or_none}
use Rattle.ical_lines.specs.PiecesOf.{pieces_of}
use Rattle.ical_lines.proofs.BreakLemmas.{not_any}
use Rattle.ical_lines.proofs.PieceLemmas.{pieces_step}

-- what isn't a mark is none of the three
record Plain (c : ℕ) : Type 0 where
  pub colon : eqb c 58 ≡ false
  pub semicolon : eqb c 59 ≡ false
  pub quote : eqb c 34 ≡ false

plain : (c : ℕ) → is_mark c ≡ false → Plain c
plain c h =
    let outer = or_parts (eqb c 58 || eqb c 59) (eqb c 34) h in
    let inner = or_parts (eqb c 58) (eqb c 59) outer.0 in
    record { colon = inner.0; semicolon = inner.1; quote = outer.1 }

-- ---- one more octet before the text

outside_more : (stop c : ℕ) (cs : List ℕ) → eqb c 34 ≡ false → eqb c stop ≡ false → outside stop (c ∷ cs) ≡ suc (outside stop cs)
outside_more stop c cs quote other = rw (quote, other) (omega arith)

front_more : (stop c : ℕ) (cs : List ℕ) → eqb c 34 ≡ false → eqb c stop ≡ false → front stop (c ∷ cs) ≡ c ∷ front stop cs
front_more stop c cs quote other = ap (λ n. take n (c ∷ cs)) (outside_more stop c cs quote other)

value_by : (n : ℕ) (c : ℕ) (cs : List ℕ) → cond (ltb (suc n) (length (c ∷ cs))) (Some (drop (suc n + 1) (c ∷ cs))) None ≡ cond (ltb n (length cs)) (Some (drop (n + 1) cs)) None
value_by n c cs =
    let e : suc n + 1 ≡ suc (n + 1) = omega arith in
    let t : ltb (suc n) (suc (length cs)) ≡ ltb n (length cs) = grind (arith, nat_tests) in
    rw (e, t) refl

value_more : (c : ℕ) (cs : List ℕ) → eqb c 34 ≡ false → eqb c 58 ≡ false → value_or_none (c ∷ cs) ≡ value_or_none cs
value_more c cs quote colon =
    ap (λ n. cond (ltb n (length (c ∷ cs))) (Some (drop (n + 1) (c ∷ cs))) None) (outside_more 58 c cs quote colon) ∙ value_by (outside 58 cs) c cs

pieces_more : (c : ℕ) (cs : List ℕ) → eqb c 34 ≡ false → eqb c 59 ≡ false → pieces 59 (c ∷ cs) ≡ onto_first c (pieces 59 cs)
pieces_more c cs quote semicolon = rw (quote, semicolon) refl

-- ---- a name before the text

head_after : (name rest : List ℕ) → list_any is_mark name ≡ false → line_head (name ++ rest) ≡ name ++ line_head rest
head_after [] rest h = refl
head_after (c ∷ name) rest h =
    let parts = or_parts (is_mark c) (list_any is_mark name) h in
    let p = plain c parts.0 in
    front_more 58 c (name ++ rest) p.quote p.colon ∙ ap (λ z. c ∷ z) (head_after name rest parts.1)

value_after : (name rest : List ℕ) → list_any is_mark name ≡ false → value_or_none (name ++ rest) ≡ value_or_none rest
value_after [] rest h = refl
value_after (c ∷ name) rest h =
    let parts = or_parts (is_mark c) (list_any is_mark name) h in
    let p = plain c parts.0 in
    value_more c (name ++ rest) p.quote p.colon ∙ value_after name rest parts.1

pieces_after : (name rest first : List ℕ) (others : List (List ℕ)) → list_any is_mark name ≡ false → pieces 59 rest ≡ first ∷ others → pieces 59 (name ++ rest) ≡ (name ++ first) ∷ others
pieces_after [] rest first others h e = e
pieces_after (c ∷ name) rest first others h e =
    let parts = or_parts (is_mark c) (list_any is_mark name) h in
    let p = plain c parts.0 in
    pieces_more c (name ++ rest) p.quote p.semicolon ∙ ap (onto_first c) (pieces_after name rest first others parts.1 e)

front_after : (name rest : List ℕ) → list_any is_mark name ≡ false → front 59 (name ++ rest) ≡ name ++ front 59 rest
front_after [] rest h = refl
front_after (c ∷ name) rest h =
    let parts = or_parts (is_mark c) (list_any is_mark name) h in
    let p = plain c parts.0 in
    front_more 59 c (name ++ rest) p.quote p.semicolon ∙ ap (λ z. c ∷ z) (front_after name rest parts.1)

-- ---- the line that the name begins

pub colon_name : (text name rest value : List ℕ) → text ≡ name ++ rest → rest ≡ 58 ∷ value → list_any is_mark name ≡ false → name ≡ line_name text
colon_name text name rest value whole is h =
    rw (whole, is, head_after name (58 ∷ value) h, front_after name [] h) (sym (append-nil name))

pub colon_params : (text name rest value : List ℕ) → text ≡ name ++ rest → rest ≡ 58 ∷ value → list_any is_mark name ≡ false → [] ≡ line_params text
colon_params text name rest value whole is h =
    rw (whole, is, head_after name (58 ∷ value) h, pieces_after name [] [] [] h refl) refl

pub colon_value : (text name rest value : List ℕ) → text ≡ name ++ rest → rest ≡ 58 ∷ value → list_any is_mark name ≡ false → Some value ≡ value_or_none text
colon_value text name rest value whole is h =
    let filled : ltb 0 (suc (length value)) ≡ true = grind (arith, nat_tests) in
    rw (whole, is, value_after name (58 ∷ value) h, filled) refl

head_past : (name after : List ℕ) → list_any is_mark name ≡ false → line_head (name ++ 59 ∷ after) ≡ name ++ 59 ∷ line_head after
head_past name after h = head_after name (59 ∷ after) h ∙ ap (λ z. name ++ z) (front_more 58 59 after refl refl)

pub semicolon_name : (text name rest after : List ℕ) → text ≡ name ++ rest → rest ≡ 59 ∷ after → list_any is_mark name ≡ false → name ≡ line_name text
semicolon_name text name rest after whole is h =
    rw (whole, is, head_past name after h, front_after name (59 ∷ line_head after) h) (sym (append-nil name))

pub semicolon_params : (text name rest after : List ℕ) → text ≡ name ++ rest → rest ≡ 59 ∷ after → list_any is_mark name ≡ false → pieces 59 (line_head after) ≡ line_params text
semicolon_params text name rest after whole is h =
    rw (whole, is, head_past name after h, pieces_after name (59 ∷ line_head after) [] (pieces 59 (line_head after)) h refl) refl

value_of : (text : List ℕ) (r : Option (Bor (List ℕ))) → MatchOption r (length text ≤ outside 58 text) (λ x. (outside 58 text < length text) × (x.now ≡ back 58 text)) → option_map (λ x. x.now) r ≡ value_or_none text
value_of text None h = grind (arith, nat_tests)
value_of text (Some x) h = grind (arith, nat_tests)

pub semicolon_value : (text name rest after : List ℕ) (r : Option (Bor (List ℕ))) → text ≡ name ++ rest → rest ≡ 59 ∷ after → list_any is_mark name ≡ false
    → MatchOption r (length after ≤ outside 58 after) (λ x. (outside 58 after < length after) × (x.now ≡ back 58 after)) → option_map (λ x. x.now) r ≡ value_or_none text
semicolon_value text name rest after r whole is h found =
    rw (whole, is, value_after name (59 ∷ after) h, value_more 59 after refl refl) (value_of after r found)

-- ---- any line, cut at its colon and then at the semicolon of its head

pub head_params : (text head name : List ℕ) (r : Option (Bor (List ℕ))) → head ≡ front 58 text → name ≡ front 59 head
    → MatchOption r (length head ≤ outside 59 head) (λ x. (outside 59 head < length head) × (x.now ≡ back 59 head)) → pieces_of 59 (option_map (λ x. x.now) r) ≡ line_params text
head_params text head name r e f g =
    sym (ap (drop 1) (pieces_step 59 head name r f g)) ∙ ap (λ z. drop 1 (pieces 59 z)) e

-- ---- where the first mark is

mark_low : (c : ℕ) → is_mark c ≡ true → c < 128
mark_low c h = grind (arith, nat_tests, h)

pub mark_at : (text : List ℕ) (i : ℕ) → position is_mark text ≡ Some i → IsCharBoundary text i
mark_at text i e =
    let p = position-Some is_mark text i 0 e in
    IsCharBoundary-before_ascii text i p.0 (mark_low (get_or text i 0) p.1)

pub plain_before : (text : List ℕ) (i : ℕ) → position is_mark text ≡ Some i → list_any is_mark (take i text) ≡ false
plain_before text i e =
    let p = position-Some is_mark text i 0 e in
    not_any is_mark (take i text) (λ k l. (let m : k < i = omega (arith, length-take i text) in rw (get_or-take i text k 0 m) (p.2 k m)))

none_by : (b : Bool) (n : ℕ) → cond b (Some n) None ≡ None → b ≡ false
none_by true n e = cc
none_by false n e = refl

pub plain_all : (text : List ℕ) → position is_mark text ≡ None → list_any is_mark text ≡ false
plain_all text e =
    let none = none_by (ltb (position_or_len is_mark text) (length text)) (position_or_len is_mark text) e in
    let all : length text ≤ position_or_len is_mark text = grind (arith, nat_tests) in
    not_any is_mark text (λ k l. fails_before_first is_mark text k 0 (omega arith))
