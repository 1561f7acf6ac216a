-- A folded line unfolds to itself, whatever line follows.
use Rattle.std.proofs.Common.{◌≡◌, map, ℕ, ◌+◌, ◌-◌, ◌≤◌, Bool, true, false, ◌&&◌, cond, eqb, ltb, List, [], ◌∷◌, ◌++◌, length, take, drop, get_or, refl, ap, sym, ◌∙◌, arith}
use Rattle.std.specs.Char.{encode_utf8}
use Rattle.std.specs.Str.{IsUtf8, chars, encode_utf8_all}
use Rattle.std.specs.List.{slice_split, onto_first, list_any, list_all}
use Rattle.std.proofs.lemmas.List.{append_assoc, append-nil, take_at, get_or_at, length_push, length-append}
use Rattle.std.proofs.lemmas.List.Splits.{slice_split_at}
use Rattle.std.proofs.lemmas.List.Folds.{list_any-append, list_all-append}
use Rattle.std.proofs.lemmas.Bool.Decides.{nat_tests}
use Rattle.std.proofs.lemmas.Str.{encodes-chars, length-encode, len_utf8_bounds, IsUtf8-append, IsUtf8-from_ascii}
use Rattle.std.proofs.lemmas.Str.Ascii.{IsAscii-cons, IsAscii-nil}
use Rattle.std.proofs.lemmas.Bool.{or_parts, not-true}
use Rattle.profile.specs.text.Lines.{fold_from, folded, without_return, physical_lines, is_continuation, gather, unfolded, is_short}
use Rattle.ical_lines.specs.Breaks.{is_break, is_one_line}
use Rattle.ical_lines.proofs.BreakLemmas.{none_at, any_append}

-- the physical lines that a folded rest of a line adds to: `front` ends the one that has begun, `others` follow it
record Shape (octets begun text : List ℕ) (after : List (List ℕ)) : Type 0 where
  front : List ℕ
  back : List ℕ
  others : List (List ℕ)
  parts : physical_lines octets ≡ (begun ++ front) ∷ (others ++ after)
  joins : (line : List ℕ) → gather line (others ++ after) ≡ (line ++ back) ∷ unfolded after
  whole : front ++ back ≡ text
  short : is_short (begun ++ front) ≡ true
  shorts : list_all is_short others ≡ true

pub without-return : (q : List ℕ) → without_return (q ++ 13 ∷ []) ≡ q
without-return q =
    let n : length (q ++ 13 ∷ []) - 1 ≡ length q = omega (arith, length_push q 13) in
    let last : get_or (q ++ 13 ∷ []) (length q) 0 ≡ 13 = get_or_at q 13 [] 0 (length q) refl in
    rw (n, last) (take_at q (13 ∷ []) (length q) refl)

one_break : (q : List ℕ) → list_any is_break q ≡ false → list_any is_break (q ++ 13 ∷ []) ≡ false
one_break q h = rw (list_any-append is_break q (13 ∷ []), h) refl

pub ends_line : (q tail : List ℕ) → list_any is_break q ≡ false → physical_lines (q ++ 13 ∷ 10 ∷ tail) ≡ q ∷ physical_lines tail
ends_line q tail h =
    ap (map without_return) (ap (slice_split is_break) (sym (append_assoc q (13 ∷ []) (10 ∷ tail))) ∙ slice_split_at is_break (q ++ 13 ∷ []) 10 tail (none_at is_break (q ++ 13 ∷ []) (one_break q h)) refl) ∙ ap (λ z. z ∷ physical_lines tail) (without-return q)

fits_short : (q : List ℕ) → length q ≤ 75 → is_short (q ++ []) ≡ true
fits_short q l =
    let n : length (q ++ []) ≤ 75 = rw append-nil l in grind (arith, nat_tests)

shape_none : (q tail : List ℕ) → list_any is_break q ≡ false → length q ≤ 75 → ((line : List ℕ) → gather line (physical_lines tail) ≡ line ∷ unfolded (physical_lines tail)) → Shape (q ++ ([] ++ 13 ∷ 10 ∷ tail)) q [] (physical_lines tail)
shape_none q tail h l j = record {
  front = [];
  back = [];
  others = [];
  parts = ends_line q tail h ∙ ap (λ z. z ∷ physical_lines tail) (sym (append-nil q));
  joins = λ line. j line ∙ ap (λ z. z ∷ unfolded (physical_lines tail)) (sym (append-nil line));
  whole = refl;
  short = fits_short q l;
  shorts = refl;
}

shape_more : (q e f end text : List ℕ) (after : List (List ℕ)) → Shape ((q ++ e) ++ (f ++ end)) (q ++ e) text after → Shape (q ++ ((e ++ f) ++ end)) q (e ++ text) after
shape_more q e f end text after s = record {
  front = e ++ s.front;
  back = s.back;
  others = s.others;
  parts = ap physical_lines (ap (λ z. q ++ z) (append_assoc e f end) ∙ sym (append_assoc q e (f ++ end))) ∙ (s.parts ∙ ap (λ z. z ∷ (s.others ++ after)) (append_assoc q e s.front));
  joins = s.joins;
  whole = append_assoc e s.front s.back ∙ ap (λ z. e ++ z) s.whole;
  short = ap is_short (sym (append_assoc q e s.front)) ∙ s.short;
  shorts = s.shorts;
}

shape_break : (q e f end text : List ℕ) (after : List (List ℕ)) → list_any is_break q ≡ false → length q ≤ 75 → Shape ((32 ∷ e) ++ (f ++ end)) (32 ∷ e) text after → Shape (q ++ (((13 ∷ 10 ∷ 32 ∷ []) ++ e ++ f) ++ end)) q (e ++ text) after
shape_break q e f end text after h l s = record {
  front = [];
  back = e ++ text;
  others = (32 ∷ (e ++ s.front)) ∷ s.others;
  parts = ends_line q (32 ∷ ((e ++ f) ++ end)) h ∙ (ap (λ z. q ∷ physical_lines (32 ∷ z)) (append_assoc e f end) ∙ (ap (λ z. q ∷ z) s.parts ∙ ap (λ z. z ∷ ((32 ∷ (e ++ s.front)) ∷ (s.others ++ after))) (sym (append-nil q))));
  joins = λ line. s.joins (line ++ (e ++ s.front)) ∙ ap (λ z. z ∷ unfolded after) (append_assoc line (e ++ s.front) s.back ∙ ap (λ z. line ++ z) (append_assoc e s.front s.back ∙ ap (λ z. e ++ z) s.whole));
  whole = refl;
  short = fits_short q l;
  shorts = ap (λ b. b && list_all is_short s.others) s.short ∙ s.shorts;
}

shape_by : (b : Bool) (q e end text : List ℕ) (after : List (List ℕ)) (col : ℕ) (cs : List ℕ) → list_any is_break q ≡ false → length q ≤ 75 → (b ≡ false → Shape ((q ++ e) ++ (fold_from (col + length e) cs ++ end)) (q ++ e) text after) → Shape ((32 ∷ e) ++ (fold_from (1 + length e) cs ++ end)) (32 ∷ e) text after → Shape (q ++ ((cond b (13 ∷ 10 ∷ 32 ∷ []) [] ++ e ++ fold_from (cond b 1 col + length e) cs) ++ end)) q (e ++ text) after
shape_by true q e end text after col cs h l more break = shape_break q e (fold_from (1 + length e) cs) end text after h l break
shape_by false q e end text after col cs h l more break = shape_more q e (fold_from (col + length e) cs) end text after (more refl)

size_of : (c : ℕ) → length (encode_utf8 c) ≤ 4
size_of c = let b = len_utf8_bounds c in omega (arith, length-encode c, b.1)

first_free : (xs ys : List ℕ) → list_any is_break (xs ++ ys) ≡ false → (list_any is_break xs ≡ false) × (list_any is_break ys ≡ false)
first_free xs ys h =
    let e = sym (list_any-append is_break xs ys) ∙ h in
    or_parts (list_any is_break xs) (list_any is_break ys) e

not_past : (a b : ℕ) → ltb 75 (a + b) ≡ false → a + b ≤ 75
not_past a b h = grind (arith, nat_tests)

shape : (cs q tail : List ℕ) (col : ℕ) → list_any is_break (encode_utf8_all cs) ≡ false → list_any is_break q ≡ false → col ≡ length q → col ≤ 75 → ((line : List ℕ) → gather line (physical_lines tail) ≡ line ∷ unfolded (physical_lines tail)) → Shape (q ++ (fold_from col cs ++ 13 ∷ 10 ∷ tail)) q (encode_utf8_all cs) (physical_lines tail)
shape [] q tail col h k e l j = shape_none q tail k (omega arith) j
shape (c ∷ cs) q tail col h k e l j =
    let free = first_free (encode_utf8 c) (encode_utf8_all cs) h in
    let size = size_of c in
    shape_by (ltb 75 (col + length (encode_utf8 c))) q (encode_utf8 c) (13 ∷ 10 ∷ tail) (encode_utf8_all cs) (physical_lines tail) col cs k (omega arith) (λ no. shape cs (q ++ encode_utf8 c) tail (col + length (encode_utf8 c)) free.1 (any_append q (encode_utf8 c) k free.0) (omega (arith, length-append q (encode_utf8 c), e)) (not_past col (length (encode_utf8 c)) no) j) (shape cs (32 ∷ encode_utf8 c) tail (1 + length (encode_utf8 c)) free.1 free.0 (omega arith) (omega arith) j)

-- ---- the line that follows

return_starts : (b : Bool) (c : ℕ) (part : List ℕ) → is_continuation (c ∷ []) ≡ false → is_continuation (cond b (take (length part) (c ∷ part)) (c ∷ part)) ≡ false
return_starts true c [] h = refl
return_starts true c (x ∷ part) h = h
return_starts false c part h = h

line_starts : (c : ℕ) (part : List ℕ) → is_continuation (c ∷ []) ≡ false → is_continuation (without_return (c ∷ part)) ≡ false
line_starts c part h =
    let n : length (c ∷ part) - 1 ≡ length part = omega arith in
    rw n (return_starts (eqb (get_or (c ∷ part) (length part) 0) 13) c part h)

begins_line : (line w : List ℕ) (others : List (List ℕ)) → is_continuation w ≡ false → gather line (w ∷ others) ≡ line ∷ unfolded (w ∷ others)
begins_line line w others h = ap (λ b. cond b (gather (line ++ drop 1 w) others) (line ∷ gather w others)) h

starts_by : (b : Bool) (c : ℕ) (parts : List (List ℕ)) (line : List ℕ) → is_continuation (c ∷ []) ≡ false → gather line (map without_return (cond b ([] ∷ parts) (onto_first c parts))) ≡ line ∷ unfolded (map without_return (cond b ([] ∷ parts) (onto_first c parts)))
starts_by true c parts line h = refl
starts_by false c [] line h = begins_line line (without_return (c ∷ [])) [] (line_starts c [] h)
starts_by false c (part ∷ parts) line h = begins_line line (without_return (c ∷ part)) (map without_return parts) (line_starts c part h)

pub next_starts : (rest : List ℕ) → is_continuation rest ≡ false → (line : List ℕ) → gather line (physical_lines rest) ≡ line ∷ unfolded (physical_lines rest)
next_starts [] h line = refl
next_starts (c ∷ cs) h line = starts_by (is_break c) c (slice_split is_break cs) line h

-- ---- a written line

shape_of : (text rest : List ℕ) → IsUtf8 text → is_one_line text ≡ true → is_continuation rest ≡ false → Shape (fold_from 0 (chars text) ++ 13 ∷ 10 ∷ rest) [] (encode_utf8_all (chars text)) (physical_lines rest)
shape_of text rest u h k =
    let none : list_any is_break (encode_utf8_all (chars text)) ≡ false = ap (list_any is_break) (encodes-chars text u) ∙ not-true (list_any is_break text) h in
    shape (chars text) [] rest 0 none refl refl (omega arith) (next_starts rest k)

pub reads_back : (text rest : List ℕ) → IsUtf8 text → is_one_line text ≡ true → is_continuation rest ≡ false → unfolded (physical_lines (folded text ++ rest)) ≡ text ∷ unfolded (physical_lines rest)
reads_back text rest u h k =
    let s = shape_of text rest u h k in
    ap (λ z. unfolded (physical_lines z)) (append_assoc (fold_from 0 (chars text)) (13 ∷ 10 ∷ []) rest) ∙ (ap unfolded s.parts ∙ (s.joins s.front ∙ ap (λ z. z ∷ unfolded (physical_lines rest)) (s.whole ∙ encodes-chars text u)))

pub short_lines : (text : List ℕ) → IsUtf8 text → is_one_line text ≡ true → list_all is_short (physical_lines (folded text)) ≡ true
short_lines text u h =
    let s = shape_of text [] u h refl in
    let rest : list_all is_short (s.others ++ [] ∷ []) ≡ true = rw (list_all-append is_short s.others ([] ∷ []), s.shorts) refl in
    ap (list_all is_short) s.parts ∙ (ap (λ b. b && list_all is_short (s.others ++ [] ∷ [])) s.short ∙ rest)

pub property_utf8 : (name value : List ℕ) → IsUtf8 name → IsUtf8 value → IsUtf8 (name ++ 58 ∷ value)
property_utf8 name value u v = IsUtf8-append name (58 ∷ value) u (IsUtf8-append (58 ∷ []) value (IsUtf8-from_ascii (58 ∷ []) (IsAscii-cons 58 [] (omega arith) IsAscii-nil)) v)
