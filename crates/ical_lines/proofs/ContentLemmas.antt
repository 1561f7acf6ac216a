-- Content lines that are written one after another read back as those lines.
use Rattle.std.proofs.Common.{◌≡◌, filter, ℕ, zero, suc, ◌+◌, ◌≤◌, ◌<◌, Bool, true, false, not, ◌&&◌, ◌||◌, ◌==◌, eqb, ltb, List, [], ◌∷◌, ◌++◌, length, take, get_or, refl, ap, sym, subst, ◌∙◌, arith}
use Rattle.std.specs.Char.{encode_utf8}
use Rattle.std.specs.Str.{IsUtf8, is_utf8, chars, encode_utf8_all}
use Rattle.std.specs.List.{flat_map, list_any, list_all}
use Rattle.std.proofs.lemmas.List.{append_assoc}
use Rattle.std.proofs.Math.Bool.{and-false}
use Rattle.std.proofs.lemmas.Bool.{true≢false, or_parts, and_parts, not-true, not-false}
use Rattle.std.proofs.lemmas.Bool.Decides.{nat_tests, eqb_tells}
use Rattle.std.proofs.lemmas.Str.{encodes-chars, length-encode, len_utf8_bounds, IsUtf8-append, IsUtf8-nil, IsUtf8-from_ascii, IsUtf8-from_is_utf8, is_utf8-from_IsUtf8}
use Rattle.std.proofs.lemmas.Str.Ascii.{IsAscii-cons, IsAscii-nil}
use Rattle.profile.specs.text.Lines.{fold_break, fold_from, next_column, folded, without_mark, physical_lines, is_continuation, unfolded, is_filled, logical_lines, ended, outside, line_name, is_name, is_name_octet, is_control, has_control, lacks_colon, has_bad_name, has_bad_quote, line_has, is_faulty, is_content, text_has, reads_as_lines}
use Rattle.ical_lines.specs.Breaks.{is_break, is_one_line}
use Rattle.ical_lines.proofs.ReadBackLemmas.{reads_back}
use Rattle.ical_lines.proofs.Utf8Lemmas.{utf8_apart}

-- ---- what a content line has

-- an octet that neither continues the line before it nor begins a byte order mark
abbrev pub is_starter : ℕ → Bool
is_starter c = not (c == 32) && not (c == 9) && not (c == 0xEF)

starter : (c : ℕ) → is_name_octet c ≡ true → is_starter c ≡ true
starter c h = grind (arith, nat_tests, eqb_tells)

-- what a name that is cut from the front of a line begins with
name_first : (a b c : ℕ) (cs : List ℕ) → is_name (take a (take b (c ∷ cs))) ≡ true → is_name_octet c ≡ true
name_first zero b c cs h = cc
name_first (suc a) zero c cs h = cc
name_first (suc a) (suc b) c cs h =
    let front = c ∷ take a (take b cs) in
    (and_parts (is_name_octet c) (list_all is_name_octet (take a (take b cs))) (and_parts (is_filled front) (list_all is_name_octet front) h).1).0

control_break : (c : ℕ) → is_control c ≡ false → is_break c ≡ false
control_break c h = grind (arith, nat_tests, eqb_tells)

no_break : (line : List ℕ) → list_any is_control line ≡ false → list_any is_break line ≡ false
no_break [] h = refl
no_break (c ∷ cs) h =
    let first = control_break c (or_parts (is_control c) (list_any is_control cs) h).0 in
    rw (first, no_break cs (or_parts (is_control c) (list_any is_control cs) h).1) refl

pub record Content (line : List ℕ) : Type 0 where
  pub fine : is_faulty line ≡ false
  pub named : is_name (line_name line) ≡ true
  pub whole : is_one_line line ≡ true
  pub utf8 : IsUtf8 line

pub content : (line : List ℕ) → is_content line ≡ true → Content line
content line h =
    let parts = and_parts (not (is_faulty line)) (is_utf8 line) h in
    let fine = not-true (is_faulty line) parts.0 in
    let a = lacks_colon line in
    let b = has_bad_name line in
    let q = has_bad_quote line in
    let control : has_control line ≡ false = (or_parts (a || b || q) (has_control line) fine).1 in
    let front : (a || b || q) ≡ false = (or_parts (a || b || q) (has_control line) fine).0 in
    let name : b ≡ false = (or_parts a b (or_parts (a || b) q front).0).1 in
    record {
      fine = fine;
      named = not-false (is_name (line_name line)) (or_parts (not (is_name (line_name line))) _ name).0;
      whole = rw (no_break line control) refl;
      utf8 = IsUtf8-from_is_utf8 line parts.1;
    }

-- ---- how a written line begins

append_first : (xs ys : List ℕ) → 0 < length xs → get_or (xs ++ ys) 0 0 ≡ get_or xs 0 0
append_first [] ys h = absurd (omega arith)
append_first (x ∷ xs) ys h = refl

no_first_break : (c : ℕ) → fold_break 0 c ≡ []
no_first_break c =
    let small : ltb 75 (0 + length (encode_utf8 c)) ≡ false = (let b = len_utf8_bounds c in let l : length (encode_utf8 c) ≤ 4 = omega (arith, length-encode c, b.1) in grind (arith, nat_tests)) in
    rw small refl

encode_first : (c : ℕ) (ys : List ℕ) → get_or (encode_utf8 c ++ ys) 0 0 ≡ get_or (encode_utf8 c) 0 0
encode_first c ys =
    let b = len_utf8_bounds c in append_first (encode_utf8 c) ys (omega (arith, length-encode c, b.0))

fold_first : (c : ℕ) (cs tail : List ℕ) → get_or (fold_from 0 (c ∷ cs) ++ tail) 0 0 ≡ get_or (encode_utf8_all (c ∷ cs)) 0 0
fold_first c cs tail =
    let rest = fold_from (next_column 0 c) cs in
    let bare : fold_from 0 (c ∷ cs) ≡ encode_utf8 c ++ rest = ap (λ z. z ++ encode_utf8 c ++ rest) (no_first_break c) in
    ap (λ z. get_or (z ++ tail) 0 0) bare ∙ (ap (λ z. get_or z 0 0) (append_assoc (encode_utf8 c) rest tail) ∙ (encode_first c (rest ++ tail) ∙ sym (encode_first c (encode_utf8_all cs))))

folds_first : (cs tail : List ℕ) → 0 < length (encode_utf8_all cs) → get_or (fold_from 0 cs ++ tail) 0 0 ≡ get_or (encode_utf8_all cs) 0 0
folds_first [] tail h = absurd (omega arith)
folds_first (c ∷ cs) tail h = fold_first c cs tail

-- a written line begins with the first octet of the line
folded_first : (c : ℕ) (cs rest : List ℕ) → IsUtf8 (c ∷ cs) → get_or (folded (c ∷ cs) ++ rest) 0 0 ≡ c
folded_first c cs rest u =
    let e : encode_utf8_all (chars (c ∷ cs)) ≡ c ∷ cs = encodes-chars (c ∷ cs) u in
    ap (λ z. get_or z 0 0) (append_assoc (fold_from 0 (chars (c ∷ cs))) (13 ∷ 10 ∷ []) rest) ∙ (folds_first (chars (c ∷ cs)) (13 ∷ 10 ∷ rest) (omega (arith, ap length e)) ∙ ap (λ z. get_or z 0 0) e)

starts : (line rest : List ℕ) → Content line → is_starter (get_or (folded line ++ rest) 0 0) ≡ true
starts [] rest h = (let n = h.named in cc)
starts (c ∷ cs) rest h =
    rw (folded_first c cs rest h.utf8) (starter c (name_first (outside 59 (take (outside 58 (c ∷ cs)) (c ∷ cs))) (outside 58 (c ∷ cs)) c cs h.named))

starter_continues : (octets : List ℕ) → is_starter (get_or octets 0 0) ≡ true → is_continuation octets ≡ false
starter_continues octets h = grind (arith, nat_tests)

starter_unmarked : (octets : List ℕ) → is_starter (get_or octets 0 0) ≡ true → without_mark octets ≡ octets
starter_unmarked [] h = refl
starter_unmarked (o ∷ os) h =
    let no : eqb o 0xEF ≡ false = grind (arith, nat_tests) in rw no refl

-- ---- lines that are written one after another

first_starts : (lines : List (List ℕ)) → list_all is_content lines ≡ true → is_starter (get_or (flat_map folded lines) 0 0) ≡ true
first_starts [] h = refl
first_starts (x ∷ ls) h =
    let parts = and_parts (is_content x) (list_all is_content ls) h in starts x (flat_map folded ls) (content x parts.0)

unfolded_back : (lines : List (List ℕ)) → list_all is_content lines ≡ true → unfolded (physical_lines (flat_map folded lines)) ≡ lines ++ [] ∷ []
unfolded_back [] h = refl
unfolded_back (x ∷ ls) h =
    let parts = and_parts (is_content x) (list_all is_content ls) h in
    let line = content x parts.0 in
    reads_back x (flat_map folded ls) line.utf8 line.whole (starter_continues (flat_map folded ls) (first_starts ls parts.1)) ∙ ap (λ z. x ∷ z) (unfolded_back ls parts.1)

filled : (line : List ℕ) → Content line → is_filled line ≡ true
filled [] h = (let n = h.named in cc)
filled (c ∷ cs) h = grind (arith, nat_tests)

filter_filled : (lines : List (List ℕ)) → list_all is_content lines ≡ true → filter is_filled (lines ++ [] ∷ []) ≡ lines
filter_filled [] h = refl
filter_filled (x ∷ ls) h =
    let parts = and_parts (is_content x) (list_all is_content ls) h in
    let some = filled x (content x parts.0) in
    rw some (ap (λ z. x ∷ z) (filter_filled ls parts.1))

pub lines_back : (lines : List (List ℕ)) → list_all is_content lines ≡ true → logical_lines (flat_map folded lines) ≡ lines
lines_back lines h =
    ap (λ z. filter is_filled (unfolded (physical_lines z))) (starter_unmarked (flat_map folded lines) (first_starts lines h)) ∙ (ap (filter is_filled) (unfolded_back lines h) ∙ filter_filled lines h)

none_faulty : (lines : List (List ℕ)) → list_all is_content lines ≡ true → list_any is_faulty lines ≡ false
none_faulty [] h = refl
none_faulty (x ∷ ls) h =
    let parts = and_parts (is_content x) (list_all is_content ls) h in
    let line = content x parts.0 in
    rw (line.fine, none_faulty ls parts.1) refl

ended_utf8 : (lines : List (List ℕ)) → list_all is_content lines ≡ true → IsUtf8 (ended lines)
ended_utf8 [] h = IsUtf8-nil
ended_utf8 (x ∷ ls) h =
    let parts = and_parts (is_content x) (list_all is_content ls) h in
    let line = content x parts.0 in
    IsUtf8-append (x ++ 10 ∷ []) (ended ls) (IsUtf8-append x (10 ∷ []) line.utf8 (IsUtf8-from_ascii (10 ∷ []) (IsAscii-cons 10 [] (omega arith) IsAscii-nil))) (ended_utf8 ls parts.1)

pub lines_fine : (lines : List (List ℕ)) → list_all is_content lines ≡ true → reads_as_lines false (flat_map folded lines) ≡ true
lines_fine lines h =
    let back = lines_back lines h in
    let none = none_faulty lines h in
    let utf8 = is_utf8-from_IsUtf8 (ended lines) (ended_utf8 lines h) in
    rw (back, none, utf8) refl

-- ---- the lines of octets that read as lines

cut_at_end : (line rest : List ℕ) → IsUtf8 ((line ++ 10 ∷ []) ++ rest) → IsUtf8 line × IsUtf8 rest
cut_at_end line rest u = utf8_apart line rest 10 (omega arith) (subst IsUtf8 (append_assoc line (10 ∷ []) rest) u)

all_content : (lines : List (List ℕ)) → list_any is_faulty lines ≡ false → IsUtf8 (ended lines) → list_all is_content lines ≡ true
all_content [] f u = refl
all_content (x ∷ ls) f u =
    let cut = cut_at_end x (ended ls) u in
    let first : is_faulty x ≡ false = (or_parts (is_faulty x) (list_any is_faulty ls) f).0 in
    let utf8 : is_utf8 x ≡ true = is_utf8-from_IsUtf8 x cut.0 in
    rw (first, utf8, all_content ls (or_parts (is_faulty x) (list_any is_faulty ls) f).1 cut.1) refl

-- what it says of octets that they read as lines
pub record Reads (bounded : Bool) (octets : List ℕ) : Type 0 where
  pub faultless : list_any is_faulty (logical_lines octets) ≡ false
  pub utf8 : is_utf8 (ended (logical_lines octets)) ≡ true
  pub small : (bounded && (ltb 1048576 (length octets) || ltb 65536 (length (logical_lines octets)))) ≡ false

reads_parts : (bounded : Bool) (octets : List ℕ) → reads_as_lines bounded octets ≡ true → Reads bounded octets
reads_parts bounded octets h =
    let faulty = list_any is_faulty (logical_lines octets) in
    let utf8 = is_utf8 (ended (logical_lines octets)) in
    let large = bounded && (ltb 1048576 (length octets) || ltb 65536 (length (logical_lines octets))) in
    let outer = and_parts (not faulty && utf8) (not large) h in
    let inner = and_parts (not faulty) utf8 outer.0 in
    record { faultless = not-true faulty inner.0; utf8 = inner.1; small = not-true large outer.1 }

pub read_content : (bounded : Bool) (octets : List ℕ) → reads_as_lines bounded octets ≡ true → list_all is_content (logical_lines octets) ≡ true
read_content bounded octets h =
    let r = reads_parts bounded octets h in
    all_content (logical_lines octets) r.faultless (IsUtf8-from_is_utf8 (ended (logical_lines octets)) r.utf8)

no_fault_by : (i j k l a b q c : Bool) → (a || b || q || c) ≡ false → ((i && a) || (j && b) || (k && q) || (l && c)) ≡ false
no_fault_by i j k l true b q c h = absurd (true≢false h)
no_fault_by i j k l false true q c h = absurd (true≢false h)
no_fault_by i j k l false false true c h = absurd (true≢false h)
no_fault_by i j k l false false false true h = absurd (true≢false h)
no_fault_by i j k l false false false false h = rw (and-false i, and-false j, and-false k, and-false l) refl

none_has : (number : ℕ) (lines : List (List ℕ)) → list_any is_faulty lines ≡ false → list_any (line_has number) lines ≡ false
none_has number [] h = refl
none_has number (x ∷ ls) h =
    let first : line_has number x ≡ false = no_fault_by (eqb number 1) (eqb number 2) (eqb number 3) (eqb number 4) (lacks_colon x) (has_bad_name x) (has_bad_quote x) (has_control x) (or_parts (is_faulty x) (list_any is_faulty ls) h).0 in
    rw (first, none_has number ls (or_parts (is_faulty x) (list_any is_faulty ls) h).1) refl

pub read_fine : (bounded : Bool) (octets : List ℕ) (number : ℕ) → reads_as_lines bounded octets ≡ true → text_has bounded number octets ≡ false
read_fine bounded octets number h =
    let r = reads_parts bounded octets h in
    let none = none_has number (logical_lines octets) r.faultless in
    rw (none, r.utf8, r.small, and-false (eqb number 5), and-false (eqb number 6)) refl
