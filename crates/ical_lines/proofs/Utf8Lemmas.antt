-- A text is UTF-8 exactly where its lines are: LF and CR split no character.
use Rattle.std.proofs.Common.{◌≡◌, inl, inr, map, filter, ℕ, ◌+◌, ◌-◌, ◌<◌, Bool, true, false, cond, eqb, List, [], ◌∷◌, ◌++◌, length, take, drop, get_or, refl, ap, sym, subst, ◌∙◌, arith}
use Rattle.std.specs.Str.{IsUtf8, is_utf8}
use Rattle.std.specs.List.{slice_split, join_with_byte, prefix_len}
use Rattle.std.proofs.lemmas.List.{append_assoc, length-append, get_or_at, take_at, drop_at, drop_more, drop_all, take-append-drop}
use Rattle.std.proofs.lemmas.List.Splits.{join_with_byte-slice_split}
use Rattle.std.proofs.lemmas.Bool.{false_from_ne_true, true≢false}
use Rattle.std.proofs.lemmas.Bool.Decides.{eqb_tells}
use Rattle.std.proofs.lemmas.Str.{IsUtf8-append, IsUtf8-nil, IsUtf8-take, IsUtf8-drop, IsCharBoundary-before_ascii, IsCharBoundary-after_ascii, IsUtf8-from_ascii, IsUtf8-from_is_utf8, is_utf8-from_IsUtf8}
use Rattle.std.proofs.lemmas.Str.Ascii.{IsAscii-cons, IsAscii-nil}
use Rattle.profile.specs.text.Lines.{ended, without_return, physical_lines, is_filled}
use Rattle.ical_lines.specs.Breaks.{is_break, lines_of}
use Rattle.ical_lines.proofs.BreakLemmas.{filled_cons}

-- ---- at an ASCII octet

pub utf8_apart : (xs ys : List ℕ) (c : ℕ) → c < 128 → IsUtf8 (xs ++ c ∷ ys) → IsUtf8 xs × IsUtf8 ys
utf8_apart xs ys c small u =
    let text = xs ++ c ∷ ys in
    let at : get_or text (length xs) 0 ≡ c = get_or_at xs c ys 0 (length xs) refl in
    let inside : length xs < length text = omega (arith, length-append xs (c ∷ ys)) in
    let low : get_or text (length xs) 0 < 128 = omega (arith, at, small) in
    let front = IsUtf8-take text (length xs) u (IsCharBoundary-before_ascii text (length xs) inside low) in
    let back = IsUtf8-drop text (length xs + 1) u (IsCharBoundary-after_ascii text (length xs) u inside low) in
    let size : length (xs ++ c ∷ []) ≡ length xs + 1 = length-append xs (c ∷ []) in
    (subst IsUtf8 (take_at xs (c ∷ ys) (length xs) refl) front, subst IsUtf8 (ap (drop (length xs + 1)) (sym (append_assoc xs (c ∷ []) ys)) ∙ drop_at (xs ++ c ∷ []) ys (length xs + 1) size) back)

pub utf8_joined : (xs ys : List ℕ) (c : ℕ) → c < 128 → IsUtf8 xs → IsUtf8 ys → IsUtf8 (xs ++ c ∷ ys)
utf8_joined xs ys c small u v =
    IsUtf8-append xs (c ∷ ys) u (IsUtf8-append (c ∷ []) ys (IsUtf8-from_ascii (c ∷ []) (IsAscii-cons c [] small IsAscii-nil)) v)

-- ---- the pieces between LFs

abbrev AllUtf8 : List (List ℕ) → Type 0
AllUtf8 [] = Unit
AllUtf8 (line ∷ lines) = IsUtf8 line × AllUtf8 lines

parts_utf8 : (s : List (List ℕ)) → IsUtf8 (join_with_byte 10 s) → AllUtf8 s
parts_utf8 [] u = tt
parts_utf8 (x ∷ []) u = (u, tt)
parts_utf8 (x ∷ y ∷ s) u =
    let p = utf8_apart x (join_with_byte 10 (y ∷ s)) 10 (omega arith) u in (p.0, parts_utf8 (y ∷ s) p.1)

join_utf8 : (s : List (List ℕ)) → AllUtf8 s → IsUtf8 (join_with_byte 10 s)
join_utf8 [] u = IsUtf8-nil
join_utf8 (x ∷ []) u = u.0
join_utf8 (x ∷ y ∷ s) u = utf8_joined x (join_with_byte 10 (y ∷ s)) 10 (omega arith) u.0 (join_utf8 (y ∷ s) u.1)

-- ---- a CR at the end

cut_return : (line : List ℕ) → eqb (get_or line (length line - 1) 0) 13 ≡ true → line ≡ take (length line - 1) line ++ 13 ∷ []
cut_return [] h = absurd (true≢false (sym h))
cut_return (c ∷ cs) h =
    let line = c ∷ cs in
    let n = length line - 1 in
    let last : get_or line n 0 ≡ 13 = elim (eqb_tells (get_or line n 0) 13) [ inl e ↦ e.1 | inr e ↦ absurd (true≢false (sym h ∙ e.0)) ] in
    let end : drop n line ≡ 13 ∷ [] = drop_more line n 0 (omega arith) ∙ (ap (λ z. z ∷ drop (n + 1) line) last ∙ ap (λ z. 13 ∷ z) (drop_all (n + 1) line (omega arith))) in
    sym (take-append-drop n line) ∙ ap (λ z. take n line ++ z) end

without_by : (b : Bool) (line : List ℕ) → eqb (get_or line (length line - 1) 0) 13 ≡ b → IsUtf8 line → IsUtf8 (cond b (take (length line - 1) line) line)
without_by true line e u = (utf8_apart (take (length line - 1) line) [] 13 (omega arith) (subst IsUtf8 (cut_return line e) u)).0
without_by false line e u = u

with_by : (b : Bool) (line : List ℕ) → eqb (get_or line (length line - 1) 0) 13 ≡ b → IsUtf8 (cond b (take (length line - 1) line) line) → IsUtf8 line
with_by true line e u = subst IsUtf8 (sym (cut_return line e)) (utf8_joined (take (length line - 1) line) [] 13 (omega arith) u IsUtf8-nil)
with_by false line e u = u

without_returns : (s : List (List ℕ)) → AllUtf8 s → AllUtf8 (map without_return s)
without_returns [] u = tt
without_returns (x ∷ s) u = (without_by (eqb (get_or x (length x - 1) 0) 13) x refl u.0, without_returns s u.1)

with_returns : (s : List (List ℕ)) → AllUtf8 (map without_return s) → AllUtf8 s
with_returns [] u = tt
with_returns (x ∷ s) u = (with_by (eqb (get_or x (length x - 1) 0) 13) x refl u.0, with_returns s u.1)

-- ---- the empty lines

filled_by : (b : Bool) (x : List ℕ) (s : List (List ℕ)) → IsUtf8 x → AllUtf8 s → AllUtf8 (cond b (x ∷ s) s)
filled_by true x s u v = (u, v)
filled_by false x s u v = v

filled_utf8 : (s : List (List ℕ)) → AllUtf8 s → AllUtf8 (filter is_filled s)
filled_utf8 [] u = tt
filled_utf8 (x ∷ s) u = filled_by (is_filled x) x (filter is_filled s) u.0 (filled_utf8 s u.1)

all_by : (b : Bool) (x : List ℕ) (s : List (List ℕ)) → is_filled x ≡ b → AllUtf8 (cond b (x ∷ s) s) → IsUtf8 x × AllUtf8 s
all_by true x s e u = u
all_by false [] s e u = (IsUtf8-nil, u)
all_by false (c ∷ cs) s e u = absurd (true≢false (sym (filled_cons c cs) ∙ e))

all_utf8 : (s : List (List ℕ)) → AllUtf8 (filter is_filled s) → AllUtf8 s
all_utf8 [] u = tt
all_utf8 (x ∷ s) u =
    let p = all_by (is_filled x) x (filter is_filled s) refl u in (p.0, all_utf8 s p.1)

-- ---- lines that are ended

ended_utf8 : (lines : List (List ℕ)) → AllUtf8 lines → IsUtf8 (ended lines)
ended_utf8 [] u = IsUtf8-nil
ended_utf8 (x ∷ ls) u =
    subst IsUtf8 (sym (append_assoc x (10 ∷ []) (ended ls))) (utf8_joined x (ended ls) 10 (omega arith) u.0 (ended_utf8 ls u.1))

lines_utf8 : (lines : List (List ℕ)) → IsUtf8 (ended lines) → AllUtf8 lines
lines_utf8 [] u = tt
lines_utf8 (x ∷ ls) u =
    let p = utf8_apart x (ended ls) 10 (omega arith) (subst IsUtf8 (append_assoc x (10 ∷ []) (ended ls)) u) in (p.0, lines_utf8 ls p.1)

-- ---- the whole text

pub text_utf8 : (text : List ℕ) (lines : List (List ℕ)) → lines_of text ≡ lines → IsUtf8 text → is_utf8 (ended lines) ≡ true
text_utf8 text lines e u =
    let parts = parts_utf8 (slice_split is_break text) (subst IsUtf8 (sym (join_with_byte-slice_split 10 text)) u) in
    ap (λ ls. is_utf8 (ended ls)) (sym e) ∙ is_utf8-from_IsUtf8 (ended (lines_of text)) (ended_utf8 (lines_of text) (filled_utf8 (physical_lines text) (without_returns (slice_split is_break text) parts)))

pub text_not_utf8 : (text : List ℕ) (lines : List (List ℕ)) → lines_of text ≡ lines → (IsUtf8 text → ⊥) → is_utf8 (ended lines) ≡ false
text_not_utf8 text lines e h =
    let whole : IsUtf8 (ended (lines_of text)) → IsUtf8 text = λ u. subst IsUtf8 (join_with_byte-slice_split 10 text) (join_utf8 (slice_split is_break text) (with_returns (slice_split is_break text) (all_utf8 (physical_lines text) (lines_utf8 (lines_of text) u)))) in
    ap (λ ls. is_utf8 (ended ls)) (sym e) ∙ false_from_ne_true (is_utf8 (ended (lines_of text))) (λ t. h (whole (IsUtf8-from_is_utf8 (ended (lines_of text)) t)))

-- ---- at which line

pub stops_at : (at : ℕ) (text : List ℕ) (lines : List (List ℕ)) → at ≡ 1 + prefix_len is_utf8 (lines_of text) → lines_of text ≡ lines → at ≡ 1 + prefix_len is_utf8 lines
stops_at at text lines e same = e ∙ ap (λ ls. 1 + prefix_len is_utf8 ls) same

-- a line that isn't UTF-8 is filled, and is where the lines stop being it
pub stops_here : (line : List ℕ) (rest : List (List ℕ)) → (IsUtf8 line → ⊥) → prefix_len is_utf8 (filter is_filled (line ∷ rest)) ≡ 0
stops_here [] rest h = absurd (h IsUtf8-nil)
stops_here (c ∷ cs) rest h =
    let filled : is_filled (c ∷ cs) ≡ true = filled_cons c cs in
    let not : is_utf8 (c ∷ cs) ≡ false = false_from_ne_true (is_utf8 (c ∷ cs)) (λ t. h (IsUtf8-from_is_utf8 (c ∷ cs) t)) in
    rw (filled, not) refl

-- one that is and is filled is passed
pub passes_on : (line : List ℕ) (rest : List (List ℕ)) → IsUtf8 line → eqb (length line) 0 ≡ false → prefix_len is_utf8 (filter is_filled (line ∷ rest)) ≡ 1 + prefix_len is_utf8 (filter is_filled rest)
passes_on [] rest u e = absurd (true≢false e)
passes_on (c ∷ cs) rest u e =
    let filled : is_filled (c ∷ cs) ≡ true = filled_cons c cs in
    let is : is_utf8 (c ∷ cs) ≡ true = is_utf8-from_IsUtf8 (c ∷ cs) u in
    rw (filled, is) refl

pub counts_on : (line : List ℕ) (rest : List (List ℕ)) → eqb (length line) 0 ≡ false → length (filter is_filled (line ∷ rest)) ≡ 1 + length (filter is_filled rest)
counts_on [] rest e = absurd (true≢false e)
counts_on (c ∷ cs) rest e = let filled : is_filled (c ∷ cs) ≡ true = filled_cons c cs in rw filled (omega arith)
