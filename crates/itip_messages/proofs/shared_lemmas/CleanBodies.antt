-- Lines that are ended by CRLF read as those lines, and are text.
-- Behind ascending of body, canonical_body of body, write_list of body, write_others of body, write_rule of body, write_start of body and 12 more.
use Rattle.std.proofs.Common.{◌+◌, cond, nat_lt, append-nil, ◌≡◌, ◌∙◌, ℕ, zero, suc, ◌-◌, ◌<◌, Bool, true, false, not, List, [], ◌∷◌, ◌++◌, take, codes, refl, sym, ap, length, get_or, arith, append_assoc}
use Rattle.std.specs.Prelude.{◌==◌}
use Rattle.std.specs.List.{list_all, list_any, slice_split}
use Rattle.std.specs.Str.{IsUtf8, chars}
use Rattle.std.specs.Str.Lines.{lines, lines_of_parts, strip_carriage_return}
use Rattle.std.proofs.lemmas.Bool.{and_parts, and_from, not-true, or_parts}
use Rattle.std.proofs.lemmas.Bool.Decides.{nat_tests}
use Rattle.std.proofs.lemmas.List.{take_at, get_or_at, length_push}
use Rattle.std.proofs.lemmas.List.Folds.{list_all-append}
use Rattle.std.proofs.lemmas.List.Splits.{slice_split_at, length-slice_split}
use Rattle.std.proofs.lemmas.Str.{IsUtf8-append, IsUtf8-from_ascii, scalars-chars}
use Rattle.std.proofs.lemmas.Str.Ascii.{IsAscii-cons, IsAscii-nil}
use Rattle.std.specs.Char.{encode_utf8}
use lib.Utf8.{scalars}
use Rattle.profile.specs.text.Lines.{is_control, fold_break, fold_from, next_column, folded, written}
use Rattle.ical_lines.proofs.CleanLines.{IsClean, is_shown, clean_shown}
use Rattle.itip_messages.specs.Body.{crlf_lines}

abbrev pub Lines : Type 0
Lines = List (List ℕ)

-- each line is UTF-8, without control octets
abbrev pub AreClean : Lines → Type 0
AreClean [] = Unit {0}
AreClean (line ∷ others) = IsClean line × AreClean others

pub clean_take : (n : ℕ) (a : Lines) → AreClean a → AreClean (take n a)
clean_take zero a p = tt
clean_take (suc n) [] p = tt
clean_take (suc n) (line ∷ a) p = (p.0, clean_take n a p.1)

pub clean_each_shown : (a : Lines) → list_all (list_all is_shown) a ≡ true → AreClean a
clean_each_shown [] h = tt
clean_each_shown (line ∷ a) h = let both = and_parts (list_all is_shown line) (list_all (list_all is_shown) a) h in (clean_shown line both.0, clean_each_shown a both.1)

-- ---- lines that are ended by CRLF

-- the line has no LF
abbrev is_unbroken : List ℕ → Bool
is_unbroken line = list_all (λ c. not (c == 10)) line

strip_return : (line : List ℕ) → strip_carriage_return (line ++ 13 ∷ []) ≡ line
strip_return line =
    let n : length (line ++ 13 ∷ []) - 1 ≡ length line = omega (arith, length_push line 13) in
    let last : get_or (line ++ 13 ∷ []) (length line) 0 ≡ 13 = get_or_at line 13 [] 0 (length line) refl in
    rw (n, last) (take_at line (13 ∷ []) (length line) refl)

abbrev is_lf : ℕ → Bool
is_lf c = c == 10

unbroken_at : (line : List ℕ) → is_unbroken line ≡ true → (k d : ℕ) → k < length line → is_lf (get_or line k d) ≡ false
unbroken_at [] h k d l = absurd (omega (arith, l))
unbroken_at (c ∷ cs) h zero d l = not-true _ (and_parts _ _ h).0
unbroken_at (c ∷ cs) h (suc k) d l = unbroken_at cs (and_parts _ _ h).1 k d (omega (arith, l))

unbroken_both : (xs ys : List ℕ) → is_unbroken xs ≡ true → is_unbroken ys ≡ true → is_unbroken (xs ++ ys) ≡ true
unbroken_both xs ys h k = list_all-append (λ c. not (c == 10)) xs ys ∙ and_from _ _ h k

one_part : (line rest : List ℕ) → is_unbroken line ≡ true → slice_split is_lf ((line ++ codes "\r\n") ++ rest) ≡ (line ++ 13 ∷ []) ∷ slice_split is_lf rest
one_part line rest h =
    ap (slice_split is_lf) (append_assoc line (13 ∷ 10 ∷ []) rest ∙ sym (append_assoc line (13 ∷ []) (10 ∷ rest)))
    ∙ slice_split_at is_lf (line ++ 13 ∷ []) 10 rest (unbroken_at (line ++ 13 ∷ []) (unbroken_both line (13 ∷ []) h refl)) refl

first_line : (x : List ℕ) (parts : List (List ℕ)) → 0 < length parts → lines_of_parts (x ∷ parts) ≡ strip_carriage_return x ∷ lines_of_parts parts
first_line x [] h = absurd (omega (arith, h))
first_line x (y ∷ more) h = refl

no_lf : (c : ℕ) → is_control c ≡ false → not (c == 10) ≡ true
no_lf c h = grind (arith, nat_tests)

calm_unbroken : (text : List ℕ) → list_any is_control text ≡ false → is_unbroken text ≡ true
calm_unbroken [] h = refl
calm_unbroken (c ∷ cs) h = let both = or_parts (is_control c) (list_any is_control cs) h in and_from _ _ (no_lf c both.0) (calm_unbroken cs both.1)

-- the octets are read as those lines
pub lines_ended : (body : Lines) → AreClean body → lines (crlf_lines body) ≡ body
lines_ended [] h = refl
lines_ended (line ∷ more) h =
    ap lines_of_parts (one_part line (crlf_lines more) (calm_unbroken line h.0.calm))
    ∙ first_line (line ++ 13 ∷ []) (slice_split is_lf (crlf_lines more)) (omega (arith, length-slice_split is_lf (crlf_lines more)))
    ∙ (λ i. strip_return line i ∷ lines_ended more h.1 i)

crlf_utf8 : IsUtf8 (codes "\r\n")
crlf_utf8 = IsUtf8-from_ascii (codes "\r\n") (IsAscii-cons 13 (10 ∷ []) (omega arith) (IsAscii-cons 10 [] (omega arith) IsAscii-nil))

-- and are text
pub utf8_ended : (body : Lines) → AreClean body → IsUtf8 (crlf_lines body)
utf8_ended [] h = IsUtf8-from_ascii [] IsAscii-nil
utf8_ended (line ∷ more) h =
    IsUtf8-append (line ++ codes "\r\n") (crlf_lines more) (IsUtf8-append line (codes "\r\n") h.0.utf8 crlf_utf8) (utf8_ended more h.1)

-- the octets of some lines are text, and their lines are those
pub record IsBodyOf (content : Lines) (octets : List ℕ) : Type 0 where
  pub read : lines octets ≡ content
  pub utf8 : IsUtf8 octets

pub body_ended : (body : Lines) → AreClean body → IsBodyOf body (crlf_lines body)
body_ended body h = record { read = lines_ended body h; utf8 = utf8_ended body h }

pub crlf_both : (a b : Lines) → crlf_lines (a ++ b) ≡ crlf_lines a ++ crlf_lines b
crlf_both [] b = refl
crlf_both (line ∷ a) b = ap (λ x. (line ++ codes "\r\n") ++ x) (crlf_both a b) ∙ sym (append_assoc (line ++ codes "\r\n") (crlf_lines a) (crlf_lines b))

-- ---- lines as they are written

fold_utf8 : (column : ℕ) (cs : List ℕ) → scalars cs ≡ true → IsUtf8 (fold_from column cs)
fold_utf8 column [] h = IsUtf8-from_ascii [] IsAscii-nil
fold_utf8 column (c ∷ cs) h =
    let both = and_parts _ (scalars cs) h in
    let one : IsUtf8 (encode_utf8 c) = ((c ∷ []), (and_from _ _ both.0 refl, append-nil (encode_utf8 c))) in
    IsUtf8-append (fold_break column c ++ encode_utf8 c) (fold_from (next_column column c) cs) (IsUtf8-append (fold_break column c) (encode_utf8 c) (break_by (nat_lt 75 (column + length (encode_utf8 c)))) one) (fold_utf8 (next_column column c) cs both.1)
  where
    break_by : (b : Bool) → IsUtf8 (cond b (13 ∷ 10 ∷ 32 ∷ []) [])
    break_by true = IsUtf8-from_ascii (13 ∷ 10 ∷ 32 ∷ []) (IsAscii-cons 13 (10 ∷ 32 ∷ []) (omega arith) (IsAscii-cons 10 (32 ∷ []) (omega arith) (IsAscii-cons 32 [] (omega arith) IsAscii-nil)))
    break_by false = IsUtf8-from_ascii [] IsAscii-nil

pub folded_utf8 : (line : List ℕ) → IsUtf8 line → IsUtf8 (folded line)
folded_utf8 line h = IsUtf8-append (fold_from 0 (chars line)) (codes "\r\n") (fold_utf8 0 (chars line) (scalars-chars line h)) crlf_utf8

pub written_utf8 : (lines : Lines) → AreClean lines → IsUtf8 (written lines)
written_utf8 [] h = IsUtf8-from_ascii [] IsAscii-nil
written_utf8 (line ∷ more) h = IsUtf8-append (folded line) (written more) (folded_utf8 line h.0.utf8) (written_utf8 more h.1)
