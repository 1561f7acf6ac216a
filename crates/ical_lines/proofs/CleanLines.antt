-- Texts that may be in a line: no control octet, and UTF-8. Lines that are written from them are content lines.
use Rattle.std.proofs.Common.{◌≡◌, ◌∙◌, ℕ, ◌^◌, ◌<◌, ◌≤◌, Bool, true, false, not, ◌&&◌, nat_lt, nat_le, List, [], ◌∷◌, ◌++◌, length, codes, decimal, refl, ap, arith, lt-ltb}
use Rattle.std.specs.List.{list_any, list_all}
use Rattle.std.specs.Str.{IsAscii, IsUtf8}
use Rattle.std.specs.Str.Parse.{AllDigits}
use Rattle.std.proofs.lemmas.Bool.{and_parts, and_from, or_from, not_from_false, and_left}
use Rattle.std.proofs.lemmas.Bool.Decides.{nat_tests}
use Rattle.std.proofs.lemmas.Fmt.{decimal_is_IsNumeral}
use Rattle.std.proofs.lemmas.List.Folds.{list_any-append, list_all-append}
use Rattle.std.proofs.lemmas.Str.{IsUtf8-append, IsUtf8-from_ascii, is_utf8-from_IsUtf8}
use Rattle.std.proofs.lemmas.Str.Ascii.{IsAscii-cons, IsAscii-nil}
use Rattle.std.proofs.lemmas.Str.Parse.{digit_from_value}
use Rattle.profile.specs.text.Lines.{is_control, is_content, lacks_colon, has_bad_name, has_bad_quote, has_stop}

-- the text has no control octet but TAB, and it is UTF-8
pub record IsClean (text : List ℕ) : Type 0 where
  pub calm : list_any is_control text ≡ false
  pub utf8 : IsUtf8 text

pub clean_append : (a b : List ℕ) → IsClean a → IsClean b → IsClean (a ++ b)
clean_append a b p q = record {
  calm = list_any-append is_control a b ∙ or_from _ _ p.calm q.calm;
  utf8 = IsUtf8-append a b p.utf8 q.utf8;
}

-- printable ASCII
abbrev pub is_shown : ℕ → Bool
is_shown c = nat_le 32 c && nat_lt c 127

shown_octet : (c : ℕ) → is_shown c ≡ true → (is_control c ≡ false) × (c < 128)
shown_octet c h = grind (arith, nat_tests)

shown_ascii : (text : List ℕ) → list_all is_shown text ≡ true → IsAscii text
shown_ascii [] h = IsAscii-nil
shown_ascii (c ∷ cs) h = let both = and_parts (is_shown c) (list_all is_shown cs) h in IsAscii-cons c cs (shown_octet c both.0).1 (shown_ascii cs both.1)

shown_calm : (text : List ℕ) → list_all is_shown text ≡ true → list_any is_control text ≡ false
shown_calm [] h = refl
shown_calm (c ∷ cs) h = let both = and_parts (is_shown c) (list_all is_shown cs) h in or_from _ _ (shown_octet c both.0).0 (shown_calm cs both.1)

pub clean_shown : (text : List ℕ) → list_all is_shown text ≡ true → IsClean text
clean_shown text h = record { calm = shown_calm text h; utf8 = IsUtf8-from_ascii text (shown_ascii text h) }

pub shown_append : (a b : List ℕ) → list_all is_shown a ≡ true → list_all is_shown b ≡ true → list_all is_shown (a ++ b) ≡ true
shown_append a b p q = list_all-append is_shown a b ∙ and_from _ _ p q

-- ---- numbers

pub shown_digit : (c : ℕ) → (48 ≤ c) × (c ≤ 57) → is_shown c ≡ true
shown_digit c h = grind (arith, nat_tests)

shown_digits : (text : List ℕ) → AllDigits 10 text → list_all is_shown text ≡ true
shown_digits [] h = refl
shown_digits (c ∷ cs) h = and_from _ _ (shown_digit c (digit_from_value c h.0)) (shown_digits cs h.1)

pub shown_decimal : (n : ℕ) → n < 2 ^ 64 → list_all is_shown (decimal n) ≡ true
shown_decimal n h = let d = decimal_is_IsNumeral n h in shown_digits (decimal n) d.0.1

-- ---- content lines

lacks_none : (line : List ℕ) → has_stop 58 line ≡ true → lacks_colon line ≡ false
lacks_none line h = and_left _ _ (ap not h)

-- a clean line with a colon, whose names and quotes are right
content : (line : List ℕ) → has_stop 58 line ≡ true → has_bad_name line ≡ false → has_bad_quote line ≡ false → IsClean line → is_content line ≡ true
content line stop name quote clean =
    and_from _ _ (not_from_false _ (or_from _ _ (or_from _ _ (or_from _ _ (lacks_none line stop) name) quote) clean.calm)) (is_utf8-from_IsUtf8 line clean.utf8)

-- a head that is printable, and a clean value
pub valued : (head v : List ℕ) → has_stop 58 (head ++ v) ≡ true → has_bad_name (head ++ v) ≡ false → has_bad_quote (head ++ v) ≡ false → list_all is_shown head ≡ true → IsClean v → is_content (head ++ v) ≡ true
valued head v stop name quote h c = content (head ++ v) stop name quote (clean_append head v (clean_shown head h) c)

-- a printable line
pub fixed : (line : List ℕ) → has_stop 58 line ≡ true → has_bad_name line ≡ false → has_bad_quote line ≡ false → list_all is_shown line ≡ true → is_content line ≡ true
fixed line s n q h = content line s n q (clean_shown line h)

-- DTSTART without parameters
pub start_line : (v : List ℕ) → IsClean v → is_content (codes "DTSTART:" ++ v) ≡ true
start_line v c = valued (codes "DTSTART:") v (lt-ltb 7 (length (codes "DTSTART:" ++ v)) (omega arith)) refl refl refl c
