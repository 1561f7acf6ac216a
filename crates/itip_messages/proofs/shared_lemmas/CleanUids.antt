-- A UID that was read can be in a line again: escapes make no control octet, and keep UTF-8.
-- Behind refreshes_are_heard of law, refreshes_read_back of law, replies_are_heard of law, replies_read_back of law, cancels_read_back of sent_law, requests_read_back of sent_law and 2 more.
use Rattle.std.proofs.Common.{◌≡◌, ◌≢◌, ◌∙◌, ℕ, ◌<◌, Bool, true, false, ◌&&◌, cond, List, [], ◌∷◌, ◌++◌, length, get_or, refl, sym, ap, subst, arith, append-nil, inl, inr, eqb, ◌⊎◌}
use Rattle.std.specs.List.{list_any, list_all}
use Rattle.std.specs.Str.{IsUtf8}
use Rattle.std.specs.Char.{IsScalar}
use Rattle.std.proofs.lemmas.Bool.{and_from, or_parts, cases_Bool, cases_order, both_ways}
use Rattle.std.proofs.lemmas.Bool.Decides.{nat_tests}
use Rattle.std.proofs.lemmas.Str.{IsUtf8-append, IsUtf8-nil, IsUtf8-encode, encode_ascii, inside_one, char_from_byte}
use Rattle.profile.specs.text.Lines.{is_control}
use Rattle.profile.specs.text.Values.{escaped, unescaped, is_escape, meant}
use Rattle.ical_values.proofs.Escapes.{unescaped_front, unescaped_pair, unescaped_lone}
use Rattle.ical_values.proofs.EscapedText.{is_read, utf8_escaped, utf8_one, escaped_calm}
use lib.Utf8.{encode, encodes, scalars}
use Rattle.itip_messages.specs.Law.{IsTextValue}
use Rattle.ical_lines.proofs.CleanLines.{IsClean}

-- ---- control octets

read_octet : (c : ℕ) → is_control c ≡ false → is_read c ≡ true
read_octet c h = grind (arith, nat_tests)

read_meant : (c : ℕ) → is_control c ≡ false → is_read (meant c) ≡ true
read_meant c h = grind (arith, nat_tests)

read_either : (b : Bool) (x y : List ℕ) → list_all is_read x ≡ true → list_all is_read y ≡ true → list_all is_read (cond b x y) ≡ true
read_either true x y p q = p
read_either false x y p q = q

read_all : (text : List ℕ) → list_any is_control text ≡ false → list_all is_read (unescaped text) ≡ true
unfolding unescaped
read_all [] h = refl
read_all (c ∷ []) h = let both = or_parts (is_control c) false h in and_from _ _ (read_octet c both.0) refl
read_all (c ∷ d ∷ cs) h =
    let both = or_parts (is_control c) (list_any is_control (d ∷ cs)) h in
    let rest = or_parts (is_control d) (list_any is_control cs) both.1 in
    read_either (eqb c 92 && is_escape d) (meant d ∷ unescaped cs) (c ∷ unescaped (d ∷ cs))
    (and_from _ _ (read_meant d rest.0) (read_all cs rest.1))
    (and_from _ _ (read_octet c both.0) (read_all (d ∷ cs) both.1))

-- ---- UTF-8

-- no octet of a character but the backslash is a backslash
no_backslash : (c : ℕ) → c ≢ 92 → (i : ℕ) → i < length (encode c) → get_or (encode c) i 0 ≢ 92
no_backslash c h i l e =
    let whole : encode c ≡ encode c ++ [] = sym (append-nil (encode c)) in
    h (inside_one c [] (encode c) i whole l (omega arith) ∙ e)

escape_ascii : (d : ℕ) → is_escape d ≡ true → d < 128
escape_ascii d h = grind (arith, nat_tests)

meant_ascii : (d : ℕ) → is_escape d ≡ true → meant d < 128
meant_ascii d h = grind (arith, nat_tests)

-- after a character that makes no escape
lone : (d : ℕ) (ds : List ℕ) → is_escape d ≡ false → unescaped (92 ∷ (encode d ++ encodes ds)) ≡ 92 ∷ unescaped (encode d ++ encodes ds)
lone d ds n =
    unescaped_lone (encode d ++ encodes ds) (λ c rest e same.
    let first : get_or (encode d ++ encodes ds) 0 0 ≡ c = ap (λ l. get_or l 0 0) same in
    let low = escape_ascii c e in
    let long : 0 < length (encode d ++ encodes ds) = omega (arith, ap length same) in
    let is : d ≡ c = char_from_byte (encode d ++ encodes ds) (encodes ds) d refl (omega arith) long ∙ first in
    both_ways (is_escape d) n (ap is_escape is ∙ e))

-- the character after a backslash
after_backslash : (d : ℕ) (ds : List ℕ) → IsUtf8 (unescaped (encodes ds)) → IsUtf8 (unescaped (encode d ++ encodes ds)) → IsUtf8 (unescaped (92 ∷ (encode d ++ encodes ds)))
after_backslash d ds more whole =
    elim (cases_Bool (is_escape d)) [
      | inl e ↦
          let low = escape_ascii d e in
          let here : unescaped (92 ∷ (encode d ++ encodes ds)) ≡ meant d ∷ unescaped (encodes ds) = ap (λ l. unescaped (92 ∷ (l ++ encodes ds))) (encode_ascii d low) ∙ unescaped_pair d (encodes ds) e in
          subst IsUtf8 (sym here) (IsUtf8-append (meant d ∷ []) (unescaped (encodes ds)) (utf8_one (meant d) (meant_ascii d e)) more)
      | inr n ↦ subst IsUtf8 (sym (lone d ds n)) (IsUtf8-append (92 ∷ []) (unescaped (encode d ++ encodes ds)) (utf8_one 92 (omega arith)) whole)
    ]

is_or_not : (c : ℕ) → (c ≡ 92) ⊎ (c ≢ 92)
is_or_not c = elim (cases_order c 92) [ inl e ↦ inl e | inr (inl lt) ↦ inr (λ e. omega arith) | inr (inr gt) ↦ inr (λ e. omega arith) ]

-- a character that isn't a backslash
plain : (c : ℕ) (cs : List ℕ) → IsScalar c → c ≢ 92 → IsUtf8 (unescaped (encodes cs)) → IsUtf8 (unescaped (encode c ++ encodes cs))
plain c cs s n more = subst IsUtf8 (sym (unescaped_front (encode c) (encodes cs) (no_backslash c n))) (IsUtf8-append (encode c) (unescaped (encodes cs)) (IsUtf8-encode c s) more)

last_backslash : unescaped (92 ∷ []) ≡ 92 ∷ []
unfolding unescaped
last_backslash = refl

none_read : unescaped [] ≡ []
unfolding unescaped
none_read = refl

utf8_characters : (cs : List ℕ) → scalars cs ≡ true → IsUtf8 (unescaped (encodes cs))
utf8_characters [] h = subst IsUtf8 (sym none_read) IsUtf8-nil
utf8_characters (c ∷ []) h =
    let first : IsScalar c = grind (arith, nat_tests) in
    elim (is_or_not c) [
      | inl e ↦ subst (λ (x : ℕ). IsUtf8 (unescaped (encodes (x ∷ [])))) (sym e) (subst IsUtf8 (sym (ap (λ l. unescaped (l ++ [])) (encode_ascii 92 (omega arith)) ∙ last_backslash)) (utf8_one 92 (omega arith)))
      | inr n ↦ plain c [] first n (utf8_characters [] refl)
    ]
utf8_characters (c ∷ d ∷ cs) h =
    let first : IsScalar c = grind (arith, nat_tests) in
    let rest : scalars (d ∷ cs) ≡ true = grind (arith, nat_tests) in
    let later : scalars cs ≡ true = grind (arith, nat_tests) in
    elim (is_or_not c) [
      | inl e ↦
          let back : IsUtf8 (unescaped (92 ∷ (encode d ++ encodes cs))) = after_backslash d cs (utf8_characters cs later) (utf8_characters (d ∷ cs) rest) in
          subst (λ (x : ℕ). IsUtf8 (unescaped (encodes (x ∷ d ∷ cs)))) (sym e) (subst (λ (l : List ℕ). IsUtf8 (unescaped (l ++ encodes (d ∷ cs)))) (sym (encode_ascii 92 (omega arith))) back)
      | inr n ↦ plain c (d ∷ cs) first n (utf8_characters (d ∷ cs) rest)
    ]

pub utf8_unescaped : (text : List ℕ) → IsUtf8 text → IsUtf8 (unescaped text)
utf8_unescaped text u = rw (← u.1.1) (utf8_characters u.0 u.1.0)

-- a text that was read from a clean value
pub text_value : (text : List ℕ) → IsClean text → IsTextValue (unescaped text)
text_value text c = record { calm = read_all text c.calm; utf8 = utf8_unescaped text c.utf8 }

-- such a text as it is written
pub clean_text : (text : List ℕ) → IsTextValue text → IsClean (escaped text)
clean_text text t = record { calm = escaped_calm text t.calm; utf8 = utf8_escaped text t.utf8 }
