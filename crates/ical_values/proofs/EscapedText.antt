-- Escapes keep UTF-8, and make no control octet.
use Rattle.std.proofs.Common.{◌≡◌, ◌∙◌, ℕ, ◌<◌, ◌≤◌, Bool, true, false, not, nat_eq, ◌||◌, cond, List, [], ◌∷◌, ◌++◌, refl, ap, sym, arith, Result, Ok, Err, OnOk, is_ok, inl, inr, ltb, codes}
use Rattle.std.specs.List.{list_any, list_all}
use Rattle.std.proofs.lemmas.Bool.{and_parts, or_from, or_parts, cases_order}
use Rattle.std.proofs.lemmas.Bool.Decides.{nat_tests}
use Rattle.std.proofs.lemmas.List.Folds.{list_any-append}
use Rattle.std.proofs.lemmas.Grind.{flat_map-append}
use Rattle.std.proofs.lemmas.Str.{IsUtf8-append, IsUtf8-nil, IsUtf8-encode, encode_ascii}
use Rattle.std.specs.Str.{IsUtf8}
use Rattle.std.specs.Char.{IsScalar}
use lib.Utf8.{encode, encodes, scalars}
use Rattle.profile.specs.text.Lines.{is_control}
use Rattle.profile.specs.text.Values.{escaped, escaped_octet}
use Rattle.ical_values.specs.Escaped.{is_escaped}

-- one ASCII octet
pub utf8_one : (c : ℕ) → c < 128 → IsUtf8 (c ∷ [])
utf8_one c h = let scalar_c : IsScalar c = grind (arith, nat_tests) in rw (← (encode_ascii c h)) (IsUtf8-encode c scalar_c)

utf8_pair : (a b : ℕ) → a < 128 → b < 128 → IsUtf8 (a ∷ b ∷ [])
utf8_pair a b p q = IsUtf8-append (a ∷ []) (b ∷ []) (utf8_one a p) (utf8_one b q)

-- ---- escapes

keeps : (c : ℕ) → 92 < c → escaped_octet c ≡ c ∷ []
keeps c h = grind (arith, nat_tests)

lists : (q r : Bool) (a b d e g h i j k : ℕ) → 92 < a → 92 < b → 92 < d → 92 < e → 92 < g → 92 < h → 92 < i → 92 < j → 92 < k → escaped (cond q (a ∷ b ∷ []) (cond r (d ∷ e ∷ g ∷ []) (h ∷ i ∷ j ∷ k ∷ []))) ≡ cond q (a ∷ b ∷ []) (cond r (d ∷ e ∷ g ∷ []) (h ∷ i ∷ j ∷ k ∷ []))
lists true r a b d e g h i j k pa pb pd pe pg ph pi pj pk = rw (keeps a pa, keeps b pb) refl
lists false true a b d e g h i j k pa pb pd pe pg ph pi pj pk = rw (keeps d pd, keeps e pe, keeps g pg) refl
lists false false a b d e g h i j k pa pb pd pe pg ph pi pj pk = rw (keeps h ph, keeps i pi, keeps j pj, keeps k pk) refl

escaped_high : (c : ℕ) → 128 ≤ c → escaped (encode c) ≡ encode c
unfolding encode
escaped_high c h =
    let no : ltb c 128 ≡ false = grind (arith, nat_tests) in
    rw no (lists (ltb c 2048) (ltb c 65_536) _ _ _ _ _ _ _ _ _ (omega arith) (omega arith) (omega arith) (omega arith) (omega arith) (omega arith) (omega arith) (omega arith) (omega arith))

-- the tests of an octet, one after another
utf8_choice : (p q : Bool) (c : ℕ) → c < 128 → IsUtf8 (cond p (codes "\\n") (cond q (92 ∷ c ∷ []) (c ∷ [])) ++ [])
utf8_choice true q c h = utf8_pair 92 110 (omega arith) (omega arith)
utf8_choice false true c h = utf8_pair 92 c (omega arith) h
utf8_choice false false c h = utf8_one c h

utf8_low : (c : ℕ) → c < 128 → IsUtf8 (escaped (encode c))
utf8_low c h = rw (encode_ascii c h) (utf8_choice (nat_eq c 10) (nat_eq c 92 || nat_eq c 59 || nat_eq c 44) c h)

utf8_character : (c : ℕ) → IsScalar c → IsUtf8 (escaped (encode c))
utf8_character c s =
    let high : 128 ≤ c → IsUtf8 (escaped (encode c)) = λ h. rw (escaped_high c h) (IsUtf8-encode c s) in
    elim (cases_order c 128) [
      | inl e ↦ high (omega arith)
      | inr (inl lt) ↦ utf8_low c lt
      | inr (inr gt) ↦ high (omega arith)
    ]

utf8_characters : (cs : List ℕ) → scalars cs ≡ true → IsUtf8 (escaped (encodes cs))
utf8_characters [] h = IsUtf8-nil
utf8_characters (c ∷ cs) h =
    let first : IsScalar c = grind (arith, nat_tests) in
    let rest : scalars cs ≡ true = grind (arith, nat_tests) in
    rw (flat_map-append escaped_octet (encode c) (encodes cs)) (IsUtf8-append (escaped (encode c)) (escaped (encodes cs)) (utf8_character c first) (utf8_characters cs rest))

-- a text with its escapes
pub utf8_escaped : (text : List ℕ) → IsUtf8 text → IsUtf8 (escaped text)
utf8_escaped text u = rw (← u.1.1) (utf8_characters u.0 u.1.0)

-- ---- control octets

-- an octet that a TEXT value can represent: LF, or no control octet but TAB
abbrev pub is_read : ℕ → Bool
is_read c = nat_eq c 10 || not (is_control c)

octet_calm : (c : ℕ) → is_read c ≡ true → list_any is_control (escaped_octet c) ≡ false
octet_calm c h = grind (arith, nat_tests)

pub escaped_calm : (text : List ℕ) → list_all is_read text ≡ true → list_any is_control (escaped text) ≡ false
escaped_calm [] h = refl
escaped_calm (c ∷ cs) h =
    let both = and_parts (is_read c) (list_all is_read cs) h in
    list_any-append is_control (escaped_octet c) (escaped cs) ∙ or_from _ _ (octet_calm c both.0) (escaped_calm cs both.1)

-- ---- a text without such octets

plain_octet : (c : ℕ) → is_escaped c ≡ false → escaped_octet c ≡ c ∷ []
plain_octet c h = grind (arith, nat_tests, h)

pub plain_text : (octets : List ℕ) → list_any is_escaped octets ≡ false → escaped octets ≡ octets
plain_text [] h = refl
plain_text (c ∷ cs) h =
    let parts = or_parts (is_escaped c) (list_any is_escaped cs) h in
    rw (plain_octet c parts.0) (ap (λ z. c ∷ z) (plain_text cs parts.1))

-- such a text is appended as it is
pub plain_written : {T E : Type 0} (r : Result T E) (old new octets text : List ℕ) → octets ≡ text → list_any is_escaped octets ≡ false → new ≡ cond (is_ok r) (old ++ octets) old → OnOk r (new ≡ old ++ escaped text)
plain_written (Err x) old new octets text e h a = tt
plain_written (Ok x) old new octets text e h a = a ∙ ap (λ z. old ++ z) (sym (plain_text octets h) ∙ ap escaped e)
