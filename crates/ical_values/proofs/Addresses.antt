-- Schemes, and ASCII lower case of text.
use Rattle.std.proofs.Common.{◌≡◌, ◌≢◌, ◌∙◌, ℕ, zero, suc, ◌<◌, ◌≤◌, Bool, true, false, cond, List, [], ◌∷◌, length, get_or, map, refl, sym, ap, arith, inl, inr, ltb}
use Rattle.std.proofs.lemmas.Bool.{cases_order, and_parts}
use Rattle.std.proofs.lemmas.Bool.Decides.{nat_tests}
use Rattle.std.proofs.lemmas.List.{map-append}
use Rattle.std.proofs.lemmas.Str.{encode_ascii, encodes-chars}
use Rattle.std.proofs.lemmas.Str.Ascii.{lowercase_is, lowercase_ascii, lowercase-lowercase}
use Rattle.std.specs.List.{list_all}
use Rattle.std.specs.Char.{to_ascii_lowercase, is_ascii_alphabetic}
use Rattle.std.proofs.lemmas.List.{length-map}
use Rattle.std.proofs.Common.{nat_lt}
use Rattle.std.specs.Str.{chars, IsUtf8}
use lib.Utf8.{encode, encodes}
use Rattle.profile.specs.text.Values.{IsAddress, is_scheme, is_scheme_octet, is_path, is_path_octet, lower_case}

octets_no_colon : (cs : List ℕ) → list_all is_scheme_octet cs ≡ true → (i : ℕ) → i < length cs → get_or cs i 0 ≢ 58
octets_no_colon [] h i k = absurd (omega arith)
octets_no_colon (c ∷ cs) h zero k = grind (arith, nat_tests)
octets_no_colon (c ∷ cs) h (suc i) k =
    let rest : list_all is_scheme_octet cs ≡ true = grind (arith, nat_tests) in
    octets_no_colon cs rest i (omega arith)

-- no scheme has a colon
pub scheme_no_colon : (cs : List ℕ) → is_scheme cs ≡ true → (i : ℕ) → i < length cs → get_or cs i 0 ≢ 58
scheme_no_colon [] h i k = absurd (omega arith)
scheme_no_colon (c ∷ cs) h zero k = grind (arith, nat_tests)
scheme_no_colon (c ∷ cs) h (suc i) k =
    let rest : list_all is_scheme_octet cs ≡ true = grind (arith, nat_tests) in
    octets_no_colon cs rest i (omega arith)

keeps : (c : ℕ) → 90 < c → to_ascii_lowercase c ≡ c
keeps c h = (lowercase_is c).2 h

lists : (q r : Bool) (a b d e g h i j k : ℕ) → 90 < a → 90 < b → 90 < d → 90 < e → 90 < g → 90 < h → 90 < i → 90 < j → 90 < k → map to_ascii_lowercase (cond q (a ∷ b ∷ []) (cond r (d ∷ e ∷ g ∷ []) (h ∷ i ∷ j ∷ k ∷ []))) ≡ cond q (a ∷ b ∷ []) (cond r (d ∷ e ∷ g ∷ []) (h ∷ i ∷ j ∷ k ∷ []))
lists true r a b d e g h i j k pa pb pd pe pg ph pi pj pk = rw (keeps a pa, keeps b pb) refl
lists false true a b d e g h i j k pa pb pd pe pg ph pi pj pk = rw (keeps d pd, keeps e pe, keeps g pg) refl
lists false false a b d e g h i j k pa pb pd pe pg ph pi pj pk = rw (keeps h ph, keeps i pi, keeps j pj, keeps k pk) refl

lower_high : (c : ℕ) → 128 ≤ c → map to_ascii_lowercase (encode c) ≡ encode c
unfolding encode
lower_high c h =
    let no : ltb c 128 ≡ false = grind (arith, nat_tests) in
    rw no (lists (ltb c 2048) (ltb c 65_536) _ _ _ _ _ _ _ _ _ (omega arith) (omega arith) (omega arith) (omega arith) (omega arith) (omega arith) (omega arith) (omega arith) (omega arith))

lower_encode : (c : ℕ) → encode (to_ascii_lowercase c) ≡ map to_ascii_lowercase (encode c)
lower_encode c =
    let high : 128 ≤ c → encode (to_ascii_lowercase c) ≡ map to_ascii_lowercase (encode c) = λ h. rw (keeps c (omega arith)) (sym (lower_high c h)) in
    elim (cases_order c 128) [
      | inl e ↦ high (omega arith)
      | inr (inl lt) ↦ rw (encode_ascii c lt) (encode_ascii (to_ascii_lowercase c) (lowercase_ascii c lt))
      | inr (inr gt) ↦ high (omega arith)
    ]

lower_encodes : (cs : List ℕ) → encodes (map to_ascii_lowercase cs) ≡ lower_case (encodes cs)
lower_encodes [] = refl
lower_encodes (c ∷ cs) = rw (lower_encode c, lower_encodes cs) (sym (map-append to_ascii_lowercase (encode c) (encodes cs)))

-- lower case of the characters is lower case of the octets
pub lower_text : (bs : List ℕ) → IsUtf8 bs → encodes (map to_ascii_lowercase (chars bs)) ≡ lower_case bs
lower_text bs h = lower_encodes (chars bs) ∙ ap lower_case (encodes-chars bs h)

-- lower case again is the same
pub lower_twice : (text : List ℕ) → lower_case (lower_case text) ≡ lower_case text
lower_twice [] = refl
lower_twice (c ∷ cs) = rw (lowercase-lowercase c, lower_twice cs) refl

lower_letter : (c : ℕ) → is_ascii_alphabetic c ≡ true → is_ascii_alphabetic (to_ascii_lowercase c) ≡ true
lower_letter c h = grind (arith, nat_tests)

lower_scheme_octet : (c : ℕ) → is_scheme_octet c ≡ true → is_scheme_octet (to_ascii_lowercase c) ≡ true
lower_scheme_octet c h = grind (arith, nat_tests)

lower_path_octet : (c : ℕ) → is_path_octet c ≡ true → is_path_octet (to_ascii_lowercase c) ≡ true
lower_path_octet c h = grind (arith, nat_tests)

lower_all : (test : ℕ → Bool) → ((c : ℕ) → test c ≡ true → test (to_ascii_lowercase c) ≡ true) → (cs : List ℕ) → list_all test cs ≡ true → list_all test (lower_case cs) ≡ true
lower_all test f [] h = refl
lower_all test f (c ∷ cs) h =
    let p = and_parts (test c) (list_all test cs) h in
    rw (f c p.0, lower_all test f cs p.1) refl

lower_scheme : (cs : List ℕ) → is_scheme cs ≡ true → is_scheme (lower_case cs) ≡ true
lower_scheme [] h = h
lower_scheme (c ∷ cs) h =
    let p = and_parts (is_ascii_alphabetic c) (list_all is_scheme_octet cs) h in
    rw (lower_letter c p.0, lower_all is_scheme_octet lower_scheme_octet cs p.1) refl

lower_path : (cs : List ℕ) → is_path cs ≡ true → is_path (lower_case cs) ≡ true
lower_path cs h =
    let p = and_parts (nat_lt 0 (length cs)) (list_all is_path_octet cs) h in
    let long : length (lower_case cs) ≡ length cs = length-map cs to_ascii_lowercase in
    rw (long, p.0, lower_all is_path_octet lower_path_octet cs p.1) refl

-- an address in lower case is one
pub lower_address : (text : List ℕ) → IsAddress text → IsAddress (lower_case text)
lower_address text (scheme, path, e, s, p, short) = (
  lower_case scheme,
  lower_case path,
  ap lower_case e ∙ map-append to_ascii_lowercase scheme (58 ∷ path),
  lower_scheme scheme s,
  lower_path path p,
  rw (length-map text to_ascii_lowercase) short,
)
