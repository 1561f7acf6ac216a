-- The words of a status are printable ASCII, where the text is UTF-8.
-- Behind refreshes_are_heard of law, refreshes_read_back of law, replies_are_heard of law, replies_read_back of law, cancels_read_back of sent_law, requests_read_back of sent_law and 2 more.
use Rattle.std.proofs.Common.{◌≡◌, ◌∙◌, ℕ, ◌/◌, ◌%◌, ◌<◌, Bool, true, false, cond, nat_lt, ltb, List, [], ◌∷◌, ◌++◌, codes, refl, ap, arith}
use Rattle.std.specs.List.{list_all}
use Rattle.std.specs.Char.{IsScalar}
use Rattle.std.specs.Str.{IsUtf8}
use Rattle.std.proofs.lemmas.Bool.{and_parts, and_from, ltb-true, lt-ltb}
use Rattle.std.proofs.lemmas.Bool.Decides.{nat_tests}
use Rattle.std.proofs.lemmas.List.Folds.{list_all-append}
use lib.Utf8.{encode, encodes, scalars}
use Rattle.profile.specs.checker.Instances.{Key}
use Rattle.profile.specs.rooms.Messages.{is_word_octet, hexadecimal, word_octet, word, IsKeyText}
use Rattle.ical_lines.proofs.CleanLines.{is_shown, shown_append}
use Rattle.ical_values.proofs.ShownValues.{shown_stamp}

-- ---- octets

abbrev is_octet : ℕ → Bool
is_octet c = nat_lt c 256

octets_by : (p q r : Bool) (a b d e g h i j k l : ℕ) → (p ≡ true → a < 256) → (q ≡ true → b < 256) → d < 256 → (r ≡ true → e < 256) → g < 256 → h < 256 → i < 256 → j < 256 → k < 256 → l < 256
    → list_all is_octet (cond p (a ∷ []) (cond q (b ∷ d ∷ []) (cond r (e ∷ g ∷ h ∷ []) (i ∷ j ∷ k ∷ l ∷ [])))) ≡ true
octets_by true q r a b d e g h i j k l pa pb pd pe pg ph pi pj pk pl = and_from _ _ (lt-ltb a 256 (pa refl)) refl
octets_by false true r a b d e g h i j k l pa pb pd pe pg ph pi pj pk pl = and_from _ _ (lt-ltb b 256 (pb refl)) (and_from _ _ (lt-ltb d 256 pd) refl)
octets_by false false true a b d e g h i j k l pa pb pd pe pg ph pi pj pk pl = and_from _ _ (lt-ltb e 256 (pe refl)) (and_from _ _ (lt-ltb g 256 pg) (and_from _ _ (lt-ltb h 256 ph) refl))
octets_by false false false a b d e g h i j k l pa pb pd pe pg ph pi pj pk pl = and_from _ _ (lt-ltb i 256 pi) (and_from _ _ (lt-ltb j 256 pj) (and_from _ _ (lt-ltb k 256 pk) (and_from _ _ (lt-ltb l 256 pl) refl)))

scalar_below : (c : ℕ) → IsScalar c → c < 1_114_112
scalar_below c s = grind (arith, nat_tests)

octets_one : (c : ℕ) → IsScalar c → list_all is_octet (encode c) ≡ true
unfolding encode
octets_one c s =
    let most = scalar_below c s in
    octets_by (ltb c 128) (ltb c 2048) (ltb c 65_536) _ _ _ _ _ _ _ _ _ _ (λ e. let l = ltb-true c 128 e in omega arith) (λ e. let l = ltb-true c 2048 e in omega arith) (omega arith) (λ e. let l = ltb-true c 65_536 e in omega arith) (omega arith) (omega arith) (omega arith) (omega arith) (omega arith) (omega arith)

octets_all : (cs : List ℕ) → scalars cs ≡ true → list_all is_octet (encodes cs) ≡ true
octets_all [] h = refl
octets_all (c ∷ cs) h =
    let first : IsScalar c = grind (arith, nat_tests) in
    let rest : scalars cs ≡ true = grind (arith, nat_tests) in
    list_all-append is_octet (encode c) (encodes cs) ∙ and_from _ _ (octets_one c first) (octets_all cs rest)

-- a UTF-8 text is octets
octets_utf8 : (text : List ℕ) → IsUtf8 text → list_all is_octet text ≡ true
octets_utf8 text u = rw (← u.1.1) (octets_all u.0 u.1.0)

-- ---- words

shown_plain : (c : ℕ) → is_word_octet c ≡ true → is_shown c ≡ true
shown_plain c h = grind (arith, nat_tests)

shown_hexadecimal : (n : ℕ) → n < 16 → is_shown (hexadecimal n) ≡ true
shown_hexadecimal n h = grind (arith, nat_tests)

shown_octet_by : (b : Bool) (c : ℕ) → c < 256 → (b ≡ true → is_shown c ≡ true) → list_all is_shown (cond b (c ∷ []) (37 ∷ hexadecimal (c / 16) ∷ hexadecimal (c % 16) ∷ [])) ≡ true
shown_octet_by true c h plain = and_from _ _ (plain refl) refl
shown_octet_by false c h plain = and_from _ _ (shown_hexadecimal (c / 16) (omega arith)) (and_from _ _ (shown_hexadecimal (c % 16) (omega arith)) refl)

shown_octets : (text : List ℕ) → list_all is_octet text ≡ true → list_all is_shown (word text) ≡ true
shown_octets [] h = refl
shown_octets (c ∷ cs) h =
    let both = and_parts (is_octet c) (list_all is_octet cs) h in
    shown_append (word_octet c) (word cs) (shown_octet_by (is_word_octet c) c (ltb-true c 256 both.0) (shown_plain c)) (shown_octets cs both.1)

shown_word : (text : List ℕ) → IsUtf8 text → list_all is_shown (word text) ≡ true
shown_word text u = shown_octets text (octets_utf8 text u)

-- a key in three words
pub shown_key : (text : List ℕ) (key : Key) → IsKeyText text key → IsUtf8 key.organiser → IsUtf8 key.uid → list_all is_shown text ≡ true
shown_key text key k organiser uid =
    let slot = shown_stamp k.slot key.slot k.written in
    let first = shown_append (k.slot ++ codes " ") (word key.organiser) (shown_append k.slot (codes " ") slot refl) (shown_word key.organiser organiser) in
    ap (list_all is_shown) k.is ∙ shown_append (k.slot ++ codes " " ++ word key.organiser ++ codes " ") (word key.uid) (shown_append (k.slot ++ codes " " ++ word key.organiser) (codes " ") first refl) (shown_word key.uid uid)
