-- Durations and addresses in lower case may be in a line: no control octet, and UTF-8.
-- Behind refreshes_are_heard of law, refreshes_read_back of law, replies_are_heard of law, replies_read_back of law, cancels_read_back of sent_law, requests_read_back of sent_law and 2 more.
use Rattle.std.proofs.Common.{◌≡◌, ◌∙◌, ℕ, Bool, true, false, List, [], ◌∷◌, map, refl, ap, arith}
use Rattle.std.specs.List.{list_any, list_all}
use Rattle.std.specs.Str.{IsUtf8, chars}
use Rattle.std.specs.Char.{to_ascii_lowercase, IsScalar, is_ascii_alphabetic}
use Rattle.std.proofs.lemmas.Bool.{and_parts, and_from, or_from}
use Rattle.std.proofs.lemmas.Bool.Decides.{nat_tests}
use Rattle.std.proofs.lemmas.List.Folds.{list_any-append}
use Rattle.std.proofs.lemmas.Str.{scalars-chars}
use lib.Utf8.{scalars}
use Rattle.profile.specs.text.Lines.{is_control}
use Rattle.profile.specs.text.Values.{IsAddress, is_scheme, is_scheme_octet, is_path_octet, lower_case}
use Rattle.ical_values.proofs.Addresses.{lower_text, lower_address}
use Rattle.ical_lines.proofs.CleanLines.{IsClean}
use Rattle.itip_messages.specs.Law.{IsTextAddress}

-- ---- durations

-- ---- addresses

path_octet : (c : ℕ) → is_path_octet c ≡ true → is_control c ≡ false
path_octet c h = grind (arith, nat_tests)

scheme_octet : (c : ℕ) → is_scheme_octet c ≡ true → is_control c ≡ false
scheme_octet c h = grind (arith, nat_tests)

calm_by : (test : ℕ → Bool) → ((c : ℕ) → test c ≡ true → is_control c ≡ false) → (cs : List ℕ) → list_all test cs ≡ true → list_any is_control cs ≡ false
calm_by test f [] h = refl
calm_by test f (c ∷ cs) h = let both = and_parts (test c) (list_all test cs) h in or_from _ _ (f c both.0) (calm_by test f cs both.1)

first_letter : (c : ℕ) → is_ascii_alphabetic c ≡ true → is_control c ≡ false
first_letter c h = grind (arith, nat_tests)

calm_scheme : (cs : List ℕ) → is_scheme cs ≡ true → list_any is_control cs ≡ false
calm_scheme [] h = refl
calm_scheme (c ∷ cs) h = let both = and_parts _ (list_all is_scheme_octet cs) h in or_from _ _ (first_letter c both.0) (calm_by is_scheme_octet scheme_octet cs both.1)

calm_address : (text : List ℕ) → IsAddress text → list_any is_control text ≡ false
calm_address text (scheme, path, e, s, p, short) =
    let octets = (and_parts _ (list_all is_path_octet path) p).1 in
    ap (list_any is_control) e ∙ list_any-append is_control scheme (58 ∷ path) ∙ or_from _ _ (calm_scheme scheme s) (calm_by is_path_octet path_octet path octets)

lower_scalar : (c : ℕ) → IsScalar c → IsScalar (to_ascii_lowercase c)
lower_scalar c h = grind (arith, nat_tests)

lower_scalars : (cs : List ℕ) → scalars cs ≡ true → scalars (map to_ascii_lowercase cs) ≡ true
lower_scalars [] h = refl
lower_scalars (c ∷ cs) h =
    let both = and_parts _ (scalars cs) h in
    and_from _ _ (lower_scalar c both.0) (lower_scalars cs both.1)

utf8_lower : (text : List ℕ) → IsUtf8 text → IsUtf8 (lower_case text)
utf8_lower text u = (map to_ascii_lowercase (chars text), (lower_scalars (chars text) (scalars-chars text u), lower_text text u))

-- an address that was read, in lower case
pub text_address : (text : List ℕ) → IsAddress text → IsUtf8 text → IsTextAddress (lower_case text)
text_address text a u = record { address = lower_address text a; utf8 = utf8_lower text u }

pub clean_address : (text : List ℕ) → IsTextAddress text → IsClean text
clean_address text t = record { calm = calm_address text t.address; utf8 = t.utf8 }
