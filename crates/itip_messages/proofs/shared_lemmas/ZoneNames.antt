-- The names Z1, Z2, .. of zones: text without escapes, no two alike.
-- Behind refreshes_are_heard of law, replies_are_heard of law, requests_read_back of sent_law, shown_reads_back of sent_law, stored_texts_can_be_sent of sent_law.
use Rattle.std.proofs.Common.{◌≡◌, ◌∙◌, refl, ap, ℕ, ◌+◌, ◌<◌, ◌^◌, Bool, true, false, not, ◌&&◌, ◌||◌, cond, List, [], ◌∷◌, ◌++◌, drop, codes, Option, None, Some, arith}
use Rattle.std.specs.Prelude.{◌==◌, unwrap_or, option_map, filter}
use Rattle.std.specs.Option.{option_to_list}
use Rattle.std.specs.List.{list_all, find}
use Rattle.std.specs.Str.{bytes_eq}
use Rattle.std.proofs.lemmas.Bool.{and_parts, not-true}
use Rattle.std.proofs.lemmas.Bool.Decides.{nat_tests}
use Rattle.std.proofs.lemmas.Fmt.{decimal_injective}
use Rattle.std.proofs.lemmas.Slice.Eq.{bytes_eq-Decides}
use Rattle.profile.specs.events.Properties.{is_of, Says, BothOrNeither}
use Rattle.profile.specs.events.ZonedTimes.{has_zone_name}
use Rattle.profile.specs.rooms.Kept.{kept_zone_name}
use Rattle.profile.specs.text.Lines.{is_control, line_value}
use Rattle.profile.specs.text.Values.{escaped, escaped_octet, unescaped}
use Rattle.profile.specs.written.WrittenZones.{IsTextName, IsNameLine}
use Rattle.ical_lines.proofs.CleanLines.{IsClean, is_shown, clean_shown}
use Rattle.itip_messages.proofs.shared_lemmas.WrittenOctets.{decimal_passes, decimal_shown}

-- printable, and no escape is made of it
abbrev is_bare : ℕ → Bool
is_bare c = not (c == 10) && not ((c == 92) || (c == 59) || (c == 44))

bare_octet : (c : ℕ) → is_bare c ≡ true → escaped_octet c ≡ c ∷ []
bare_octet c h =
    let both = and_parts (not (c == 10)) (not ((c == 92) || (c == 59) || (c == 44))) h in
    ap (λ b. cond b (codes "\\n") (cond ((c == 92) || (c == 59) || (c == 44)) (92 ∷ c ∷ []) (c ∷ []))) (not-true _ both.0)
    ∙ ap (λ b. cond b (92 ∷ c ∷ []) (c ∷ [])) (not-true _ both.1)

bare_itself : (text : List ℕ) → list_all is_bare text ≡ true → escaped text ≡ text
bare_itself [] h = refl
bare_itself (c ∷ cs) h =
    let both = and_parts (is_bare c) (list_all is_bare cs) h in
    ap (λ x. x ++ escaped cs) (bare_octet c both.0) ∙ ap (λ l. c ∷ l) (bare_itself cs both.1)

abbrev is_calm : ℕ → Bool
is_calm c = (c == 10) || not (is_control c)

bare_digit : (n : ℕ) → n < 10 → is_bare (48 + n) ≡ true
bare_digit n h = grind (arith, nat_tests)

calm_digit : (n : ℕ) → n < 10 → is_calm (48 + n) ≡ true
calm_digit n h = grind (arith, nat_tests)

pub name_shown : (place : ℕ) → list_all is_shown (kept_zone_name place) ≡ true
name_shown place = decimal_shown (place + 1)

pub name_clean : (place : ℕ) → IsClean (kept_zone_name place)
name_clean place = clean_shown (kept_zone_name place) (name_shown place)

pub name_text : (place : ℕ) → IsTextName (kept_zone_name place)
name_text place = record { calm = decimal_passes is_calm calm_digit (place + 1); utf8 = (name_clean place).utf8 }

pub name_itself : (place : ℕ) → escaped (kept_zone_name place) ≡ kept_zone_name place
name_itself place = bare_itself (kept_zone_name place) (decimal_passes is_bare bare_digit (place + 1))

-- each place has its own
pub one_place : (a b : ℕ) → a + 1 < 2 ^ 64 → b + 1 < 2 ^ 64 → kept_zone_name a ≡ kept_zone_name b → a ≡ b
one_place a b p q e = omega (arith, decimal_injective (a + 1) (b + 1) p q (ap (drop 1) e))

pub other_place : (a b : ℕ) → a + 1 < 2 ^ 64 → b + 1 < 2 ^ 64 → (a ≡ b → ⊥) → bytes_eq (kept_zone_name a) (kept_zone_name b) ≡ false
other_place a b p q differ = go (bytes_eq (kept_zone_name a) (kept_zone_name b)) refl
  where
    go : (t : Bool) → bytes_eq (kept_zone_name a) (kept_zone_name b) ≡ t → t ≡ false
    go true e = absurd (differ (one_place a b p q ((bytes_eq-Decides (kept_zone_name a) (kept_zone_name b)).0 e)))
    go false e = refl

pub same_bytes : (xs : List ℕ) → bytes_eq xs xs ≡ true
same_bytes xs = (bytes_eq-Decides xs xs).1 refl

-- ---- the name that a VTIMEZONE's own lines give it

find_first : {X : Type 0} (p : X → Bool) (xs : List X) (first : X) (others : List X) → filter p xs ≡ first ∷ others → find p xs ≡ Some first
find_first p [] first others e = cc
find_first {X = X} p (x ∷ xs) first others e = by (p x) (λ d. find_first p xs first others d) e
  where
    by : (b : Bool) → (filter p xs ≡ first ∷ others → find p xs ≡ Some first) → cond b (x ∷ filter p xs) (filter p xs) ≡ first ∷ others → cond b (Some x) (find p xs) ≡ Some first
    by true f d = ap head_of d
      where
        head_of : List X → Option X
        head_of [] = None
        head_of (y ∷ ys) = Some y
    by false f d = f d

pub has_its_name : (own : List (List ℕ)) (given name : List ℕ) → Says (codes "TZID") true IsNameLine own (Some given) → has_zone_name name own ≡ bytes_eq given name
has_its_name own given name s = go s.line s.once s.is
  where
    go : (line : Option (List ℕ)) → filter (is_of (codes "TZID")) own ≡ option_to_list line → BothOrNeither IsNameLine line (Some given) → has_zone_name name own ≡ bytes_eq given name
    go None once h = absurd h
    go (Some l) once h =
        ap (λ found. unwrap_or (option_map (λ n. bytes_eq n name) (option_map (λ line. unescaped (line_value line)) found)) false) (find_first (is_of (codes "TZID")) own l [] once)
        ∙ ap (λ n. bytes_eq n name) h
