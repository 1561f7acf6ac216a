-- The lines of a body under the name of its zone, and its text before the zone.
-- Cited by write_body, write_named, write_text.
use Rattle.std.proofs.Common.{◌≡◌, ◌∙◌, ℕ, ◌+◌, ◌-◌, ◌<◌, ◌≤◌, Bool, true, false, cond, List, [], ◌∷◌, ◌++◌, length, take, drop, get_or, codes, refl, sym, ap, subst, inl, inr, arith, Option, None, Some}
use Rattle.std.specs.Prelude.{◌==◌, slice_get}
use Rattle.std.specs.List.{All}
use Rattle.std.proofs.lemmas.List.Elements.{All-head}
use Rattle.std.specs.Option.{option_to_list}
use Rattle.std.specs.Str.{bytes_eq, IsUtf8}
use Rattle.std.specs.Str.Lines.{lines}
use Rattle.std.proofs.lemmas.Bool.{cases_lt, true≢false}
use borrow.Author.Tests.{eqb-true}
use Rattle.std.proofs.lemmas.List.{drop_all, length-drop, take_all, take-append-drop}
use Rattle.std.proofs.lemmas.Slice.Eq.{bytes_eq-Decides}
use Rattle.ical_lines.proofs.Utf8Lemmas.{utf8_apart}
use Rattle.profile.specs.rooms.Kept.{IsNamed, renamed}
use Rattle.profile.specs.text.Lines.{written}
use Rattle.itip_messages.specs.BodyText.{WritesBody, WritesText, name_of, named_lines, content_in, zone_rest}
use Rattle.memchr.specs.Find.{OccursAt, matches}
use Rattle.memchr.proofs.lemmas.CallerLemmas.{All-matches}
use Rattle.memchr.proofs.lemmas.MatchLemmas.{OccursAt-split}
use Rattle.itip_messages.specs.Body.{zone_line, zone_place}
use Rattle.itip_messages.specs.Zones.{with_zone, with_zones}
use Rattle.itip_messages.proofs.shared_lemmas.WrittenLines.{no_lines}

-- ---- one line

-- a line that doesn't begin so stays
pub other_line : (old new line : List ℕ) → ((rest : List ℕ) → line ≡ old ++ rest → ⊥) → renamed old new line ≡ line
other_line old new line h = by (bytes_eq (take (length old) line) old) refl
  where
    by : (b : Bool) → bytes_eq (take (length old) line) old ≡ b → cond b (new ++ drop (length old) line) line ≡ line
    by false e = refl
    by true e =
        let begins : take (length old) line ≡ old = (bytes_eq-Decides (take (length old) line) old).0 e in
        absurd (h (drop (length old) line) (sym (take-append-drop (length old) line) ∙ ap (λ l. l ++ drop (length old) line) begins))

-- nor does one change that begins with the same
same_line : (old line : List ℕ) → renamed old old line ≡ line
same_line old line = by (bytes_eq (take (length old) line) old) refl
  where
    by : (b : Bool) → bytes_eq (take (length old) line) old ≡ b → cond b (old ++ drop (length old) line) line ≡ line
    by false e = refl
    by true e = ap (λ l. l ++ drop (length old) line) (sym ((bytes_eq-Decides (take (length old) line) old).0 e)) ∙ take-append-drop (length old) line

-- without a zone the lines stay
pub same_lines : (lines : List (List ℕ)) → lines ≡ named_lines (name_of None) lines
same_lines [] = refl
same_lines (line ∷ lines) = λ i. sym (same_line (codes "DTSTART;TZID=Z") line) i ∷ same_lines lines i

-- ---- the text before the zone

-- what comes before the zone is text where the whole is
front_utf8 : (body : List ℕ) → IsUtf8 body → IsUtf8 (take (zone_place body) body)
front_utf8 body u = by (matches body zone_line 0) (All-matches body zone_line 0)
  where
    by : (places : List ℕ) → All (OccursAt body zone_line) places → IsUtf8 (take (get_or places 0 (length body)) body)
    by [] all = subst IsUtf8 (sym (take_all (length body) body (omega arith))) u
    by (place ∷ places) all =
        let rest = drop 1 zone_line ++ drop (place + length zone_line) body in
        let cut : body ≡ take place body ++ 66 ∷ rest = sym (take-append-drop place body) ∙ ap (λ l. take place body ++ l) (OccursAt-split body zone_line place (All-head (OccursAt body zone_line) place places all)) in
        (utf8_apart (take place body) rest 66 (omega arith) (subst IsUtf8 cut u)).0

pub is_nothing : (xs : List ℕ) → (length xs == 0) ≡ true → xs ≡ []
is_nothing [] h = refl
is_nothing (x ∷ xs) h = absurd (omega (arith, eqb-true (length (x ∷ xs)) 0 h))

pub is_some_zone : (xs : List ℕ) → (length xs == 0) ≡ false → xs ≡ [] → ⊥
is_some_zone xs h e = true≢false (ap (λ l. length l == 0) (sym e) ∙ h)

-- what comes after the first octets, or after all where there are fewer
pub behind : (zone : List ℕ) (n : ℕ) → (25 ≤ length zone → n ≡ 25) → (length zone < 25 → n ≡ length zone) → take (length zone - n) (drop n zone) ≡ drop 25 zone
behind zone n enough few =
    take_all (length zone - n) (drop n zone) (omega (arith, length-drop n zone))
    ∙ elim (cases_lt (length zone) 25) [
      | inl less ↦ ap (λ k. drop k zone) (few less) ∙ drop_all (length zone) zone (omega arith) ∙ sym (drop_all 25 zone (omega (arith, less)))
      | inr more ↦ ap (λ k. drop k zone) (enough more)
    ]

-- ---- what is written

-- octets that aren't text have no lines
pub no_text : (number : Option ℕ) (octets old : List ℕ) → (IsUtf8 octets → ⊥) → WritesText number octets old old
no_text number octets old h = record { lines = []; text = λ u. absurd (h u); is = no_lines old }

pub text_written : (number : Option ℕ) (octets old new : List ℕ) → new ≡ old ++ written (named_lines (name_of number) (lines octets)) → WritesText number octets old new
text_written number octets old new h = record { lines = named_lines (name_of number) (lines octets); text = λ u. refl; is = h }

pub plain_written : (octets old new : List ℕ) → new ≡ old ++ written (lines octets) → WritesText None octets old new
plain_written octets old new h = record { lines = lines octets; text = λ u. same_lines (lines octets); is = h }

module _ (body front zone : List ℕ) (before : front ≡ take (zone_place body) body) (after : zone ≡ drop (zone_place body) body) where
  lines_before : (name : List ℕ) (own : List (List ℕ)) → (IsUtf8 front → own ≡ named_lines name (lines front)) → IsUtf8 body → own ≡ named_lines name (content_in body).lines
  lines_before name own h u = h (subst IsUtf8 (sym before) (front_utf8 body u)) ∙ ap (λ l. named_lines name (lines l)) before

  -- of a body without a zone
  pub body_alone : (zones : List (List ℕ)) (old new : List ℕ) → zone ≡ [] → WritesText None front old new → WritesBody body zones zones old new
  body_alone zones old new none w =
      let nothing : [] ≡ drop (zone_place body) body = sym none ∙ after in
      record {
        zones = ap (λ z. with_zones zones (option_to_list (zone_rest z))) nothing;
        name = name_of None;
        named = subst (λ z. IsNamed zones (zone_rest z) (name_of None)) nothing tt;
        lines = w.lines;
        text = lines_before (name_of None) w.lines w.text;
        is = w.is;
      }

  rest_there : (octets : List ℕ) → (octets ≡ [] → ⊥) → zone_rest octets ≡ Some (drop 25 octets)
  rest_there [] h = absurd (h refl)
  rest_there (c ∷ octets) h = refl

  -- of one in a zone
  pub body_in_zone : (zones_old zones_new : List (List ℕ)) (number place : ℕ) (old new : List ℕ) → (zone ≡ [] → ⊥) → zones_new ≡ with_zone zones_old (drop 25 zone) → number ≡ place + 1
      → slice_get zones_new place ≡ Some (drop 25 zone) → WritesText (Some number) front old new → WritesBody body zones_old zones_new old new
  body_in_zone zones_old zones_new number place old new some zones is at w =
      let rest : Some (drop 25 zone) ≡ zone_rest (drop (zone_place body) body) = sym (rest_there zone some) ∙ ap zone_rest after in
      record {
        zones = zones ∙ ap (λ z. with_zones zones_old (option_to_list z)) rest;
        name = name_of (Some number);
        named = subst (λ z. IsNamed zones_new z (name_of (Some number))) rest (place, at, ap (λ n. name_of (Some n)) is);
        lines = w.lines;
        text = lines_before (name_of (Some number)) w.lines w.text;
        is = w.is;
      }
