-- A line that begins with a name and a colon right after it.
use Rattle.std.proofs.Common.{◌≡◌, ℕ, suc, ◌+◌, ◌<◌, Bool, true, false, not, ◌&&◌, ◌||◌, ◌==◌, cond, List, [], ◌∷◌, Some, None, length, take, drop, get_or, refl, sym, ap, subst, ◌∙◌, arith}
use Rattle.std.specs.List.{list_all, list_any, position}
use Rattle.std.specs.Prelude.{count_by, ◌%◌}
use Rattle.std.proofs.lemmas.Bool.{and_from}
use Rattle.std.proofs.lemmas.Bool.Decides.{nat_tests}
use Rattle.std.proofs.lemmas.List.{length-take, get_or-take, take-append-drop, drop_more}
use Rattle.std.proofs.lemmas.List.Quantifiers.{position-Some}
use Rattle.profile.specs.text.Lines.{is_name_octet, is_name, is_filled, is_quote, line_value, has_stop}
use Rattle.ical_lines.specs.Breaks.{is_mark}
use Rattle.ical_lines.specs.Plain.{IsPlain, ends_name}
use Rattle.ical_lines.proofs.BreakLemmas.{not_any}
use Rattle.ical_lines.proofs.MarkLemmas.{colon_name, colon_params, colon_value}

-- an octet of a name isn't a mark
no_mark : (c : ℕ) → ends_name c ≡ false → is_mark c ≡ false
no_mark c h = grind (arith, nat_tests, h)

named : (b : Bool) → not b ≡ false → b ≡ true
named true h = refl
named false h = cc

all_by : (p : ℕ → Bool) (xs : List ℕ) → ((k : ℕ) → k < length xs → p (get_or xs k 0) ≡ true) → list_all p xs ≡ true
all_by p [] h = refl
all_by p (x ∷ xs) h = and_from (p x) (list_all p xs) (h 0 (omega arith)) (all_by p xs (λ k l. h (suc k) (omega (arith, l))))

filled : (xs : List ℕ) → 0 < length xs → is_filled xs ≡ true
filled xs w = grind (arith, nat_tests, w)

stopped : (b : Bool) (x y : List ℕ) → Some y ≡ cond b (Some x) None → b ≡ true
stopped true x y e = refl
stopped false x y e = cc

pub plain_at : (line : List ℕ) (i : ℕ) → position ends_name line ≡ Some i → 0 < i → get_or line i 0 ≡ 58 → IsPlain line
plain_at line i e some at =
    let p = position-Some ends_name line i 0 e in
    let inside : length (take i line) ≡ i = omega (arith, p.0, length-take i line) in
    let octet : (k : ℕ) → k < length (take i line) → ends_name (get_or (take i line) k 0) ≡ false =
    λ k l. (let m : k < i = omega (arith, l, inside) in rw (get_or-take i line k 0 m) (p.2 k m)) in
    let plain = not_any is_mark (take i line) (λ k l. no_mark (get_or (take i line) k 0) (octet k l)) in
    let whole = sym (take-append-drop i line) in
    let rest = drop_more line i 0 p.0 ∙ ap (λ c. c ∷ drop (i + 1) line) at in
    let name = colon_name line (take i line) (drop i line) (drop (i + 1) line) whole rest plain in
    let value = colon_value line (take i line) (drop i line) (drop (i + 1) line) whole rest plain in
    record {
      colon = ap (λ b. not b && (not (count_by is_quote line % 2 == 1) || not (list_any (λ c. c == 58) line))) (stopped (has_stop 58 line) (line_value line) (drop (i + 1) line) value);
      name =
          subst (λ (n : List ℕ). is_name n ≡ true) name
          (and_from (is_filled (take i line)) _ (filled (take i line) (omega (arith, some, inside)))
          (all_by is_name_octet (take i line) (λ k l. named (is_name_octet (get_or (take i line) k 0)) (octet k l))));
      params = sym (colon_params line (take i line) (drop i line) (drop (i + 1) line) whole rest plain);
    }
