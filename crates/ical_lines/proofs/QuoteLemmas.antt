-- A value of a parameter without its quotes.
use Rattle.std.proofs.Common.{◌≡◌, ◌≢◌, ◌∙◌, ap, sym, refl, ℕ, suc, ◌+◌, ◌-◌, ◌≤◌, true, false, List, [], ◌∷◌, ◌++◌, length, take, drop, get_or, Option, Some, None, Bor, cond, arith}
use Rattle.std.specs.Prelude.{MatchOption}
use Rattle.std.specs.Option.{unwrap_or}
use Rattle.std.proofs.lemmas.Bool.{false_from_ne_true}
use Rattle.std.proofs.lemmas.Bool.Decides.{nat_tests}
use Rattle.std.proofs.lemmas.List.{get_or_push, length_push, take_all, take_at, take_more}
use Rattle.profile.specs.text.Lines.{is_quoted, unquoted}

quoted_facts : (text : List ℕ) → is_quoted text ≡ true → (2 ≤ length text) × (get_or text 0 0 ≡ 34) × (get_or text (length text - 1) 0 ≡ 34)
quoted_facts text h = grind (arith, nat_tests)

quoted_from : (text : List ℕ) → 2 ≤ length text → get_or text 0 0 ≡ 34 → get_or text (length text - 1) 0 ≡ 34 → is_quoted text ≡ true
quoted_from text l a z = grind (arith, nat_tests)

within_quotes : (inside : List ℕ) → unquoted (34 ∷ (inside ++ 34 ∷ [])) ≡ inside
within_quotes inside =
    let text : List ℕ = 34 ∷ (inside ++ 34 ∷ []) in
    let n : length (inside ++ 34 ∷ []) ≡ length inside + 1 = length_push inside 34 in
    let last : get_or text (length text - 1) 0 ≡ 34 = get_or_push (34 ∷ inside) 34 0 (length text - 1) (omega (arith, n)) in
    let quoted : is_quoted text ≡ true = quoted_from text (omega (arith, n)) refl last in
    let size : length text - 2 ≡ length inside = omega (arith, n) in
    ap (λ b. cond b (take (length text - 2) (inside ++ 34 ∷ [])) text) quoted ∙ (ap (λ m. take m (inside ++ 34 ∷ [])) size ∙ take_at inside (34 ∷ []) (length inside) refl)

not_quoted : (text : List ℕ) → is_quoted text ≡ false → unquoted text ≡ text
not_quoted text h = ap (λ b. cond b (take (length text - 2) (drop 1 text)) text) h

-- one that begins otherwise, or ends otherwise, stays as it is
pub without_first : (text : List ℕ) → ((rest : List ℕ) → text ≢ 34 ∷ rest) → unquoted text ≡ text
without_first [] h = refl
without_first (x ∷ rest) h = not_quoted (x ∷ rest) (false_from_ne_true (is_quoted (x ∷ rest)) (λ q. h rest (ap (λ z. z ∷ rest) (quoted_facts (x ∷ rest) q).1)))

ends_so : (rest : List ℕ) → is_quoted (34 ∷ rest) ≡ true → rest ≡ take (length rest - 1) rest ++ 34 ∷ []
ends_so rest q =
    let f = quoted_facts (34 ∷ rest) q in
    let k = length rest - 1 in
    let place : length (34 ∷ rest) - 1 ≡ suc k = omega (arith, f.0) in
    let last : get_or rest k 0 ≡ 34 = sym (ap (λ n. get_or (34 ∷ rest) n 0) place) ∙ f.2 in
    let all : take (k + 1) rest ≡ rest = take_all (k + 1) rest (omega (arith, f.0)) in
    sym all ∙ (take_more rest k 0 (omega (arith, f.0)) ∙ ap (λ z. take k rest ++ z ∷ []) last)

without_last : (rest : List ℕ) → ((front : List ℕ) → rest ≢ front ++ 34 ∷ []) → unquoted (34 ∷ rest) ≡ 34 ∷ rest
without_last rest h = not_quoted (34 ∷ rest) (false_from_ne_true (is_quoted (34 ∷ rest)) (λ q. h (take (length rest - 1) rest) (ends_so rest q)))

pub cut_quotes : (text : Bor (List ℕ)) (rest : List ℕ) (r : Option (Bor (List ℕ))) → text.now ≡ 34 ∷ rest → MatchOption r ((front : List ℕ) → rest ≢ front ++ (34 ∷ [])) (λ b. rest ≡ b.now ++ (34 ∷ [])) → (unwrap_or r text).now ≡ unquoted text.now
cut_quotes text rest (Some b) e f = sym (ap unquoted (e ∙ ap (λ z. 34 ∷ z) f) ∙ within_quotes b.now)
cut_quotes text rest None e f = sym (ap unquoted e ∙ (without_last rest f ∙ sym e))
