-- The first `stop` outside quotes, and the pieces between them.
use Rattle.std.proofs.Common.{◌≡◌, ℕ, suc, ◌+◌, ◌<◌, ◌≤◌, Bool, true, false, not, ◌&&◌, cond, ltb, eqb, List, [], ◌∷◌, length, take, drop, get_or, refl, ap, subst, sym, ◌∙◌, arith, Option, None, Some, MatchOption, Bor}
use Rattle.std.specs.List.{onto_first}
use Rattle.std.specs.Option.{option_map}
use Rattle.std.specs.Str.{IsUtf8, IsCharBoundary}
use Rattle.std.proofs.lemmas.Bool.Decides.{nat_tests}
use Rattle.std.proofs.lemmas.List.{drop-drop, get_or-drop, length-drop}
use Rattle.std.proofs.lemmas.Str.{IsUtf8-drop, IsCharBoundary-before_ascii, IsCharBoundary-after_ascii}
use Rattle.profile.specs.text.Lines.{outside_from, outside, front, back, pieces_from, pieces}
use Rattle.ical_lines.specs.PiecesOf.{pieces_of}

ltb-suc : (n m : ℕ) → ltb n m ≡ ltb (suc n) (suc m)
ltb-suc n m = grind (arith, nat_tests)

onto_more : (f : List ℕ → List (List ℕ)) (c : ℕ) (cs : List ℕ) (n : ℕ) → onto_first c (take n cs ∷ cond (ltb n (length cs)) (f (drop (n + 1) cs)) []) ≡ take (1 + n) (c ∷ cs) ∷ cond (ltb (1 + n) (length (c ∷ cs))) (f (drop (1 + n + 1) (c ∷ cs))) []
onto_more f c cs n =
    let e : 1 + n ≡ suc n = omega arith in
    let k : suc n + 1 ≡ suc (n + 1) = omega arith in
    rw (e, k) (ap (λ b. (c ∷ take n cs) ∷ cond b (f (drop (n + 1) cs)) []) (ltb-suc n (length cs)))

first_by : (f : List ℕ → List (List ℕ)) (c : ℕ) (cs : List ℕ) (m n : ℕ) (b d : Bool) → cond b (onto_first c (take m cs ∷ cond (ltb m (length cs)) (f (drop (m + 1) cs)) [])) (cond d ([] ∷ f cs) (onto_first c (take n cs ∷ cond (ltb n (length cs)) (f (drop (n + 1) cs)) []))) ≡ take (cond b (1 + m) (cond d 0 (1 + n))) (c ∷ cs) ∷ cond (ltb (cond b (1 + m) (cond d 0 (1 + n))) (length (c ∷ cs))) (f (drop (cond b (1 + m) (cond d 0 (1 + n)) + 1) (c ∷ cs))) []
first_by f c cs m n true d = onto_more f c cs m
first_by f c cs m n false true =
    let e : ltb 0 (suc (length cs)) ≡ true = grind (arith, nat_tests) in
    ap (λ b. [] ∷ cond b (f cs) []) (sym e)
first_by f c cs m n false false = onto_more f c cs n

-- the first piece comes before the first stop, and the others after it
pub pieces_first : (stop : ℕ) (q : Bool) (text : List ℕ) → pieces_from stop q text ≡ take (outside_from stop q text) text ∷ cond (ltb (outside_from stop q text) (length text)) (pieces_from stop false (drop (outside_from stop q text + 1) text)) []
pieces_first stop q [] = refl
pieces_first stop q (c ∷ cs) =
    rw (pieces_first stop (not q) cs, pieces_first stop q cs) (first_by (pieces_from stop false) c cs (outside_from stop (not q) cs) (outside_from stop q cs) (eqb c 34) (eqb c stop && not q))

pub pieces_step : (stop : ℕ) (text f : List ℕ) (r : Option (Bor (List ℕ))) → f ≡ front stop text → MatchOption r (length text ≤ outside stop text) (λ x. (outside stop text < length text) × (x.now ≡ back stop text)) → pieces stop text ≡ f ∷ pieces_of stop (option_map (λ x. x.now) r)
pieces_step stop text f None e h =
    let ended : ltb (outside stop text) (length text) ≡ false = grind (arith, nat_tests, h) in
    pieces_first stop false text ∙ rw (ended, e) refl
pieces_step stop text f (Some x) e h =
    let goes : ltb (outside stop text) (length text) ≡ true = grind (arith, nat_tests, h.0) in
    pieces_first stop false text ∙ rw (goes, e, h.1) refl

-- a text may be cut after an ASCII stop
pub boundary_past : (text bytes rest : List ℕ) (n stop : ℕ) → IsUtf8 text → bytes ≡ text → rest ≡ drop n text → 0 < length rest → (n < length bytes → get_or bytes n 0 ≡ stop) → stop < 128 → IsCharBoundary rest 1
boundary_past text bytes rest n stop u b e h at ascii =
    let l : n < length text = omega (arith, ap length e, length-drop n text) in
    let there : get_or text n 0 ≡ stop = (let P : List ℕ → Type 0 = λ xs. n < length xs → get_or xs n 0 ≡ stop in subst P b at l) in
    let low : get_or text n 0 < 128 = omega arith in
    let first : get_or rest 0 0 ≡ get_or text (n + 0) 0 = ap (λ xs. get_or xs 0 0) e ∙ get_or-drop n text 0 0 in
    let same : n + 0 ≡ n = omega arith in
    let first2 : get_or rest 0 0 < 128 = rw (first, same) low in
    IsCharBoundary-after_ascii rest 0 (rw e (IsUtf8-drop text n u (IsCharBoundary-before_ascii text n l low))) h first2

pub shorter : {B : Type 0} (xs ys : List B) (y : B) → xs ≡ y ∷ ys → length ys < length xs
shorter xs ys y e = omega (arith, ap length e)

-- what comes after a stop that was found
pub cut_past : (text rest after : List ℕ) (n stop : ℕ) → n ≡ outside stop text → rest ≡ drop n text → 0 < length rest → after ≡ drop 1 rest → (outside stop text < length text) × (after ≡ back stop text)
cut_past text rest after n stop e f l g = (omega (arith, e, ap length f, length-drop n text), g ∙ (ap (drop 1) f ∙ (drop-drop 1 n text ∙ ap (λ k. drop (k + 1) text) e)))
