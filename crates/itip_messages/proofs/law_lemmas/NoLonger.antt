-- Elements that differ and are all in a list are no more than it has.
-- Behind refreshes_are_heard, replies_are_heard.
use Rattle.std.proofs.Common.{◌≡◌, ◌∙◌, ℕ, suc, ◌<◌, ◌≤◌, Bool, true, false, ◌||◌, eqb, List, [], ◌∷◌, length, get_or, refl, sym, ap, subst, arith}
use Rattle.std.specs.Prelude.{AllPairs, Contains}
use Rattle.std.specs.List.{AllByRecursion, IsDistinct, list_any}
use Rattle.std.proofs.lemmas.Bool.{eqb-true, false≢true}
use Rattle.std.proofs.lemmas.List.{get_or_default}
use Rattle.std.proofs.lemmas.Map.Keys.{IsDistinct-cons}
use Rattle.std.proofs.lemmas.Map.Steps.{length-le_from_distinct_below}
use Rattle.cal_events.proofs.shared_lemmas.InOneOrder.{head_pairs, tail_pairs}
use Rattle.itip_order.proofs.Lists.{in_head, in_tail}

is_below : (q p n : ℕ) (b : Bool) → (eqb q p || b) ≡ true → p < n → (b ≡ true → q < n) → q < n
is_below q p n b h l f = by (eqb q p) refl h
  where
    by : (t : Bool) → eqb q p ≡ t → (t || b) ≡ true → q < n
    by true e h = omega (arith, eqb-true q p e, l)
    by false e h = f h

module _ {X : Type 0} (R : X → X → Type 0) (apart : (x : X) → R x x → ⊥) (ys : List X) where
  -- the places that they have in it
  abbrev places : (xs : List X) → ((x : X) → Contains xs x → Contains ys x) → List ℕ
  places [] f = []
  places (x ∷ xs) f = (f x (in_head x xs)).0 ∷ places xs (λ y c. f y (in_tail x xs y c))

  places_are : (xs : List X) (f : (x : X) → Contains xs x → Contains ys x) → length (places xs f) ≡ length xs
  places_are [] f = refl
  places_are (x ∷ xs) f = ap suc (places_are xs (λ y c. f y (in_tail x xs y c)))

  places_below : (xs : List X) (f : (x : X) → Contains xs x → Contains ys x) (q : ℕ) → list_any (eqb q) (places xs f) ≡ true → q < length ys
  places_below [] f q h = absurd (false≢true h)
  places_below (x ∷ xs) f q h = is_below q (f x (in_head x xs)).0 (length ys) (list_any (eqb q) (places xs (λ y c. f y (in_tail x xs y c)))) h (f x (in_head x xs)).1 (places_below xs (λ y c. f y (in_tail x xs y c)) q)

  differ : (x y : X) (c : Contains ys x) (d : Contains ys y) → R x y → eqb c.0 d.0 ≡ false
  differ x y c d r = by (eqb c.0 d.0) refl
    where
      by : (t : Bool) → eqb c.0 d.0 ≡ t → t ≡ false
      by true e =
          let at : c.0 ≡ d.0 = eqb-true c.0 d.0 e in
          let one : x ≡ y = sym c.2 ∙ get_or_default ys c.0 x y c.1 ∙ ap (λ (k : ℕ). get_or ys k y) at ∙ d.2 in
          absurd (apart y (subst (λ (z : X). R z y) one r))
      by false e = refl

  first_apart : (x : X) (c : Contains ys x) (xs : List X) (f : (y : X) → Contains xs y → Contains ys y) → ((y : X) → Contains xs y → R x y) → AllByRecursion (λ n. eqb c.0 n ≡ false) (places xs f)
  first_apart x c [] f h = tt
  first_apart x c (y ∷ xs) f h = (differ x y c (f y (in_head y xs)) (h y (in_head y xs)), first_apart x c xs (λ z d. f z (in_tail y xs z d)) (λ z d. h z (in_tail y xs z d)))

  places_distinct : (xs : List X) (f : (x : X) → Contains xs x → Contains ys x) → AllPairs R xs → IsDistinct eqb (places xs f)
  unfolding IsDistinct
  places_distinct [] f p = tt
  places_distinct (x ∷ xs) f p =
      IsDistinct-cons eqb (f x (in_head x xs)).0 (places xs (λ y c. f y (in_tail x xs y c)))
      (first_apart x (f x (in_head x xs)) xs (λ y c. f y (in_tail x xs y c)) (λ y c. head_pairs R x y xs p c))
      (places_distinct xs (λ y c. f y (in_tail x xs y c)) (tail_pairs R x xs p))

  pub no_longer : (xs : List X) → AllPairs R xs → ((x : X) → Contains xs x → Contains ys x) → length xs ≤ length ys
  no_longer xs p f = omega (arith, places_are xs f, length-le_from_distinct_below (places xs f) (length ys) (places_distinct xs f p) (places_below xs f))
