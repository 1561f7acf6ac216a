-- Lists of which no two elements are related, filters of them, and their parts one after another.
-- Cited by busy_beside_series of decide, Views::any_fresh of taking, Views::any_same of taking, Views::unheard of taking, Timeline::change of timeline.
use Rattle.std.proofs.Common.{◌≡◌, ◌∙◌, zero, suc, Bool, true, false, ◌&&◌, cond, List, [], ◌∷◌, ◌++◌, get_or, map, refl, sym, ap, subst, arith, inl, inr}
use Rattle.std.specs.List.{filter, flat_map, Contains, AllPairs}
use Rattle.std.proofs.lemmas.Bool.{true≢false}
use Rattle.std.proofs.lemmas.List.Elements.{Contains-get_or, Contains-append_left, Contains-append_right, Contains-append_cases}
use Rattle.room_books.specs.Room.{Pairwise}
use Rattle.itip_order.proofs.Lists.{in_cons, in_head, in_tail, none_in_nil, filter_at}

module _ {X : Type 0} where
  pub pairs_from : (R : X → X → Type 0) (xs : List X) → Pairwise R xs → AllPairs R xs
  pairs_from R [] p i j d lt l = absurd (omega arith)
  pairs_from R (x ∷ xs) p i zero d lt l = absurd (omega arith)
  pairs_from R (x ∷ xs) p zero (suc j) d lt l = p.0 (get_or xs j d) (Contains-get_or xs j d (omega arith))
  pairs_from R (x ∷ xs) p (suc i) (suc j) d lt l = pairs_from R xs p.1 i j d (omega arith) (omega arith)

  pub pairs_append : (R : X → X → Type 0) (xs ys : List X) → Pairwise R xs → Pairwise R ys → ((x y : X) → Contains xs x → Contains ys y → R x y) → Pairwise R (xs ++ ys)
  pairs_append R [] ys p q f = q
  pairs_append R (x ∷ xs) ys p q f = (
    λ y c. elim (Contains-append_cases xs ys y c) [ inl l ↦ p.0 y l | inr r ↦ f x y (in_head x xs) r ],
    pairs_append R xs ys p.1 q (λ a b c k. f a b (in_tail x xs a c) k),
  )

  cond_pairs : (R : X → X → Type 0) (b : Bool) (x : X) (xs : List X) → ((y : X) → Contains xs y → R x y) → Pairwise R xs → Pairwise R (cond b (x ∷ xs) xs)
  cond_pairs R true x xs f p = (f, p)
  cond_pairs R false x xs f p = p

  pub pairs_filter : (R : X → X → Type 0) (f : X → Bool) (xs : List X) → Pairwise R xs → Pairwise R (filter f xs)
  pairs_filter R f [] p = tt
  pairs_filter R f (x ∷ xs) p = cond_pairs R (f x) x (filter f xs) (λ y c. p.0 y (filter_at f xs y c).0) (pairs_filter R f xs p.1)

  -- ---- filters

  both_tests : (a b : Bool) (x : X) (xs ys : List X) → xs ≡ ys → (a ≡ true → b ≡ true) → (f : X → Bool) → f x ≡ a → cond a (x ∷ xs) xs ≡ filter f (cond b (x ∷ []) []) ++ ys
  both_tests true true x xs ys e k f h = ap (λ l. x ∷ l) e ∙ sym (ap (λ c. cond c (x ∷ []) [] ++ ys) h)
  both_tests true false x xs ys e k f h = absurd (true≢false (sym (k refl)))
  both_tests false true x xs ys e k f h = e ∙ sym (ap (λ c. cond c (x ∷ []) [] ++ ys) h)
  both_tests false false x xs ys e k f h = e

  through_cond : (f : X → Bool) (b : Bool) (x : X) (xs : List X) → filter f (cond b (x ∷ xs) xs) ≡ filter f (cond b (x ∷ []) []) ++ filter f xs
  through_cond f true x xs = cond_joined (f x) x (filter f xs)
    where
      cond_joined : (b : Bool) (x : X) (ys : List X) → cond b (x ∷ ys) ys ≡ cond b (x ∷ []) [] ++ ys
      cond_joined true x ys = refl
      cond_joined false x ys = refl
  through_cond f false x xs = refl

  -- a weaker test first changes nothing
  pub filter_through : (f g : X → Bool) (xs : List X) → ((x : X) → Contains xs x → f x ≡ true → g x ≡ true) → filter f xs ≡ filter f (filter g xs)
  filter_through f g [] h = refl
  filter_through f g (x ∷ xs) h =
      both_tests (f x) (g x) x (filter f xs) (filter f (filter g xs)) (filter_through f g xs (λ y c. h y (in_tail x xs y c))) (h x (in_head x xs)) f refl
      ∙ sym (through_cond f (g x) x (filter g xs))

  and_cond : (a b : Bool) (x : X) (xs ys : List X) → xs ≡ ys → (f : X → Bool) → f x ≡ a → cond (a && b) (x ∷ xs) xs ≡ filter f (cond b (x ∷ []) []) ++ ys
  and_cond true true x xs ys e f h = ap (λ l. x ∷ l) e ∙ sym (ap (λ c. cond c (x ∷ []) [] ++ ys) h)
  and_cond true false x xs ys e f h = e
  and_cond false true x xs ys e f h = e ∙ sym (ap (λ c. cond c (x ∷ []) [] ++ ys) h)
  and_cond false false x xs ys e f h = e

  pub filter_and : (f g : X → Bool) (xs : List X) → filter (λ x. f x && g x) xs ≡ filter f (filter g xs)
  filter_and f g [] = refl
  filter_and f g (x ∷ xs) = and_cond (f x) (g x) x (filter (λ y. f y && g y) xs) (filter f (filter g xs)) (filter_and f g xs) f refl ∙ sym (through_cond f (g x) x (filter g xs))

module _ {X Y : Type 0} where
  -- ---- lists one after another

  pub flat_at : (f : X → List Y) (xs : List X) (y : Y) → Contains (flat_map f xs) y → (x : X) × Contains xs x × Contains (f x) y
  flat_at f [] y c = absurd (none_in_nil y c)
  flat_at f (x ∷ xs) y c =
      elim (Contains-append_cases (f x) (flat_map f xs) y c) [
        | inl here ↦ (x, in_head x xs, here)
        | inr there ↦ let rest = flat_at f xs y there in (rest.0, in_tail x xs rest.0 rest.1, rest.2)
      ]

  pub flat_from : (f : X → List Y) (xs : List X) (x : X) (y : Y) → Contains xs x → Contains (f x) y → Contains (flat_map f xs) y
  flat_from f [] x y c k = absurd (none_in_nil x c)
  flat_from f (z ∷ xs) x y c k =
      elim (in_cons z xs x c) [
        | inl here ↦ Contains-append_left (f z) (flat_map f xs) y (subst (λ (w : X). Contains (f w) y) (sym here) k)
        | inr there ↦ Contains-append_right (f z) (flat_map f xs) y (flat_from f xs x y there k)
      ]

  pub flat_same : (f g : X → List Y) (xs : List X) → ((x : X) → Contains xs x → f x ≡ g x) → flat_map f xs ≡ flat_map g xs
  flat_same f g [] h = refl
  flat_same f g (x ∷ xs) h =
      let first = h x (in_head x xs) in
      let rest = flat_same f g xs (λ y c. h y (in_tail x xs y c)) in
      λ i. first i ++ rest i

  pub map_at : (f : X → Y) (xs : List X) (y : Y) → Contains (map f xs) y → (x : X) × Contains xs x × (f x ≡ y)
  map_at f [] y c = absurd (none_in_nil y c)
  map_at f (x ∷ xs) y c =
      elim (in_cons (f x) (map f xs) y c) [
        | inl here ↦ (x, in_head x xs, here)
        | inr there ↦ let rest = map_at f xs y there in (rest.0, in_tail x xs rest.0 rest.1, rest.2)
      ]

  pub pairs_map : (R : Y → Y → Type 0) (f : X → Y) (xs : List X) → Pairwise (λ a b. R (f a) (f b)) xs → Pairwise R (map f xs)
  pairs_map R f [] p = tt
  pairs_map R f (x ∷ xs) p = (
    λ y c. let found = map_at f xs y c in subst (λ (z : Y). R (f x) z) found.2 (p.0 found.0 found.1),
    pairs_map R f xs p.1,
  )

  pub map_from : (f : X → Y) (xs : List X) (x : X) → Contains xs x → Contains (map f xs) (f x)
  map_from f [] x c = absurd (none_in_nil x c)
  map_from f (y ∷ xs) x c =
      elim (in_cons y xs x c) [
        | inl here ↦ subst (λ (z : X). Contains (map f (y ∷ xs)) (f z)) here (in_head (f y) (map f xs))
        | inr there ↦ in_tail (f y) (map f xs) (f x) (map_from f xs x there)
      ]
