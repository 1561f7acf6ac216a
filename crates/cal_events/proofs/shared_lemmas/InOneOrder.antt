-- Lists of which each element comes before each later one.
-- Behind Calendar::of_object of calendar, Calendar::read of calendar, EventComponent::series of component, EventComponent::singles of component, EventComponent::singles_at of component, Draft::add of draft and 26 more.
use Rattle.std.proofs.Common.{◌≡◌, ◌∙◌, ℕ, ◌<◌, zero, suc, Bool, true, false, cond, List, [], ◌∷◌, ◌++◌, map, filter, get_or, length, subst, sym, refl, ap, inl, inr, ◌⊎◌, arith}
use Rattle.std.specs.Prelude.{AllPairs, Contains}

-- what is among x and xs is x, or among xs
pub first_or_later : {X : Type 0} (x y : X) (xs : List X) → Contains (x ∷ xs) y → (x ≡ y) ⊎ Contains xs y
first_or_later x y xs (zero, w, e) = inl e
first_or_later x y xs (suc k, w, e) = inr (k, omega (arith, w), e)

pub later : {X : Type 0} (x y : X) (xs : List X) → Contains xs y → Contains (x ∷ xs) y
later x y xs (k, w, e) = (suc k, omega (arith, w), e)

pub none_in : {X : Type 0} (x : X) → Contains [] x → ⊥
none_in x (k, w, e) = omega (arith, w)

module _ {X : Type 0} (R : X → X → Type 0) where
  -- each later one is so related to the first
  pub head_pairs : (x y : X) (xs : List X) → AllPairs R (x ∷ xs) → Contains xs y → R x y
  head_pairs x y xs p (k, w, e) = subst (R x) e (p 0 (suc k) y (omega arith) (omega (arith, w)))

  pub tail_pairs : (x : X) (xs : List X) → AllPairs R (x ∷ xs) → AllPairs R xs
  tail_pairs x xs p i j d l w = p (suc i) (suc j) d (omega (arith, l)) (omega (arith, w))

  pub cons_pairs : (x : X) (xs : List X) → ((y : X) → Contains xs y → R x y) → AllPairs R xs → AllPairs R (x ∷ xs)
  cons_pairs x xs h p zero zero d l w = absurd (omega (arith, l))
  cons_pairs x xs h p zero (suc j) d l w = h (get_or xs j d) (j, omega (arith, w), same xs j d (omega (arith, w)))
    where
      same : (xs : List X) (j : ℕ) (d : X) → j < length xs → get_or xs j (get_or xs j d) ≡ get_or xs j d
      same [] j d w = absurd (omega (arith, w))
      same (y ∷ ys) zero d w = refl
      same (y ∷ ys) (suc j) d w = same ys j d (omega (arith, w))
  cons_pairs x xs h p (suc i) zero d l w = absurd (omega (arith, l))
  cons_pairs x xs h p (suc i) (suc j) d l w = p i j d (omega (arith, l)) (omega (arith, w))

  pub append_pairs : (xs ys : List X) → AllPairs R xs → AllPairs R ys → ((x y : X) → Contains xs x → Contains ys y → R x y) → AllPairs R (xs ++ ys)
  append_pairs [] ys p q h = q
  append_pairs (x ∷ xs) ys p q h =
      cons_pairs x (xs ++ ys) (λ y c. either y (parts xs ys y c))
      (append_pairs xs ys (tail_pairs x xs p) q (λ a b c. h a b (later x a xs c)))
    where
      parts : (xs ys : List X) (y : X) → Contains (xs ++ ys) y → Contains xs y ⊎ Contains ys y
      parts [] ys y c = inr c
      parts (x ∷ xs) ys y (zero, w, e) = inl (zero, omega arith, e)
      parts (x ∷ xs) ys y (suc k, w, e) = elim (parts xs ys y (k, omega (arith, w), e)) [ inl c ↦ inl (later x y xs c) | inr c ↦ inr c ]

      either : (y : X) → Contains xs y ⊎ Contains ys y → R x y
      either y (inl c) = head_pairs x y xs p c
      either y (inr c) = h x y (zero, omega arith, refl) c

  -- in one order the same elements are one list
  pub one_order : ((x : X) → R x x → ⊥) → ((x y z : X) → R x y → R y z → R x z) → (xs ys : List X) → AllPairs R xs → AllPairs R ys
      → ((x : X) → Contains xs x → Contains ys x) → ((x : X) → Contains ys x → Contains xs x) → xs ≡ ys
  one_order irr trans [] [] p q h k = refl
  one_order irr trans [] (y ∷ ys) p q h k = absurd (none_in y (k y (zero, omega arith, refl)))
  one_order irr trans (x ∷ xs) [] p q h k = absurd (none_in x (h x (zero, omega arith, refl)))
  one_order irr trans (x ∷ xs) (y ∷ ys) p q h k =
      let first : x ≡ y = elim (first_or_later y x ys (h x (zero, omega arith, refl))) [
        | inl e ↦ sym e
        | inr c ↦ elim (first_or_later x y xs (k y (zero, omega arith, refl))) [ inl e ↦ e | inr d ↦ absurd (irr x (trans x y x (head_pairs x y xs p d) (head_pairs y x ys q c))) ]
      ] in
      let rest : xs ≡ ys = one_order irr trans xs ys (tail_pairs x xs p) (tail_pairs y ys q)
      (λ z c. elim (first_or_later y z ys (h z (later x z xs c))) [ inl e ↦ absurd (irr x (subst (R x) (sym (first ∙ e)) (head_pairs x z xs p c))) | inr d ↦ d ])
      (λ z c. elim (first_or_later x z xs (k z (later y z ys c))) [ inl e ↦ absurd (irr y (subst (R y) (sym (sym first ∙ e)) (head_pairs y z ys q c))) | inr d ↦ d ]) in
      λ i. first i ∷ rest i

-- elements of lists that were mapped or filtered
pub in_mapped : {X Y : Type 0} (f : X → Y) (xs : List X) (x : X) → Contains xs x → Contains (map f xs) (f x)
in_mapped f [] x c = absurd (none_in x c)
in_mapped f (y ∷ ys) x (zero, w, e) = (zero, omega arith, ap f e)
in_mapped f (y ∷ ys) x (suc k, w, e) = later (f y) (f x) (map f ys) (in_mapped f ys x (k, omega (arith, w), e))

pub of_mapped : {X Y : Type 0} (f : X → Y) (xs : List X) (y : Y) → Contains (map f xs) y → (x : X) × Contains xs x × (f x ≡ y)
of_mapped f [] y c = absurd (none_in y c)
of_mapped f (x ∷ xs) y (zero, w, e) = (x, (zero, omega arith, refl), e)
of_mapped f (x ∷ xs) y (suc k, w, e) = let r = of_mapped f xs y (k, omega (arith, w), e) in (r.0, later x r.0 xs r.1, r.2)

pub in_filtered : {X : Type 0} (p : X → Bool) (xs : List X) (x : X) → Contains xs x → p x ≡ true → Contains (filter p xs) x
in_filtered p [] x c h = absurd (none_in x c)
in_filtered p (y ∷ ys) x (zero, w, e) h = subst (λ (b : Bool). Contains (cond b (y ∷ filter p ys) (filter p ys)) x) (sym (ap p e ∙ h)) (zero, omega arith, e)
in_filtered p (y ∷ ys) x (suc k, w, e) h = go (p y) (in_filtered p ys x (k, omega (arith, w), e) h)
  where
    go : (b : Bool) → Contains (filter p ys) x → Contains (cond b (y ∷ filter p ys) (filter p ys)) x
    go true c = later y x (filter p ys) c
    go false c = c

pub of_filtered : {X : Type 0} (p : X → Bool) (xs : List X) (x : X) → Contains (filter p xs) x → Contains xs x × (p x ≡ true)
of_filtered p [] x c = absurd (none_in x c)
of_filtered {X} p (y ∷ ys) x c = go (p y) refl c (λ d. of_filtered p ys x d)
  where
    go : (b : Bool) → p y ≡ b → Contains (cond b (y ∷ filter p ys) (filter p ys)) x → (Contains (filter p ys) x → Contains ys x × (p x ≡ true)) → Contains (y ∷ ys) x × (p x ≡ true)
    go true e (zero, w, is) rest = ((zero, omega arith, is), sym (ap p is) ∙ e)
    go true e (suc k, w, is) rest = let r = rest (k, omega (arith, w), is) in (later y x ys r.0, r.1)
    go false e c rest = let r = rest c in (later y x ys r.0, r.1)

-- order of what was mapped
pub pairs_mapped : {X Y : Type 0} (R : Y → Y → Type 0) (f : X → Y) (xs : List X) → AllPairs (λ a b. R (f a) (f b)) xs → AllPairs R (map f xs)
pairs_mapped R f [] p = λ i j d l w. absurd (omega (arith, w))
pairs_mapped R f (x ∷ xs) p =
    cons_pairs R (f x) (map f xs)
    (λ y c. let r = of_mapped f xs y c in subst (R (f x)) r.2 (head_pairs (λ a b. R (f a) (f b)) x r.0 xs p r.1))
    (pairs_mapped R f xs (tail_pairs (λ a b. R (f a) (f b)) x xs p))

pub mapped_pairs : {X Y : Type 0} (R : Y → Y → Type 0) (f : X → Y) (xs : List X) → AllPairs R (map f xs) → AllPairs (λ a b. R (f a) (f b)) xs
mapped_pairs R f [] p = λ i j d l w. absurd (omega (arith, w))
mapped_pairs R f (x ∷ xs) p =
    cons_pairs (λ a b. R (f a) (f b)) x xs (λ y c. head_pairs R (f x) (f y) (map f xs) p (in_mapped f xs y c)) (mapped_pairs R f xs (tail_pairs R (f x) (map f xs) p))
