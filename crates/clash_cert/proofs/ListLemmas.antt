-- Lists of which the elements go together place by place, and lists in an order.
use Rattle.std.proofs.Common.{◌≡◌, ℕ, zero, suc, ◌+◌, ◌<◌, ◌≤◌, List, [], ◌∷◌, ◌++◌, Contains, length, get_or, subst, sym, refl, ap, ◌∙◌, inl, inr, arith}
use Rattle.std.specs.Prelude.{◌⊎◌, All, AllPairs}
use Rattle.std.specs.List.{AllZip}
use Rattle.std.proofs.lemmas.Bool.{cases_order}
use Rattle.std.proofs.lemmas.List.{length-append, get_or_append_left, get_or-append-add}
use Rattle.std.proofs.lemmas.List.Elements.{All-contains, Contains-append_left, Contains-append_right}

module _ {A B : Type 0} (R : A → B → Type 0) where
  pub zip_append : (xs others : List A) (ys more : List B) → AllZip R xs ys → AllZip R others more → AllZip R (xs ++ others) (ys ++ more)
  zip_append [] others [] more h k = k
  zip_append [] others (y ∷ ys) more h k = absurd h
  zip_append (x ∷ xs) others [] more h k = absurd h
  zip_append (x ∷ xs) others (y ∷ ys) more h k = (h.0, zip_append xs others ys more h.1 k)

  -- the first list is cut where the second one is
  pub record IsCut (xs : List A) (ys more : List B) : Type 0 where
    pub front : List A
    pub back : List A
    pub is : xs ≡ front ++ back
    pub first : AllZip R front ys
    pub second : AllZip R back more

  pub zip_cut : (xs : List A) (ys more : List B) → AllZip R xs (ys ++ more) → IsCut xs ys more
  zip_cut xs [] more h = record { front = []; back = xs; is = refl; first = tt; second = h }
  zip_cut [] (y ∷ ys) more h = absurd h
  zip_cut (x ∷ xs) (y ∷ ys) more h =
      let w = zip_cut xs ys more h.1 in
      record { front = x ∷ w.front; back = w.back; is = ap (λ (l : List A). x ∷ l) w.is; first = (h.0, w.first); second = w.second }

  pub zip_none : (ys : List B) → AllZip R [] ys → ys ≡ []
  zip_none [] h = refl
  zip_none (y ∷ ys) h = absurd h

module _ {X : Type 0} where
  pub none_in_nil : (x : X) → Contains [] x → ⊥
  none_in_nil x (k, w, e) = absurd (omega (arith, w))

  pub in_tail : (y : X) (xs : List X) (x : X) → Contains xs x → Contains (y ∷ xs) x
  in_tail y xs x (k, w, e) = (suc k, omega (arith, w), e)

  pub in_head : (x : X) (xs : List X) → Contains (x ∷ xs) x
  in_head x xs = (zero, omega arith, refl)

  pub in_cons : (y : X) (xs : List X) (x : X) → Contains (y ∷ xs) x → (y ≡ x) ⊎ Contains xs x
  in_cons y xs x (zero, w, e) = inl e
  in_cons y xs x (suc k, w, e) = inr (k, omega (arith, w), e)

  module _ (P : X → Type 0) where
    pub all_of : (xs : List X) → ((x : X) → Contains xs x → P x) → All P xs
    all_of xs h k d w = h (get_or xs k d) (go xs k d w)
      where
        go : (xs : List X) (k : ℕ) (d : X) → k < length xs → Contains xs (get_or xs k d)
        go [] k d w = absurd (omega (arith, w))
        go (x ∷ xs) zero d w = in_head x xs
        go (x ∷ xs) (suc k) d w = in_tail x xs (get_or xs k d) (go xs k d (omega (arith, w)))

    pub all_front : (xs ys : List X) → All P (xs ++ ys) → All P xs
    all_front xs ys h = all_of xs (λ x c. All-contains P (xs ++ ys) x h (Contains-append_left xs ys x c))

    pub all_back : (xs ys : List X) → All P (xs ++ ys) → All P ys
    all_back xs ys h = all_of ys (λ y c. All-contains P (xs ++ ys) y h (Contains-append_right xs ys y c))

  module _ (R : X → X → Type 0) where
    pub pairs_nil : AllPairs R []
    pairs_nil i j d l w = absurd (omega (arith, l, w))

    pub pairs_tail : (x : X) (xs : List X) → AllPairs R (x ∷ xs) → AllPairs R xs
    pairs_tail x xs p i j d l w = p (suc i) (suc j) d (omega (arith, l)) (omega (arith, w))

    pub pairs_head : (x : X) (xs : List X) (y : X) → AllPairs R (x ∷ xs) → Contains xs y → R x y
    pairs_head x xs y p (k, w, e) = subst (R x) e (p zero (suc k) y (omega arith) (omega (arith, w)))

    pub pairs_back : (xs ys : List X) → AllPairs R (xs ++ ys) → AllPairs R ys
    pairs_back [] ys p = p
    pairs_back (x ∷ xs) ys p = pairs_back xs ys (pairs_tail x (xs ++ ys) p)

    -- an element of the front and one after it
    pub pairs_across : (xs ys : List X) (x y : X) → AllPairs R (xs ++ ys) → Contains xs x → Contains ys y → R x y
    pairs_across [] ys x y p c d = absurd (none_in_nil x c)
    pairs_across (z ∷ xs) ys x y p (zero, w, e) d = subst (λ (v : X). R v y) e (pairs_head z (xs ++ ys) y p (Contains-append_right xs ys y d))
    pairs_across (z ∷ xs) ys x y p (suc k, w, e) d = pairs_across xs ys x y (pairs_tail z (xs ++ ys) p) (k, omega (arith, w), e) d

    pub pairs_cons : (x : X) (xs : List X) → ((y : X) → Contains xs y → R x y) → AllPairs R xs → AllPairs R (x ∷ xs)
    pairs_cons x xs h p zero zero d l w = absurd (omega (arith, l))
    pairs_cons x xs h p (suc i) zero d l w = absurd (omega (arith, l))
    pairs_cons x xs h p zero (suc j) d l w = all_of (R x) xs h j d (omega (arith, w))
    pairs_cons x xs h p (suc i) (suc j) d l w = p i j d (omega (arith, l)) (omega (arith, w))

    pub pairs_push : (xs : List X) (y : X) → AllPairs R xs → ((x : X) → Contains xs x → R x y) → AllPairs R (xs ++ y ∷ [])
    pairs_push [] y p h = pairs_cons y [] (λ z c. absurd (none_in_nil z c)) pairs_nil
    pairs_push (x ∷ xs) y p h =
        pairs_cons x (xs ++ y ∷ []) (λ z c. elim (split xs z c) [ inl there ↦ pairs_head x xs z p there | inr same ↦ subst (R x) same (h x (in_head x xs)) ])
        (pairs_push xs y (pairs_tail x xs p) (λ z c. h z (in_tail x xs z c)))
      where
        split : (xs : List X) (z : X) → Contains (xs ++ y ∷ []) z → Contains xs z ⊎ (y ≡ z)
        split [] z (zero, w, e) = inr e
        split [] z (suc k, w, e) = absurd (omega (arith, w))
        split (x ∷ xs) z (zero, w, e) = inl (zero, omega arith, e)
        split (x ∷ xs) z (suc k, w, e) = elim (split xs z (k, omega (arith, w), e)) [ inl there ↦ inl (in_tail x xs z there) | inr same ↦ inr same ]

-- a number is one of these, or it isn't
pub contained : (ns : List ℕ) (i : ℕ) → Contains ns i ⊎ (Contains ns i → ⊥)
contained [] i = inr (none_in_nil i)
contained (m ∷ ns) i =
    elim (cases_order m i) [
      | inl e ↦ inl (zero, omega arith, e)
      | inr v ↦ elim (contained ns i) [
        | inl there ↦ inl (in_tail m ns i there)
        | inr none ↦ inr (λ c. elim (in_cons m ns i c) [
          | inl e ↦ elim v [ inl lt ↦ absurd (omega (arith, e, lt)) | inr lt ↦ absurd (omega (arith, e, lt)) ]
          | inr there ↦ none there
        ])
      ]
    ]
