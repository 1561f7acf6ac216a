-- Tests of all or some elements of a list, against membership.
use Rattle.std.proofs.Common.{◌≤◌, length, ◌≡◌, Bool, true, false, cond, List, [], ◌∷◌, ◌⊎◌, inl, inr, sym, subst, arith}
use Rattle.std.specs.List.{list_all, list_any, Contains, filter}
use Rattle.std.proofs.lemmas.Bool.{true≢false}
use Rattle.std.proofs.lemmas.List.Sums.{AllPass-from_list_all, list_all-from_AllPass}
use Rattle.std.proofs.lemmas.List.Folds.{Any-from_list_any, list_any-from_Any}
use Rattle.std.proofs.lemmas.List.Elements.{All-contains, Contains-get_or, All-filter, All-contains_itself, filter_passes, Contains-append_left, Contains-append_right, Contains-push, Contains-push_cases, Contains-append_cases}

module _ {X : Type 0} where
  pub all_at : (p : X → Bool) (xs : List X) (x : X) → list_all p xs ≡ true → Contains xs x → p x ≡ true
  all_at p xs x h c = All-contains (λ y. p y ≡ true) xs x (AllPass-from_list_all p xs h) c

  pub all_from : (p : X → Bool) (xs : List X) → ((x : X) → Contains xs x → p x ≡ true) → list_all p xs ≡ true
  all_from p xs f = list_all-from_AllPass p xs (λ k d lt. f _ (Contains-get_or xs k d lt))

  pub any_from : (p : X → Bool) (xs : List X) (x : X) → Contains xs x → p x ≡ true → list_any p xs ≡ true
  any_from p xs x c h = list_any-from_Any p xs (c.0, x, c.1, c.2, h)

  -- an element that passes
  pub any_at : (p : X → Bool) (xs : List X) → list_any p xs ≡ true → (x : X) × Contains xs x × (p x ≡ true)
  any_at p xs h = let a = Any-from_list_any p xs h in (a.1, (a.0, a.2, a.3), a.4)

  pub none_in_nil : (x : X) → Contains [] x → ⊥
  none_in_nil x c = omega (arith, c.1)

  pub in_head : (x : X) (xs : List X) → Contains (x ∷ xs) x
  in_head x xs = Contains-append_left (x ∷ []) xs x (Contains-push [] x)

  pub in_tail : (y : X) (xs : List X) (x : X) → Contains xs x → Contains (y ∷ xs) x
  in_tail y xs x c = Contains-append_right (y ∷ []) xs x c

  -- an element is the first or one of the others
  pub in_cons : (y : X) (xs : List X) (x : X) → Contains (y ∷ xs) x → (y ≡ x) ⊎ Contains xs x
  in_cons y xs x c =
      elim (Contains-append_cases (y ∷ []) xs x c) [
        | inl here ↦ elim (Contains-push_cases [] y x here) [ inl none ↦ absurd (none_in_nil x none) | inr same ↦ inl same ]
        | inr there ↦ inr there
      ]

  filter_cons : (y : X) (b : Bool) (ys : List X) (x : X) → Contains ys x → Contains (cond b (y ∷ ys) ys) x
  filter_cons y true ys x c = in_tail y ys x c
  filter_cons y false ys x c = c

  filter_head : (y : X) (b : Bool) (ys : List X) → b ≡ true → Contains (cond b (y ∷ ys) ys) y
  filter_head y true ys e = in_head y ys
  filter_head y false ys e = absurd (true≢false (sym e))

  -- a filter has the elements that pass
  pub filter_from : (f : X → Bool) (xs : List X) (x : X) → Contains xs x → f x ≡ true → Contains (filter f xs) x
  filter_from f [] x c e = c
  filter_from f (y ∷ ys) x c e =
      elim (in_cons y ys x c) [
        | inl same ↦
            let P : X → Type 0 = λ z. Contains (filter f (y ∷ ys)) z in
            let Q : X → Type 0 = λ z. f z ≡ true in
            subst P same (filter_head y (f y) (filter f ys) (subst Q (sym same) e))
        | inr there ↦ filter_cons y (f y) (filter f ys) x (filter_from f ys x there e)
      ]

  pub filter_at : (f : X → Bool) (xs : List X) (x : X) → Contains (filter f xs) x → Contains xs x × (f x ≡ true)
  filter_at f xs x c = (
    All-contains (λ y. Contains xs y) (filter f xs) x (All-filter f (λ y. Contains xs y) xs (All-contains_itself xs)) c,
    All-contains (λ y. f y ≡ true) (filter f xs) x (filter_passes f xs) c,
  )

  cond_no_longer : (b : Bool) (x : X) (xs ys : List X) → length xs ≤ length ys → length (cond b (x ∷ xs) xs) ≤ length (x ∷ ys)
  cond_no_longer true x xs ys le = omega arith
  cond_no_longer false x xs ys le = omega arith

  pub filter_no_longer : (f : X → Bool) (xs : List X) → length (filter f xs) ≤ length xs
  filter_no_longer f [] = omega arith
  filter_no_longer f (x ∷ xs) = cond_no_longer (f x) x (filter f xs) xs (filter_no_longer f xs)
