-- What a loop has done, after one more element.
-- Cited by slots_of of slots, candidates of taking, decided of taking, left_at of taking, parts_of of taking, slots_in of taking and 2 more.
use Rattle.std.proofs.Common.{◌≡◌, ◌∙◌, ℕ, ◌+◌, ◌<◌, Bool, true, false, cond, List, [], ◌∷◌, ◌++◌, take, length, get_or, sym, ap, subst, inl, inr, append-nil, append_assoc}
use Rattle.std.specs.List.{filter, Contains, AllZip}
use Rattle.std.proofs.lemmas.List.{take_more}
use Rattle.std.proofs.lemmas.List.Elements.{filter-append}
use Rattle.itip_order.proofs.Lists.{in_cons, in_head, in_tail, none_in_nil}

pub zip_both : {X Y : Type 0} (R : X → Y → Type 0) (xs : List X) (ys : List Y) (us : List X) (vs : List Y) → AllZip R xs ys → AllZip R us vs → AllZip R (xs ++ us) (ys ++ vs)
zip_both R [] [] us vs h k = k
zip_both R [] (y ∷ ys) us vs h k = absurd h
zip_both R (x ∷ xs) [] us vs h k = absurd h
zip_both R (x ∷ xs) (y ∷ ys) us vs h k = (h.0, zip_both R xs ys us vs h.1 k)

pub zip_push : {X Y : Type 0} (R : X → Y → Type 0) (xs : List X) (ys : List Y) (x : X) (y : Y) → AllZip R xs ys → R x y → AllZip R (xs ++ x ∷ []) (ys ++ y ∷ [])
zip_push R xs ys x y h r = zip_both R xs ys (x ∷ []) (y ∷ []) h (r, tt)

-- each of the first has one of the second, and each of the second one of the first
pub zip_to : {X Y : Type 0} (R : X → Y → Type 0) (xs : List X) (ys : List Y) (x : X) → AllZip R xs ys → Contains xs x → (y : Y) × Contains ys y × R x y
zip_to R [] ys x z c = absurd (none_in_nil x c)
zip_to R (w ∷ xs) [] x z c = absurd z
zip_to {Y = Y} R (w ∷ xs) (y ∷ ys) x z c = elim (in_cons w xs x c) [
  | inl here ↦ (y, in_head y ys, subst (λ v. R v y) here z.0)
  | inr there ↦ let r = zip_to R xs ys x z.1 there in (r.0, in_tail y ys r.0 r.1, r.2)
]

pub zip_from : {X Y : Type 0} (R : X → Y → Type 0) (xs : List X) (ys : List Y) (y : Y) → AllZip R xs ys → Contains ys y → (x : X) × Contains xs x × R x y
zip_from R xs [] y z c = absurd (none_in_nil y c)
zip_from R [] (w ∷ ys) y z c = absurd z
zip_from R (x ∷ xs) (w ∷ ys) y z c = elim (in_cons w ys y c) [
  | inl here ↦ (x, in_head x xs, subst (R x) here z.0)
  | inr there ↦ let r = zip_from R xs ys y z.1 there in (r.0, in_tail x xs r.0 r.1, r.2)
]

-- the elements up to a place, and the one there
pub one_more : {X : Type 0} (xs : List X) (i : ℕ) (x : X) → i < length xs → x ≡ get_or xs i x → take (i + 1) xs ≡ take i xs ++ x ∷ []
one_more xs i x h e = take_more xs i x h ∙ ap (λ z. take i xs ++ z ∷ []) (sym e)

pub filter_push : {X : Type 0} (f : X → Bool) (xs : List X) (x : X) → filter f (xs ++ x ∷ []) ≡ filter f xs ++ cond (f x) (x ∷ []) []
filter_push f xs x = filter-append f xs (x ∷ [])

-- one that passes the test is added to those that did, another isn't
pub filter_yes : {X : Type 0} (f : X → Bool) (xs ys : List X) (x : X) → ys ≡ filter f xs → f x ≡ true → ys ++ x ∷ [] ≡ filter f (xs ++ x ∷ [])
filter_yes f xs ys x h e = sym (filter_push f xs x ∙ ap (λ b. filter f xs ++ cond b (x ∷ []) []) e ∙ ap (λ l. l ++ x ∷ []) (sym h))

pub filter_no : {X : Type 0} (f : X → Bool) (xs ys : List X) (x : X) → ys ≡ filter f xs → f x ≡ false → ys ≡ filter f (xs ++ x ∷ [])
filter_no f xs ys x h e = h ∙ sym (filter_push f xs x ∙ ap (λ b. filter f xs ++ cond b (x ∷ []) []) e ∙ append-nil (filter f xs))

-- one more element of what is gone through
pub walked : {X : Type 0} (done left rest all : List X) (x : X) → left ≡ x ∷ rest → done ++ left ≡ all → (done ++ x ∷ []) ++ rest ≡ all
walked done left rest all x e h = append_assoc done (x ∷ []) rest ∙ ap (λ l. done ++ l) (sym e) ∙ h
