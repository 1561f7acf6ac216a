-- A run that takes the next line of the text in.
use Rattle.std.proofs.Common.{◌≡◌, ℕ, zero, suc, List, [], ◌∷◌, ◌++◌, take, drop, ap, refl}

pub take_grown : {A : Type 0} (n : ℕ) (xs rest : List A) (x : A) → drop n xs ≡ x ∷ rest → take (suc n) xs ≡ take n xs ++ x ∷ []
take_grown zero [] rest x h = cc
take_grown zero (y ∷ ys) rest x h = cc
take_grown (suc n) [] rest x h = cc
take_grown (suc n) (y ∷ ys) rest x h = ap (λ z. y ∷ z) (take_grown n ys rest x h)

pub drop_grown : {A : Type 0} (n : ℕ) (xs : List A) → drop (suc n) xs ≡ drop 1 (drop n xs)
drop_grown zero xs = refl
drop_grown (suc n) [] = refl
drop_grown (suc n) (y ∷ ys) = drop_grown n ys
