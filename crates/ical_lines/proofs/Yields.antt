-- An iterator that gives a list: what a step says about the list that is left.
use Rattle.std.proofs.Common.{◌≡◌, refl, sym, ap, List, [], ◌∷◌, Option, None, Some}
use Rattle.std.specs.Iterator.{AlwaysYields}

pub some_more : {S A B : Type 0} (steps : S → Option A → S → Type 0) (v : A → B) (s t : S) (x : A) (left : List B) → AlwaysYields steps v s left → steps s (Some x) t → (rest : List B) × (left ≡ v x ∷ rest) × AlwaysYields steps v t rest
some_more steps v s t x [] y h = absurd (y x t h)
some_more steps v s t x (z ∷ zs) y h = let m = y.1 x t h in (zs, ap (λ w. w ∷ zs) (sym m.0), m.1)

pub none_more : {S A B : Type 0} (steps : S → Option A → S → Type 0) (v : A → B) (s t : S) (left : List B) → AlwaysYields steps v s left → steps s None t → left ≡ []
none_more steps v s t [] y h = refl
none_more steps v s t (z ∷ zs) y h = absurd (y.0 t h)
