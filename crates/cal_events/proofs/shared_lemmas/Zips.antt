-- Two lists that are related element by element.
-- Behind Calendar::of_object of calendar, Calendar::read of calendar, one_event of component, Draft::add of draft, Draft::into_calendar of draft, add_singles of draft and 8 more.
use Rattle.std.proofs.Common.{◌≡◌, zero, suc, List, [], ◌∷◌, length, subst, refl, ap, arith}
use Rattle.std.specs.Prelude.{Contains}
use Rattle.std.specs.List.{AllZip}

-- where each has one value, so has the list
pub zip_one : {A V : Type 0} (R : A → V → Type 0) → ((x : A) (a b : V) → R x a → R x b → a ≡ b) → (xs : List A) (vs ws : List V) → AllZip R xs vs → AllZip R xs ws → vs ≡ ws
zip_one R f [] [] [] h k = refl
zip_one R f [] [] (w ∷ ws) h k = absurd k
zip_one R f [] (v ∷ vs) ws h k = absurd h
zip_one R f (x ∷ xs) [] ws h k = absurd h
zip_one R f (x ∷ xs) (v ∷ vs) [] h k = absurd k
zip_one R f (x ∷ xs) (v ∷ vs) (w ∷ ws) h k = let e = f x v w h.0 k.0 in let t = zip_one R f xs vs ws h.1 k.1 in λ i. e i ∷ t i

-- each of the one has its value in the other
pub zip_at : {A V : Type 0} (R : A → V → Type 0) (xs : List A) (vs : List V) (x : A) → AllZip R xs vs → Contains xs x → (v : V) × R x v
zip_at R [] vs x h (k, w, e) = absurd (omega arith)
zip_at R (y ∷ xs) [] x h c = absurd h
zip_at R (y ∷ xs) (v ∷ vs) x h (zero, w, e) = (v, subst (λ z. R z v) e h.0)
zip_at R (y ∷ xs) (v ∷ vs) x h (suc k, w, e) = zip_at R xs vs x h.1 (k, omega arith, e)

pub zip_length : {A V : Type 0} (R : A → V → Type 0) (xs : List A) (vs : List V) → AllZip R xs vs → length xs ≡ length vs
zip_length R [] [] h = refl
zip_length R [] (v ∷ vs) h = absurd h
zip_length R (x ∷ xs) [] h = absurd h
zip_length R (x ∷ xs) (v ∷ vs) h = ap suc (zip_length R xs vs h.1)
