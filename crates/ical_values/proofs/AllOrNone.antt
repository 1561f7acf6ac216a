-- Octets appended piece by piece, and taken back where memory is refused.
use Rattle.std.proofs.Common.{◌≡◌, ◌∙◌, ap, sym, refl, ℕ, ◌+◌, ◌<◌, ◌≤◌, true, false, cond, true≢false, Result, Ok, Err, OnOk, OnErr, is_ok, List, [], ◌∷◌, ◌++◌, length, take, get_or}
use Rattle.std.specs.Result.{is_err}
use Rattle.std.specs.List.{flat_map}
use Rattle.std.proofs.lemmas.Grind.{flat_map-append}
use Rattle.std.proofs.lemmas.List.{append_assoc, append-nil, take_all, take_at, take_more}

more_pieces : {X : Type 0} (f : X → List ℕ) (xs : List X) (i : ℕ) (d : X) → i < length xs → flat_map f (take (i + 1) xs) ≡ flat_map f (take i xs) ++ f (get_or xs i d)
more_pieces f xs i d l =
    ap (flat_map f) (take_more xs i d l) ∙ (flat_map-append f (take i xs) (get_or xs i d ∷ []) ∙ ap (λ z. flat_map f (take i xs) ++ z) (append-nil (f (get_or xs i d))))

pub one_more : {X : Type 0} (f : X → List ℕ) (xs : List X) (i : ℕ) (d : X) (out now new : List ℕ) → i < length xs → now ≡ out ++ flat_map f (take i xs) → new ≡ now ++ f (get_or xs i d) → new ≡ out ++ flat_map f (take (i + 1) xs)
one_more f xs i d out now new l e g =
    g ∙ (ap (λ z. z ++ f (get_or xs i d)) e ∙ (append_assoc out (flat_map f (take i xs)) (f (get_or xs i d)) ∙ ap (λ z. out ++ z) (sym (more_pieces f xs i d l))))

pub all_of_them : {X : Type 0} (f : X → List ℕ) (xs : List X) (i : ℕ) (out now : List ℕ) → length xs ≤ i → now ≡ out ++ flat_map f (take i xs) → now ≡ out ++ flat_map f xs
all_of_them f xs i out now l e = e ∙ ap (λ z. out ++ flat_map f z) (take_all i xs l)

pub taken_back : (out more now after new : List ℕ) (start : ℕ) → start ≡ length out → now ≡ out ++ more → after ≡ now → new ≡ take start after → new ≡ out
taken_back out more now after new start s e a n =
    n ∙ (ap (λ k. take k after) s ∙ (ap (take (length out)) (a ∙ e) ∙ take_at out more (length out) refl))

-- what a call ensures, where it is known to have ended well or not
pub where_ok : {T E : Type 0} (r : Result T E) (P : Type 0) → is_err r ≡ false → OnOk r P → P
where_ok (Ok x) P h p = p
where_ok (Err x) P h p = absurd (true≢false h)

pub where_err : {T E : Type 0} (r : Result T E) (P : Type 0) → is_err r ≡ true → OnErr r P → P
where_err (Ok x) P h p = absurd (true≢false (sym h))
where_err (Err x) P h p = p

pub chosen_ok : {T E : Type 0} (r : Result T E) (new a b : List ℕ) → is_err r ≡ false → new ≡ cond (is_ok r) a b → new ≡ a
chosen_ok (Ok x) new a b h e = e
chosen_ok (Err x) new a b h e = absurd (true≢false h)

pub chosen_err : {T E : Type 0} (r : Result T E) (new a b : List ℕ) → is_err r ≡ true → new ≡ cond (is_ok r) a b → new ≡ b
chosen_err (Ok x) new a b h e = absurd (true≢false (sym h))
chosen_err (Err x) new a b h e = e
