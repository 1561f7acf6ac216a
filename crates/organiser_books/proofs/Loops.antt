-- Lists that are gone through, and filters of them.
use Rattle.std.proofs.Common.{◌≡◌, ◌∙◌, ℕ, ◌+◌, ◌<◌, Bool, true, false, ◌&&◌, ◌||◌, cond, List, [], ◌∷◌, ◌++◌, map, take, length, get_or, refl, sym, ap, append-nil, append_assoc}
use Rattle.std.specs.List.{flat_map, filter, list_any, Contains}
use Rattle.std.proofs.lemmas.List.{take_more}
use Rattle.std.proofs.lemmas.Grind.{flat_map-append}
use Rattle.std.proofs.lemmas.List.Elements.{filter-append}
use Rattle.std.proofs.lemmas.List.Folds.{list_any-append}
use Rattle.itip_order.proofs.Lists.{in_head, in_tail}

-- the elements up to a place, and the one there
pub one_more : {X : Type 0} (xs : List X) (i : ℕ) (x : X) → i < length xs → x ≡ get_or xs i x → take (i + 1) xs ≡ take i xs ++ x ∷ []
one_more xs i x h e = take_more xs i x h ∙ ap (λ z. take i xs ++ z ∷ []) (sym e)

-- one more element of what is gone through
pub walked : {X : Type 0} (done left rest all : List X) (x : X) → left ≡ x ∷ rest → done ++ left ≡ all → (done ++ x ∷ []) ++ rest ≡ all
walked done left rest all x e h = append_assoc done (x ∷ []) rest ∙ ap (λ l. done ++ l) (sym e) ∙ h

pub flat_push : {X Y : Type 0} (f : X → List Y) (xs : List X) (x : X) → flat_map f (xs ++ x ∷ []) ≡ flat_map f xs ++ f x
flat_push f xs x = flat_map-append f xs (x ∷ []) ∙ ap (λ l. flat_map f xs ++ l) (append-nil (f x))

-- one that passes the test is added to those that did, another isn't
pub filter_yes : {X : Type 0} (f : X → Bool) (xs : List X) (x : X) → f x ≡ true → filter f (xs ++ x ∷ []) ≡ filter f xs ++ x ∷ []
filter_yes f xs x e = filter-append f xs (x ∷ []) ∙ ap (λ b. filter f xs ++ cond b (x ∷ []) []) e

pub filter_no : {X : Type 0} (f : X → Bool) (xs : List X) (x : X) → f x ≡ false → filter f (xs ++ x ∷ []) ≡ filter f xs
filter_no f xs x e = filter-append f xs (x ∷ []) ∙ ap (λ b. filter f xs ++ cond b (x ∷ []) []) e ∙ append-nil (filter f xs)

or_false : (b : Bool) → (b || false) ≡ b
or_false true = refl
or_false false = refl

pub any_push : {X : Type 0} (p : X → Bool) (xs : List X) (x : X) → list_any p (xs ++ x ∷ []) ≡ (list_any p xs || p x)
any_push p xs x = list_any-append p xs (x ∷ []) ∙ ap (λ b. list_any p xs || b) (or_false (p x))

pub any_map : {X Y : Type 0} (p : Y → Bool) (f : X → Y) (xs : List X) → list_any p (map f xs) ≡ list_any (λ x. p (f x)) xs
any_map p f [] = refl
any_map p f (x ∷ xs) = ap (λ b. p (f x) || b) (any_map p f xs)

pub any_flat : {X Y : Type 0} (p : Y → Bool) (f : X → List Y) (xs : List X) → list_any p (flat_map f xs) ≡ list_any (λ x. list_any p (f x)) xs
any_flat p f [] = refl
any_flat p f (x ∷ xs) = list_any-append p (f x) (flat_map f xs) ∙ ap (λ b. list_any p (f x) || b) (any_flat p f xs)

pub flat_of_map : {X Y Z : Type 0} (f : Y → List Z) (g : X → Y) (xs : List X) → flat_map f (map g xs) ≡ flat_map (λ x. f (g x)) xs
flat_of_map f g [] = refl
flat_of_map f g (x ∷ xs) = ap (λ l. f (g x) ++ l) (flat_of_map f g xs)

-- one filter after another
pub filter_both : {X : Type 0} (p q : X → Bool) (xs : List X) → filter p (filter q xs) ≡ filter (λ x. q x && p x) xs
filter_both p q [] = refl
filter_both {X} p q (x ∷ xs) = by (q x) (filter_both p q xs)
  where
    by : (b : Bool) → filter p (filter q xs) ≡ filter (λ y. q y && p y) xs
        → filter p (cond b (x ∷ filter q xs) (filter q xs)) ≡ cond (b && p x) (x ∷ filter (λ y. q y && p y) xs) (filter (λ y. q y && p y) xs)
    by true h = ap (λ l. cond (p x) (x ∷ l) l) h
    by false h = h

-- a filter by what is said of the elements, and one by the elements
pub filter_of_map : {X Y : Type 0} (g : X → Y) (f : X → Bool) (p : Y → Bool) (xs : List X) → ((x : X) → Contains xs x → f x ≡ p (g x)) → map g (filter f xs) ≡ filter p (map g xs)
filter_of_map g f p [] h = refl
filter_of_map g f p (x ∷ xs) h = by (f x) (p (g x)) (h x (in_head x xs)) (filter_of_map g f p xs (λ y c. h y (in_tail x xs y c)))
  where
    by : (a b : Bool) → a ≡ b → map g (filter f xs) ≡ filter p (map g xs) → map g (cond a (x ∷ filter f xs) (filter f xs)) ≡ cond b (g x ∷ filter p (map g xs)) (filter p (map g xs))
    by true b e r = ap (λ c. cond c (g x ∷ map g (filter f xs)) (map g (filter f xs))) e ∙ ap (λ l. cond b (g x ∷ l) l) r
    by false b e r = ap (λ c. cond c (g x ∷ map g (filter f xs)) (map g (filter f xs))) e ∙ ap (λ l. cond b (g x ∷ l) l) r

pub same_filter : {X : Type 0} (p q : X → Bool) → ((y : X) → p y ≡ q y) → (xs : List X) → filter p xs ≡ filter q xs
same_filter p q h [] = refl
same_filter p q h (x ∷ xs) = (λ i. cond (h x i) (x ∷ same_filter p q h xs i) (same_filter p q h xs i))
