-- Lists: what is chosen for each element, a permutation of what a function gives, and hosts of which none is there twice.
use Rattle.std.proofs.Common.{◌≡◌, ◌∙◌, ℕ, ◌<◌, List, [], ◌∷◌, ◌++◌, length, map, get_or, set, refl, sym, ap, arith}
use Rattle.std.specs.Prelude.{All, IsPermutation, swap}
use Rattle.std.proofs.lemmas.List.{length-map, map-set, get_or-map}
use Rattle.std.proofs.lemmas.List.Sorted.{IsPermutation-keeps, IsPermutation-refl, IsPermutation-swap, IsPermutation-trans}
use Rattle.std.proofs.lemmas.List.Elements.{All-nil, All-cons, All-head, All-tail}

-- for each element there is something that fits it
pub chosen : {X Y : Type 0} (f : Y → X) (P : Y → Type 0) (xs : List X) → All (λ x. (y : Y) × (f y ≡ x) × P y) xs
    → (ys : List Y) × (map f ys ≡ xs) × All P ys
chosen f P [] h = ([], refl, All-nil P)
chosen {X} {Y} f P (x ∷ xs) h =
    let Q : X → Type 0 = λ x. (y : Y) × (f y ≡ x) × P y in
    let (y, is, fits) = All-head Q x xs h in
    let (ys, are, fit) = chosen f P xs (All-tail Q x xs h) in
    (y ∷ ys, ap (λ z. z ∷ map f ys) is ∙ ap (λ zs. x ∷ zs) are, All-cons P y ys fits fit)

mapped_swap : {X Y : Type 0} (f : Y → X) (ys : List Y) (i j : ℕ) → i < length ys → j < length ys → map f (swap ys i j) ≡ swap (map f ys) i j
mapped_swap f [] i j p q = refl
mapped_swap f (y ∷ ys) i j p q =
    let all = y ∷ ys in
    map-set f (set all i (get_or all j y)) j (get_or all i y)
    ∙ ap (λ l. set l j (f (get_or all i y))) (map-set f all i (get_or all j y))
    ∙ ap (λ x. set (set (map f all) i x) j (f (get_or all i y))) (sym (get_or-map f all j y (f y) q))
    ∙ ap (λ x. set (set (map f all) i (get_or (map f all) j (f y))) j x) (sym (get_or-map f all i y (f y) p))

-- a permutation of what f gives is given by a permutation
pub permuted : {X Y : Type 0} (f : Y → X) (ys : List Y) (xs : List X) → IsPermutation (map f ys) xs → (zs : List Y) × IsPermutation ys zs × (map f zs ≡ xs)
permuted {X} {Y} f ys = IsPermutation-keeps (map f ys) (λ xs. (zs : List Y) × IsPermutation ys zs × (map f zs ≡ xs)) (ys, IsPermutation-refl ys, refl)
    (λ l i j p q given.
    let (zs, order, is) = given in
    let long : length zs ≡ length l = sym (length-map zs f) ∙ ap length is in
    let first : i < length zs = omega (arith, long) in
    let second : j < length zs = omega (arith, long) in (
      swap zs i j,
      IsPermutation-trans ys zs (swap zs i j) order (IsPermutation-swap zs (swap zs i j) i j first second refl),
      mapped_swap f zs i j first second ∙ ap (λ xs. swap xs i j) is,
    ))

-- what f and g give of each is the same
pub mapped_alike : {X Y : Type 0} (f g : Y → X) (ys : List Y) → All (λ y. f y ≡ g y) ys → map f ys ≡ map g ys
mapped_alike f g [] h = refl
mapped_alike {X} {Y} f g (y ∷ ys) h =
    let Same : Y → Type 0 = λ y. f y ≡ g y in
    ap (λ z. z ∷ map f ys) (All-head Same y ys h) ∙ ap (λ zs. g y ∷ zs) (mapped_alike f g ys (All-tail Same y ys h))

-- of a list and another behind it
pub all_left : {X : Type 0} (P : X → Type 0) (xs ys : List X) → All P (xs ++ ys) → All P xs
all_left P [] ys h = All-nil P
all_left P (x ∷ xs) ys h = All-cons P x xs (All-head P x (xs ++ ys) h) (all_left P xs ys (All-tail P x (xs ++ ys) h))

pub all_right : {X : Type 0} (P : X → Type 0) (xs ys : List X) → All P (xs ++ ys) → All P ys
all_right P [] ys h = h
all_right P (x ∷ xs) ys h = all_right P xs ys (All-tail P x (xs ++ ys) h)

pub map_map : {X Y Z : Type 0} (g : Y → Z) (f : X → Y) (xs : List X) → map g (map f xs) ≡ map (λ x. g (f x)) xs
map_map g f [] = refl
map_map g f (x ∷ xs) = ap (λ l. g (f x) ∷ l) (map_map g f xs)
