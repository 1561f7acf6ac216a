-- Lists in another order.
-- Cited by Meeting::new of kept, put_all of kept, Room::put of room, Views::kept of taking.
use Rattle.std.proofs.Common.{◌≡◌, ◌∙◌, Bool, true, false, not, cond, List, [], ◌∷◌, ◌++◌, length, inl, inr, refl, sym, subst, arith, append-nil, append_assoc}
use Rattle.std.specs.List.{AllZip, Contains, filter, flat_map}
use Rattle.std.specs.List.Sorted.{IsPermutation}
use Rattle.std.proofs.lemmas.List.Sorted.{IsPermutation-cons, IsPermutation-middle, IsPermutation-refl, IsPermutation-trans}
use Rattle.itip_order.proofs.Lists.{in_cons, in_head, in_tail}
use Rattle.room_books.specs.Slots.{Reordered}
use Rattle.room_books.specs.Slots.Reordered.{re_none, re_more, re_turn, re_then}
use Rattle.room_books.specs.Room.{Pairwise}

module _ {X : Type 0} where
  pub re_same : (xs : List X) → Reordered xs xs
  re_same [] = re_none
  re_same (x ∷ xs) = re_more x xs xs (re_same xs)

  pub re_back : (xs ys : List X) → Reordered xs ys → Reordered ys xs
  re_back _ _ re_none = re_none
  re_back _ _ (re_more x xs ys r) = re_more x ys xs (re_back xs ys r)
  re_back _ _ (re_turn x y xs) = re_turn y x xs
  re_back _ _ (re_then xs ys zs p q) = re_then zs ys xs (re_back ys zs q) (re_back xs ys p)

  pub re_right : (zs xs ys : List X) → Reordered xs ys → Reordered (zs ++ xs) (zs ++ ys)
  re_right [] xs ys r = r
  re_right (z ∷ zs) xs ys r = re_more z (zs ++ xs) (zs ++ ys) (re_right zs xs ys r)

  pub re_left : (zs xs ys : List X) → Reordered xs ys → Reordered (xs ++ zs) (ys ++ zs)
  re_left zs _ _ re_none = re_same zs
  re_left zs _ _ (re_more x xs ys r) = re_more x (xs ++ zs) (ys ++ zs) (re_left zs xs ys r)
  re_left zs _ _ (re_turn x y xs) = re_turn x y (xs ++ zs)
  re_left zs _ _ (re_then xs ys ws p q) = re_then (xs ++ zs) (ys ++ zs) (ws ++ zs) (re_left zs xs ys p) (re_left zs ys ws q)

  pub re_both : (a b c d : List X) → Reordered a b → Reordered c d → Reordered (a ++ c) (b ++ d)
  re_both a b c d p q = re_then (a ++ c) (b ++ c) (b ++ d) (re_left c a b p) (re_right b c d q)

  pub re_middle : (xs : List X) (y : X) (ys : List X) → Reordered (xs ++ y ∷ ys) (y ∷ (xs ++ ys))
  re_middle [] y ys = re_same (y ∷ ys)
  re_middle (x ∷ xs) y ys = re_then (x ∷ (xs ++ y ∷ ys)) (x ∷ y ∷ (xs ++ ys)) (y ∷ x ∷ (xs ++ ys)) (re_more x (xs ++ y ∷ ys) (y ∷ (xs ++ ys)) (re_middle xs y ys)) (re_turn x y (xs ++ ys))

  pub re_into : (xs : List X) (y : X) (ys : List X) → Reordered (y ∷ (xs ++ ys)) (xs ++ y ∷ ys)
  re_into xs y ys = re_back (xs ++ y ∷ ys) (y ∷ (xs ++ ys)) (re_middle xs y ys)

  pub re_swapped : (xs ys : List X) → Reordered (xs ++ ys) (ys ++ xs)
  re_swapped [] ys = subst (Reordered ys) (sym (append-nil ys)) (re_same ys)
  re_swapped (x ∷ xs) ys = re_then (x ∷ (xs ++ ys)) (x ∷ (ys ++ xs)) (ys ++ x ∷ xs) (re_more x (xs ++ ys) (ys ++ xs) (re_swapped xs ys)) (re_into ys x xs)

  pub re_in : (xs ys : List X) → Reordered xs ys → (x : X) → Contains xs x → Contains ys x
  re_in _ _ re_none x c = c
  re_in _ _ (re_more w xs ys r) x c = elim (in_cons w xs x c) [
    | inl here ↦ subst (Contains (w ∷ ys)) here (in_head w ys)
    | inr there ↦ in_tail w ys x (re_in xs ys r x there)
  ]
  re_in _ _ (re_turn a b xs) x c = elim (in_cons a (b ∷ xs) x c) [
    | inl here ↦ subst (Contains (b ∷ a ∷ xs)) here (in_tail b (a ∷ xs) a (in_head a xs))
    | inr rest ↦ elim (in_cons b xs x rest) [
      | inl second ↦ subst (Contains (b ∷ a ∷ xs)) second (in_head b (a ∷ xs))
      | inr there ↦ in_tail b (a ∷ xs) x (in_tail a xs x there)
    ]
  ]
  re_in _ _ (re_then xs ys zs p q) x c = re_in ys zs q x (re_in xs ys p x c)

  pub re_length : (xs ys : List X) → Reordered xs ys → length xs ≡ length ys
  re_length _ _ re_none = refl
  re_length _ _ (re_more x xs ys r) = let n = re_length xs ys r in omega (arith, n)
  re_length _ _ (re_turn a b xs) = refl
  re_length _ _ (re_then xs ys zs p q) = re_length xs ys p ∙ re_length ys zs q

  pub re_permutation : (xs ys : List X) → Reordered xs ys → IsPermutation xs ys
  re_permutation _ _ re_none = IsPermutation-refl []
  re_permutation _ _ (re_more x xs ys r) = IsPermutation-cons x xs ys (re_permutation xs ys r)
  re_permutation _ _ (re_turn x y xs) = IsPermutation-middle (x ∷ []) y xs
  re_permutation _ _ (re_then xs ys zs p q) = IsPermutation-trans xs ys zs (re_permutation xs ys p) (re_permutation ys zs q)

  pub re_filter : (f : X → Bool) (xs ys : List X) → Reordered xs ys → Reordered (filter f xs) (filter f ys)
  re_filter f _ _ re_none = re_none
  re_filter f _ _ (re_more x xs ys r) = one (f x) (re_filter f xs ys r)
    where
      one : (b : Bool) → Reordered (filter f xs) (filter f ys) → Reordered (cond b (x ∷ filter f xs) (filter f xs)) (cond b (x ∷ filter f ys) (filter f ys))
      one true h = re_more x (filter f xs) (filter f ys) h
      one false h = h
  re_filter f _ _ (re_turn x y xs) = two (f x) (f y) (filter f xs)
    where
      two : (b c : Bool) (l : List X) → Reordered (cond b (x ∷ cond c (y ∷ l) l) (cond c (y ∷ l) l)) (cond c (y ∷ cond b (x ∷ l) l) (cond b (x ∷ l) l))
      two true true l = re_turn x y l
      two true false l = re_same (x ∷ l)
      two false true l = re_same (y ∷ l)
      two false false l = re_same l
  re_filter f _ _ (re_then xs ys zs p q) = re_then (filter f xs) (filter f ys) (filter f zs) (re_filter f xs ys p) (re_filter f ys zs q)

  -- those that pass a test, and after them the others
  pub re_parts : (f : X → Bool) (xs : List X) → Reordered xs (filter f xs ++ filter (λ x. not (f x)) xs)
  re_parts f [] = re_none
  re_parts f (x ∷ xs) = one (f x) (filter f xs) (filter (λ y. not (f y)) xs) (re_parts f xs)
    where
      one : (b : Bool) (passed others : List X) → Reordered xs (passed ++ others) → Reordered (x ∷ xs) (cond b (x ∷ passed) passed ++ cond (not b) (x ∷ others) others)
      one true passed others h = re_more x xs (passed ++ others) h
      one false passed others h = re_then (x ∷ xs) (x ∷ (passed ++ others)) (passed ++ x ∷ others) (re_more x xs (passed ++ others) h) (re_into passed x others)

  pub re_pairs : (R : X → X → Type 0) → ((a b : X) → R a b → R b a) → (xs ys : List X) → Reordered xs ys → Pairwise R xs → Pairwise R ys
  re_pairs R back _ _ re_none p = p
  re_pairs R back _ _ (re_more x xs ys r) p = (λ y c. p.0 y (re_in ys xs (re_back xs ys r) y c), re_pairs R back xs ys r p.1)
  re_pairs R back _ _ (re_turn x y xs) p = (
    λ w c. elim (in_cons x xs w c) [ inl here ↦ subst (R y) here (back x y (p.0 y (in_head y xs))) | inr there ↦ p.1.0 w there ],
    (λ w c. p.0 w (in_tail y xs w c), p.1.1),
  )
  re_pairs R back _ _ (re_then xs ys zs p q) h = re_pairs R back ys zs q (re_pairs R back xs ys p h)

-- one more, put in anywhere
pub re_more_behind : {X : Type 0} (old done mid new : List X) (x : X) → Reordered (old ++ done) mid → Reordered (x ∷ mid) new → Reordered (old ++ (done ++ x ∷ [])) new
re_more_behind {X} old done mid new x p q =
    let first : Reordered (old ++ (done ++ x ∷ [])) (x ∷ (old ++ done)) =
    subst (λ (l : List X). Reordered l (x ∷ (old ++ done))) (append_assoc old done (x ∷ [])) (subst (λ (l : List X). Reordered ((old ++ done) ++ x ∷ []) (x ∷ l)) (append-nil (old ++ done)) (re_middle (old ++ done) x [])) in
    re_then (old ++ (done ++ x ∷ [])) (x ∷ (old ++ done)) new first (re_then (x ∷ (old ++ done)) (x ∷ mid) new (re_more x (old ++ done) mid p) q)

-- what a list's elements give
pub re_flat : {X Y : Type 0} (f : X → List Y) (xs ys : List X) → Reordered xs ys → Reordered (flat_map f xs) (flat_map f ys)
re_flat f _ _ re_none = re_none
re_flat f _ _ (re_more x xs ys r) = re_right (f x) (flat_map f xs) (flat_map f ys) (re_flat f xs ys r)
re_flat {Y = Y} f _ _ (re_turn x y xs) =
    let rest = flat_map f xs in
    subst (λ (l : List Y). Reordered l (f y ++ (f x ++ rest))) (append_assoc (f x) (f y) rest)
    (subst (λ (l : List Y). Reordered ((f x ++ f y) ++ rest) l) (append_assoc (f y) (f x) rest) (re_left rest (f x ++ f y) (f y ++ f x) (re_swapped (f x) (f y))))
re_flat f _ _ (re_then xs ys zs p q) = re_then (flat_map f xs) (flat_map f ys) (flat_map f zs) (re_flat f xs ys p) (re_flat f ys zs q)

-- pairs follow the order of the second ones
pub re_zip : {X Y : Type 0} (R : X → Y → Type 0) (xs : List X) (ys zs : List Y) → Reordered ys zs → AllZip R xs ys → (ws : List X) × Reordered xs ws × AllZip R ws zs
re_zip R [] _ _ re_none z = ([], re_none, tt)
re_zip R (x ∷ xs) _ _ re_none z = absurd z
re_zip R [] _ _ (re_more y ys zs r) z = absurd z
re_zip R (x ∷ xs) _ _ (re_more y ys zs r) z =
    let rest = re_zip R xs ys zs r z.1 in
    (x ∷ rest.0, re_more x xs rest.0 rest.1, (z.0, rest.2))
re_zip R [] _ _ (re_turn a b ys) z = absurd z
re_zip R (x ∷ []) _ _ (re_turn a b ys) z = absurd z.1
re_zip R (x ∷ w ∷ xs) _ _ (re_turn a b ys) z = (w ∷ x ∷ xs, re_turn x w xs, (z.1.0, (z.0, z.1.1)))
re_zip R xs _ _ (re_then ys zs us p q) z =
    let first = re_zip R xs ys zs p z in
    let second = re_zip R first.0 zs us q first.2 in
    (second.0, re_then xs first.0 second.0 first.1 second.1, second.2)
