-- Some instances of all: among them, no more, and apart where all are.
-- Cited by left_of of taking, Timeline::change of timeline.
use Rattle.std.proofs.Common.{◌≡◌, ℕ, ◌+◌, ◌<◌, suc, List, [], ◌∷◌, ◌++◌, take, length, get_or, inl, inr, sym, subst, arith, length-append, append-nil}
use Rattle.std.specs.List.{Contains, AllPairs}
use Rattle.std.proofs.lemmas.List.{take_more}
use Rattle.std.proofs.lemmas.List.Elements.{Contains-append_left, Contains-append_right, Contains-append_cases}
use Rattle.itip_order.proofs.Lists.{in_cons, none_in_nil}
use Rattle.cal_events.specs.declared.instance.Single.{Single}
use Rattle.room_books.specs.Gone.{HaveInstant, IsPartOf}
use Rattle.room_books.specs.Room.{Pairwise}
use Rattle.room_books.proofs.shared_lemmas.Pairs.{pairs_from, pairs_append}

-- ---- pairs of two lists

module _ {X : Type 0} where
  pub pairs_to : (R : X → X → Type 0) (xs : List X) → AllPairs R xs → Pairwise R xs
  pairs_to R [] p = tt
  pairs_to R (x ∷ xs) p = (
    λ y c. (let w = c.1 in subst (R x) c.2 (p 0 (suc c.0) y (omega arith) (omega (arith, w)))),
    pairs_to R xs (λ i j d l w. p (suc i) (suc j) d (omega (arith, l)) (omega (arith, w))),
  )

  pub pairs_left : (R : X → X → Type 0) (xs ys : List X) → Pairwise R (xs ++ ys) → Pairwise R xs
  pairs_left R [] ys p = tt
  pairs_left R (x ∷ xs) ys p = (λ y c. p.0 y (Contains-append_left xs ys y c), pairs_left R xs ys p.1)

  pub pairs_right : (R : X → X → Type 0) (xs ys : List X) → Pairwise R (xs ++ ys) → Pairwise R ys
  pairs_right R [] ys p = p
  pairs_right R (x ∷ xs) ys p = pairs_right R xs ys p.1

  pub pairs_across : (R : X → X → Type 0) (xs ys : List X) → Pairwise R (xs ++ ys) → (x y : X) → Contains xs x → Contains ys y → R x y
  pairs_across R [] ys p x y c k = absurd (none_in_nil x c)
  pairs_across R (z ∷ xs) ys p x y c k = elim (in_cons z xs x c) [
    | inl here ↦ subst (λ (w : X). R w y) here (p.0 y (Contains-append_right xs ys y k))
    | inr there ↦ pairs_across R xs ys p.1 x y there k
  ]

-- ---- parts

abbrev Apart : Single → Single → Type 0
Apart a b = (t : _) → HaveInstant a.span b.span t → ⊥

pub part_nil : (all : List Single) → IsPartOf [] all
part_nil all = record { within = λ s c. absurd (none_in_nil s c); shorter = omega arith; separate = λ h i j d l w. absurd (omega (arith, w)) }

pub part_itself : (all : List Single) → IsPartOf all all
part_itself all = record { within = λ s c. c; shorter = omega arith; separate = λ h. h }

pub part_both : (a b l g : List Single) → IsPartOf a b → IsPartOf l g → IsPartOf (a ++ l) (b ++ g)
part_both a b l g p q = record {
  within = λ s c. elim (Contains-append_cases a l s c) [ inl x ↦ Contains-append_left b g s (p.within s x) | inr y ↦ Contains-append_right b g s (q.within s y) ];
  shorter = let s = p.shorter in let t = q.shorter in omega (arith, length-append a l, length-append b g, s, t);
  separate = λ h.
      let all = pairs_to Apart (b ++ g) h in
      let first = pairs_to Apart a (p.separate (pairs_from Apart b (pairs_left Apart b g all))) in
      let second = pairs_to Apart l (q.separate (pairs_from Apart g (pairs_right Apart b g all))) in
      pairs_from Apart (a ++ l) (pairs_append Apart a l first second (λ x y c k. pairs_across Apart b g all x y (p.within x c) (q.within y k)));
}

-- ---- one more element of a loop

pub part_push : (xs left new : List Single) (i : ℕ) (d : Single) → i < length xs → new ≡ left ++ get_or xs i d ∷ [] → IsPartOf left (take i xs) → IsPartOf new (take (i + 1) xs)
part_push xs left new i d h e p =
    subst (λ (l : List Single). IsPartOf l (take (i + 1) xs)) (sym e) (subst (IsPartOf (left ++ get_or xs i d ∷ [])) (sym (take_more xs i d h))
    (part_both left (take i xs) (get_or xs i d ∷ []) (get_or xs i d ∷ []) p (part_itself (get_or xs i d ∷ []))))

pub part_pass : (xs left : List Single) (i : ℕ) (d : Single) → i < length xs → IsPartOf left (take i xs) → IsPartOf left (take (i + 1) xs)
part_pass xs left i d h p =
    subst (IsPartOf left) (sym (take_more xs i d h)) (subst (λ (l : List Single). IsPartOf l (take i xs ++ get_or xs i d ∷ [])) (append-nil left)
    (part_both left (take i xs) [] (get_or xs i d ∷ []) p (part_nil (get_or xs i d ∷ []))))
