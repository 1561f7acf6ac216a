-- Of parts in the order of their slots the last of each slot.
use Rattle.std.proofs.Common.{◌≡◌, ◌∙◌, ◌⊎◌, inl, inr, ℕ, zero, suc, ◌<◌, ◌+◌, ◌-◌, Bool, true, false, if◌then◌else◌, List, [], ◌∷◌, ◌++◌, length, map, take, get_or, Some, Ordering, refl, sym, ap, subst, arith}
use Rattle.std.specs.Prelude.{AllPairs, Contains}
use Rattle.std.specs.List.{slice_get}
use Rattle.std.specs.List.Sorted.{IsSorted, IsPermutation}
use Rattle.std.specs.Ordering.{is_eq, is_gt, is_le, is_lt, ordering_then, ordering_reverse}
use Rattle.std.specs.Cmp.{IsTotalOrder}
use Rattle.std.specs.declared.cmp.Ordering.TheVariants.{Less, Equal, Greater}
use Rattle.std.proofs.lemmas.Bool.{true≢false}
use Rattle.std.proofs.lemmas.Cmp.{on_total, then_total, upto, tied_itself}
use Rattle.std.proofs.lemmas.List.{length-append, get_or_append_left, take-append-le, take_all}
use Rattle.std.proofs.lemmas.List.Elements.{Contains-get_or, Contains-append_left, Contains-push, Contains-push_cases}
use Rattle.std.proofs.lemmas.List.Sorted.{ranks_by, sorted_far, Contains-permutation, IsPermutation-sym}
use Rattle.std.proofs.lemmas.Option.{slice_get_read}
use Rattle.profile.specs.rooms.Messages.{AreGreatest}
use Rattle.profile.specs.rooms.Revisions.{Part, Slot, part_cmp, slot_cmp}
use Rattle.itip_order.specs.Greatest.{slot_part_cmp, ends_at, leaving}
use Rattle.itip_order.proofs.Lists.{in_tail, none_in_nil}
use Rattle.itip_order.proofs.Order.{part_total, slot_same, slot_total}

pub slot_part_total : IsTotalOrder slot_part_cmp
slot_part_total = then_total (on_total (λ (p : Part). p.slot) slot_total) part_total

-- two orders, one after the other, don't rise above what follows
cases : (o q : Ordering) → is_gt (ordering_then o q) ≡ false → (o ≡ Less) ⊎ ((o ≡ Equal) × (is_gt q ≡ false))
cases Less q e = inl refl
cases Equal q e = inr (refl, e)
cases Greater q e = absurd (true≢false e)

not_gt : (o : Ordering) → is_gt o ≡ false → is_le o ≡ true
not_gt Less e = refl
not_gt Equal e = refl
not_gt Greater e = absurd (true≢false e)

le_not : (o : Ordering) → is_le o ≡ true → is_gt o ≡ false
le_not Less e = refl
le_not Equal e = refl
le_not Greater e = absurd (true≢false (sym e))

le_trans : (a b c : Part) → is_le (part_cmp a b) ≡ true → is_gt (part_cmp b c) ≡ false → is_le (part_cmp a c) ≡ true
le_trans a b c p q = not_gt _ (upto part_total a b c (le_not _ p) q)

le_itself : (a : Part) → is_le (part_cmp a a) ≡ true
le_itself a = ap is_le (tied_itself part_total a)

back_gt : (o q : Ordering) → o ≡ ordering_reverse q → is_lt q ≡ false → is_gt o ≡ false
back_gt o Less e f = absurd (true≢false f)
back_gt o Equal e f = ap is_gt e
back_gt o Greater e f = ap is_gt e

module _ {X : Type 0} where
  -- a list is empty, or has a last element
  pub from_end : (xs : List X) → (xs ≡ []) ⊎ ((front : List X) × (last : X) × (xs ≡ front ++ last ∷ []))
  from_end [] = inl refl
  from_end (x ∷ xs) =
      elim (from_end xs) [
        | inl e ↦ inr ([], x, ap (λ (l : List X). x ∷ l) e)
        | inr f ↦ inr (x ∷ f.0, f.1, ap (λ (l : List X). x ∷ l) f.2)
      ]

  length_push : (xs : List X) (y : X) → length (xs ++ y ∷ []) ≡ length xs + 1
  length_push xs y = length-append xs (y ∷ [])

  last_of : (xs : List X) (y d : X) → get_or (xs ++ y ∷ []) (length xs) d ≡ y
  last_of [] y d = refl
  last_of (x ∷ xs) y d = last_of xs y d

  last_got : (xs : List X) (y : X) → slice_get (xs ++ y ∷ []) (length (xs ++ y ∷ []) - 1) ≡ Some y
  last_got xs y =
      let n = length_push xs y in
      let at : length (xs ++ y ∷ []) - 1 ≡ length xs = omega (arith, n) in
      slice_get_read (xs ++ y ∷ []) (length (xs ++ y ∷ [])) (length (xs ++ y ∷ []) - 1) y refl (omega (arith, n))
      (sym (ap (λ (k : ℕ). get_or (xs ++ y ∷ []) k y) at ∙ last_of xs y y))

  front_of : (xs : List X) (y : X) → take (length (xs ++ y ∷ []) - 1) (xs ++ y ∷ []) ≡ xs
  front_of xs y =
      let n = length_push xs y in
      let at : length (xs ++ y ∷ []) - 1 ≡ length xs = omega (arith, n) in
      ap (λ (k : ℕ). take k (xs ++ y ∷ [])) at ∙ take-append-le (length xs) xs (y ∷ []) (omega arith) ∙ take_all (length xs) xs (omega arith)

  module _ (R : X → X → Type 0) where
    pub pairs_front : (xs ys : List X) → AllPairs R (xs ++ ys) → AllPairs R xs
    pairs_front xs ys p i j d l w =
        let n = length-append xs ys in
        let r : R (get_or (xs ++ ys) i d) (get_or (xs ++ ys) j d) = p i j d l (omega (arith, w, n)) in
        subst (R (get_or xs i d)) (get_or_append_left xs ys d j w) (subst (λ (x : X). R x (get_or (xs ++ ys) j d)) (get_or_append_left xs ys d i (omega (arith, l, w))) r)

    pub pairs_last : (xs : List X) (x y : X) → AllPairs R (xs ++ y ∷ []) → Contains xs x → R x y
    pairs_last xs x y p (k, w, e) =
        let n = length_push xs y in
        let r : R (get_or (xs ++ y ∷ []) k x) (get_or (xs ++ y ∷ []) (length xs) x) = p k (length xs) x w (omega (arith, n)) in
        subst (R x) (last_of xs y x) (subst (λ (z : X). R z (get_or (xs ++ y ∷ []) (length xs) x)) (get_or_append_left xs (y ∷ []) x k w ∙ e) r)

    pub pairs_push : (xs : List X) (y : X) → AllPairs R xs → ((x : X) → Contains xs x → R x y) → AllPairs R (xs ++ y ∷ [])
    pairs_push [] y p h i j d l w = absurd (omega (arith, l, w))
    pairs_push (x ∷ xs) y p h zero zero d l w = absurd (omega (arith, l))
    pairs_push (x ∷ xs) y p h zero (suc j) d l w =
        elim (Contains-push_cases xs y (get_or (xs ++ y ∷ []) j d) (Contains-get_or (xs ++ y ∷ []) j d (omega (arith, w)))) [
          | inl there ↦ subst (R x) there.2 (p zero (suc there.0) (get_or (xs ++ y ∷ []) j d) (omega arith) (omega (arith, there.1)))
          | inr same ↦ subst (R x) same (h x (zero, omega arith, refl))
        ]
    pairs_push (x ∷ xs) y p h (suc i) zero d l w = absurd (omega (arith, l))
    pairs_push (x ∷ xs) y p h (suc i) (suc j) d l w =
        pairs_push xs y (λ a b e m v. p (suc a) (suc b) e (omega (arith, m)) (omega (arith, v))) (λ z c. h z (suc c.0, omega (arith, c.1), c.2)) i j d (omega (arith, l)) (omega (arith, w))

-- one of these is of the slot of x, and no less
abbrev Beaten : {Of : Type 0} → (Of → Part) → Of → List Of → Type 0
Beaten {Of} part x kept = (other : Of) × Contains kept other × ((part other).slot ≡ (part x).slot) × (is_le (part_cmp (part x) (part other)) ≡ true)

-- elements of lists that were mapped
in_map : {X Y : Type 0} (f : X → Y) (xs : List X) (x : X) → Contains xs x → Contains (map f xs) (f x)
in_map f [] x c = absurd (none_in_nil x c)
in_map f (y ∷ ys) x (zero, w, e) = (zero, omega arith, ap f e)
in_map f (y ∷ ys) x (suc k, w, e) = in_tail (f y) (map f ys) (f x) (in_map f ys x (k, omega (arith, w), e))

of_map : {X Y : Type 0} (f : X → Y) (xs : List X) (y : Y) → Contains (map f xs) y → (x : X) × Contains xs x × (f x ≡ y)
of_map f [] y c = absurd (none_in_nil y c)
of_map f (x ∷ xs) y (zero, w, e) = (x, (zero, omega arith, refl), e)
of_map f (x ∷ xs) y (suc k, w, e) = let from = of_map f xs y (k, omega (arith, w), e) in (from.0, in_tail x xs from.0 from.1, from.2)

pairs_mapped : {X Y : Type 0} (R : Y → Y → Type 0) (f : X → Y) (xs : List X) → AllPairs (λ a b. R (f a) (f b)) xs → AllPairs R (map f xs)
pairs_mapped R f [] p i j d l w = absurd (omega (arith, l, w))
pairs_mapped R f (x ∷ xs) p zero zero d l w = absurd (omega (arith, l))
pairs_mapped R f (x ∷ xs) p zero (suc j) d l w =
    let (y, (k, v, e), is) = of_map f xs (get_or (map f xs) j d) (Contains-get_or (map f xs) j d (omega (arith, w))) in
    subst (R (f x)) is (subst (λ z. R (f x) (f z)) e (p zero (suc k) y (omega arith) (omega (arith, v))))
pairs_mapped R f (x ∷ xs) p (suc i) zero d l w = absurd (omega (arith, l))
pairs_mapped R f (x ∷ xs) p (suc i) (suc j) d l w =
    pairs_mapped R f xs (λ a b e m v. p (suc a) (suc b) e (omega (arith, m)) (omega (arith, v))) i j d (omega (arith, l)) (omega (arith, w))

module _ {Of : Type 0} (part : Of → Part) where
  abbrev Upto : Of → Of → Type 0
  Upto a b = is_gt (slot_part_cmp (part a) (part b)) ≡ false

  abbrev Below : Of → Of → Type 0
  Below a b = slot_cmp (part a).slot (part b).slot ≡ Less

  slot_equal : (a b : Of) → slot_cmp (part a).slot (part b).slot ≡ Equal → (part a).slot ≡ (part b).slot
  slot_equal a b e = slot_same (part a).slot (part b).slot e

  -- what comes before another in the order
  pub sorted_before : (done rest : List Of) (one a : Of) → IsSorted (λ x y. slot_part_cmp (part x) (part y)) (done ++ one ∷ rest) → Contains done a → Upto a one
  sorted_before done rest one a up (k, w, e) =
      let n = length-append done (one ∷ rest) in
      let far = sorted_far (λ x y. is_lt (slot_part_cmp (part x) (part y))) (ranks_by slot_part_total part) (done ++ one ∷ rest) up k (length done) a (omega (arith, w)) (omega (arith, n)) in
      let at_one : get_or (done ++ one ∷ rest) (length done) a ≡ one = seam done in
      let at_a : get_or (done ++ one ∷ rest) k a ≡ a = get_or_append_left done (one ∷ rest) a k w ∙ e in
      let far2 : is_lt (slot_part_cmp (part one) (part a)) ≡ false =
      subst (λ (z : Of). is_lt (slot_part_cmp (part one) (part z)) ≡ false) at_a
      (subst (λ (z : Of). is_lt (slot_part_cmp (part z) (part (get_or (done ++ one ∷ rest) k a))) ≡ false) at_one far) in
      back_gt (slot_part_cmp (part a) (part one)) (slot_part_cmp (part one) (part a)) (slot_part_total.antisymm (part a) (part one)) far2
    where
      seam : (done : List Of) → get_or (done ++ one ∷ rest) (length done) a ≡ one
      seam [] = refl
      seam (x ∷ xs) = seam xs

  -- one more, of a slot above all
  pushed_on : (done kept : List Of) (one : Of) → AreGreatest part done kept → ((a : Of) → Contains kept a → Below a one) → AreGreatest part (done ++ one ∷ []) (kept ++ one ∷ [])
  pushed_on done kept one g h = record {
    among = λ x c. elim (Contains-push_cases kept one x c) [
      | inl there ↦ Contains-append_left done (one ∷ []) x (g.among x there)
      | inr same ↦ subst (Contains (done ++ one ∷ [])) same (Contains-push done one)
    ];
    greatest = λ x c. elim (Contains-push_cases done one x c) [
      | inl there ↦ let (other, c, same, le) = g.greatest x there in (other, Contains-append_left kept (one ∷ []) other c, same, le)
      | inr same ↦ (one, Contains-push kept one, ap (λ (o : Of). (part o).slot) same, subst (λ (o : Of). is_le (part_cmp (part o) (part one)) ≡ true) same (le_itself (part one)))
    ];
    order = pairs_push Below kept one g.order h;
  }

  -- one more, of the slot of the last, which is no greater
  put_last : (done front : List Of) (last one : Of) → AreGreatest part done (front ++ last ∷ []) → (part last).slot ≡ (part one).slot → is_gt (part_cmp (part last) (part one)) ≡ false
      → AreGreatest part (done ++ one ∷ []) (front ++ one ∷ [])
  put_last done front last one g s le = record {
    among = λ x c. elim (Contains-push_cases front one x c) [
      | inl there ↦ Contains-append_left done (one ∷ []) x (g.among x (Contains-append_left front (last ∷ []) x there))
      | inr same ↦ subst (Contains (done ++ one ∷ [])) same (Contains-push done one)
    ];
    greatest = λ x c. elim (Contains-push_cases done one x c) [
      | inl there ↦ stays x (g.greatest x there)
      | inr same ↦ (one, Contains-push front one, ap (λ (o : Of). (part o).slot) same, subst (λ (o : Of). is_le (part_cmp (part o) (part one)) ≡ true) same (le_itself (part one)))
    ];
    order = pairs_push Below front one (pairs_front Below front (last ∷ []) g.order) (λ a c. subst (λ (z : Slot). slot_cmp (part a).slot z ≡ Less) s (pairs_last Below front a last g.order c));
  }
    where
      stays : (x : Of) → Beaten part x (front ++ last ∷ []) → Beaten part x (front ++ one ∷ [])
      stays x (other, c, same, up) =
          elim (Contains-push_cases front last other c) [
            | inl there ↦ (other, Contains-append_left front (one ∷ []) other there, same, up)
            | inr e ↦ (one, Contains-push front one, sym s ∙ ap (λ (o : Of). (part o).slot) e ∙ same, le_trans (part x) (part last) (part one) (subst (λ (o : Of). is_le (part_cmp (part x) (part o)) ≡ true) (sym e) up) le)
          ]

  -- the last of these is of the slot, or not
  pub ends_push : (slot : Slot) (front : List Of) (last : Of) → ends_at part slot (front ++ last ∷ []) ≡ is_eq (slot_cmp (part last).slot slot)
  ends_push slot front last = rw (last_got front last) refl

  left_push : (slot : Slot) (front : List Of) (last : Of) → slot_cmp (part last).slot slot ≡ Equal → leaving part slot (front ++ last ∷ []) ≡ front
  left_push slot front last e =
      ap (λ (b : Bool). if b then take (length (front ++ last ∷ []) - 1) (front ++ last ∷ []) else (front ++ last ∷ [])) (ends_push slot front last ∙ ap is_eq e) ∙ front_of front last

  kept_push : (slot : Slot) (front : List Of) (last : Of) → slot_cmp (part last).slot slot ≡ Less → leaving part slot (front ++ last ∷ []) ≡ front ++ last ∷ []
  kept_push slot front last e =
      ap (λ (b : Bool). if b then take (length (front ++ last ∷ []) - 1) (front ++ last ∷ []) else (front ++ last ∷ [])) (ends_push slot front last ∙ ap is_eq e)

  pub greatest_push : (done kept : List Of) (one : Of) → AreGreatest part done kept → ((a : Of) → Contains kept a → Upto a one)
      → AreGreatest part (done ++ one ∷ []) (leaving part (part one).slot kept ++ one ∷ [])
  greatest_push done kept one g h =
      elim (from_end kept) [
        | inl e ↦
            let g0 : AreGreatest part done [] = subst (AreGreatest part done) e g in
            subst (λ (k : List Of). AreGreatest part (done ++ one ∷ []) (leaving part (part one).slot k ++ one ∷ [])) (sym e) (pushed_on done [] one g0 (λ a c. absurd (none_in_nil a c)))
        | inr (front, last, e) ↦
            subst (λ (k : List Of). AreGreatest part (done ++ one ∷ []) (leaving part (part one).slot k ++ one ∷ [])) (sym e)
            (with_last front last (subst (AreGreatest part done) e g) (λ a c. h a (subst (λ (k : List Of). Contains k a) (sym e) c)))
      ]
    where
      with_last : (front : List Of) (last : Of) → AreGreatest part done (front ++ last ∷ []) → ((a : Of) → Contains (front ++ last ∷ []) a → Upto a one)
          → AreGreatest part (done ++ one ∷ []) (leaving part (part one).slot (front ++ last ∷ []) ++ one ∷ [])
      with_last front last g h =
          elim (cases (slot_cmp (part last).slot (part one).slot) (part_cmp (part last) (part one)) (h last (Contains-push front last))) [
            | inl less ↦
                subst (λ (k : List Of). AreGreatest part (done ++ one ∷ []) (k ++ one ∷ [])) (sym (kept_push (part one).slot front last less))
                (pushed_on done (front ++ last ∷ []) one g (λ a c. elim (Contains-push_cases front last a c) [
                  | inl there ↦ slot_total.trans (part a).slot (part last).slot (part one).slot (pairs_last Below front a last g.order there) less
                  | inr same ↦ subst (λ (o : Of). Below o one) same less
                ]))
            | inr both ↦
                subst (λ (k : List Of). AreGreatest part (done ++ one ∷ []) (k ++ one ∷ [])) (sym (left_push (part one).slot front last both.0))
                (put_last done front last one g (slot_equal last one both.0) both.1)
          ]

  pub greatest_none : AreGreatest part [] []
  greatest_none = record {
    among = λ x c. c;
    greatest = λ x c. absurd (none_in_nil x c);
    order = λ i j d l w. absurd (omega (arith, l, w));
  }

  -- in another order
  pub greatest_moved : (all sorted kept : List Of) → IsPermutation all sorted → AreGreatest part sorted kept → AreGreatest part all kept
  greatest_moved all sorted kept same g = record {
    among = λ x c. Contains-permutation sorted all x (IsPermutation-sym all sorted same) (g.among x c);
    greatest = λ x c. g.greatest x (Contains-permutation all sorted x same c);
    order = g.order;
  }

-- of what others are made from
pub greatest_mapped : {Of To : Type 0} (part : To → Part) (f : Of → To) (all kept : List Of) → AreGreatest (λ one. part (f one)) all kept → AreGreatest part (map f all) (map f kept)
greatest_mapped part f all kept g = record {
  among = λ x c. let from = of_map f kept x c in subst (Contains (map f all)) from.2 (in_map f all from.0 (g.among from.0 from.1));
  greatest = λ x c.
      let from = of_map f all x c in
      let (other, there, same, le) = g.greatest from.0 from.1 in
      (f other, in_map f kept other there, same ∙ ap (λ y. (part y).slot) from.2, subst (λ y. is_le (part_cmp (part y) (part (f other))) ≡ true) from.2 le);
  order = pairs_mapped (λ a b. slot_cmp (part a).slot (part b).slot ≡ Less) f kept g.order;
}
