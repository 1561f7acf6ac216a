-- Registers of two values together: what they represent, and which of them is that of a place.
use Rattle.std.proofs.Common.{◌≡◌, ℕ, Bool, true, false, cond, List, [], ◌∷◌, ◌++◌, ◌⊎◌, inl, inr, take, drop, refl, sym, ap, ◌∙◌, subst, append-nil, append_assoc}
use Rattle.std.specs.declared.cmp.Ordering.{Ordering}
use Rattle.std.specs.declared.cmp.Ordering.TheVariants.{Less, Equal, Greater}
use Rattle.std.specs.Ordering.{ordering_reverse, is_eq, is_lt, is_le, is_gt}
use Rattle.std.specs.List.{Contains, list_any}
use Rattle.std.proofs.lemmas.Bool.{and_parts, and_from, true≢false, false_from_ne_true}
use Rattle.std.proofs.lemmas.List.{take-append-drop}
use Rattle.std.proofs.lemmas.Cmp.{tied_back, tied_itself}
use Rattle.std.proofs.lemmas.List.Elements.{Contains-append_left, Contains-append_right, Contains-append_cases}
use Rattle.profile.specs.rooms.Revisions.{Part, place_cmp, part_cmp, same_place, is_greatest, in_view}
use Rattle.itip_order.specs.Registers.{is_ascending, put_by, put_part, together, RepresentsHistory, IsGap, IsRegister, HasNoRegister}
use Rattle.itip_order.proofs.Lists.{all_at, all_from, any_from, in_head, in_tail, in_cons, none_in_nil}
use Rattle.itip_order.proofs.Order.{place_total, part_total, is_eq_true}
use Rattle.itip_order.proofs.Registers.{Puts, represents_kept, represents_put, in_view_at, register_greatest, register_of, greatest_register, greatest_from, place_sym, place_trans, part_le_trans, part_le_refl, le_not_gt}
use Rattle.itip_order.proofs.Allowed.{ascending_unique}
use Rattle.itip_order.proofs.Orders.{ascending_same, represents_itself}
use Rattle.itip_order.proofs.Taking.{puts_between, puts_over, is_gt_true}
use Rattle.ical_values.proofs.Facts.{is_lt_true}

-- ---- one more part

-- the part went into its place, or its register was no less and all stayed
abbrev pub PutOrKept : List Part → List Part → Part → Type 0
PutOrKept old new p = Puts old new p ⊎ ((new ≡ old) × ((r : Part) × Contains old r × (same_place r p ≡ true) × (is_le (part_cmp p r) ≡ true)))

-- a register below the part's place is put before both lists
puts_behind : (r : Part) (R R' : List Part) (p : Part) → is_ascending (r ∷ R) ≡ true → place_cmp r p ≡ Less → Puts R R' p → Puts (r ∷ R) (r ∷ R') p
puts_behind r R R' p a less u =
    let both = and_parts _ _ a in
    record {
      ascending = and_from _ _
          (all_from (λ y. is_lt (place_cmp r y)) R' (λ y c. elim (u.others y c) [
            | inl same ↦ subst (λ (z : Part). is_lt (place_cmp r z) ≡ true) same (ap is_lt less)
            | inr other ↦ all_at (λ y. is_lt (place_cmp r y)) R y both.0 other.0
          ]))
          u.ascending;
      put = in_tail r R' p u.put;
      others = λ x c. elim (in_cons r R' x c) [
        | inl same ↦ inr (subst (λ (z : Part). Contains (r ∷ R) z) same (in_head r R), subst (λ (z : Part). same_place z p ≡ false) same (ap is_eq less))
        | inr later ↦ elim (u.others x later) [
          | inl itself ↦ inl itself
          | inr other ↦ inr (in_tail r R x other.0, other.1)
        ]
      ];
      kept = λ x c there. elim (in_cons r R x c) [
        | inl same ↦ subst (λ (z : Part). Contains (r ∷ R') z) same (in_head r R')
        | inr later ↦ in_tail r R' x (u.kept x later there)
      ];
      beaten = λ x c here. elim (in_cons r R x c) [
        | inl same ↦ absurd (true≢false (sym (subst (λ (z : Part). same_place z p ≡ true) (sym same) here) ∙ ap is_eq less))
        | inr later ↦ u.beaten x later here
      ];
    }

behind : (r : Part) (R R' : List Part) (p : Part) → is_ascending (r ∷ R) ≡ true → place_cmp r p ≡ Less → PutOrKept R R' p → PutOrKept (r ∷ R) (r ∷ R') p
behind r R R' p a less (inl u) = inl (puts_behind r R R' p a less u)
behind r R R' p a less (inr k) = inr (ap (λ l. r ∷ l) k.0, (k.1.0, in_tail r R k.1.0 k.1.1, k.1.2, k.1.3))

pub put_cases : (p : Part) (R : List Part) → is_ascending R ≡ true → PutOrKept R (put_part p R) p
put_cases p [] a = inl (puts_between [] [] p a (record { low = λ x c. absurd (none_in_nil x c); high = λ x c. absurd (none_in_nil x c) }))
put_cases p (r ∷ R) a = step (put_cases p R (and_parts _ _ a).1) (place_cmp p r) refl
  where
    here : (b : Bool) → is_gt (part_cmp p r) ≡ b → place_cmp r p ≡ Equal → PutOrKept (r ∷ R) (cond b p r ∷ R) p
    here true above place = inl (puts_over [] r R p a place (is_gt_true _ above))
    here false low place = inr (refl, (r, in_head r R, ap is_eq place, le_not_gt _ low))

    step : PutOrKept R (put_part p R) p → (o : Ordering) → place_cmp p r ≡ o → PutOrKept (r ∷ R) (put_by o p r R (put_part p R)) p
    step rest Less e = inl (puts_between [] (r ∷ R) p a (record {
      low = λ x c. absurd (none_in_nil x c);
      high = λ x c. elim (in_cons r R x c) [
        | inl same ↦ subst (λ (z : Part). place_cmp p z ≡ Less) same e
        | inr later ↦ place_total.trans p r x e (is_lt_true _ (all_at (λ y. is_lt (place_cmp r y)) R x (and_parts _ _ a).0 later))
      ];
    }))
    step rest Equal e = here (is_gt (part_cmp p r)) refl (tied_back place_total p r e)
    step rest Greater e = behind r R (put_part p R) p a (place_total.antisymm r p ∙ ap ordering_reverse e) rest

pub represents_one : (R h : List Part) (p : Part) → RepresentsHistory R h → RepresentsHistory (put_part p R) (h ++ p ∷ [])
represents_one R h p s = elim (put_cases p R s.ascending) [
  | inl u ↦ represents_put R (put_part p R) h p s u
  | inr k ↦ subst (λ (l : List Part). RepresentsHistory l (h ++ p ∷ [])) (sym k.0) (represents_kept R h p k.1.0 s k.1.1 k.1.2 k.1.3)
]

pub put_ascending : (R : List Part) (p : Part) → is_ascending R ≡ true → is_ascending (put_part p R) ≡ true
put_ascending R p a = (represents_one R R p (represents_itself R a)).ascending

-- two ways to put a part are one
one_way : (R A B : List Part) (p : Part) → Puts R A p → Puts R B p → A ≡ B
one_way R A B p u v = ascending_same A B u.ascending v.ascending (over A B u v) (over B A v u)
  where
    over : (A B : List Part) → Puts R A p → Puts R B p → (x : Part) → Contains A x → Contains B x
    over A B u v x c = elim (u.others x c) [
      | inl itself ↦ subst (λ (z : Part). Contains B z) itself v.put
      | inr other ↦ v.kept x other.0 other.1
    ]

-- a part that went into its place
pub put_is : (R A : List Part) (p : Part) → is_ascending R ≡ true → Puts R A p → A ≡ put_part p R
put_is R A p a u = elim (put_cases p R a) [
  | inl v ↦ one_way R A (put_part p R) p u v
  | inr k ↦ absurd (true≢false (sym (ap is_lt (u.beaten k.1.0 k.1.1 k.1.2)) ∙ ap is_lt (part_total.antisymm k.1.0 p) ∙ not_below _ k.1.3))
]
  where
    not_below : (o : Ordering) → is_le o ≡ true → is_lt (ordering_reverse o) ≡ false
    not_below Less e = refl
    not_below Equal e = refl
    not_below Greater e = absurd (true≢false (sym e))

-- a part that is no greater than its register
pub kept_is : (R : List Part) (p r : Part) → is_ascending R ≡ true → Contains R r → same_place r p ≡ true → is_gt (part_cmp p r) ≡ false → R ≡ put_part p R
kept_is R p r a c place low = elim (put_cases p R a) [
  | inl u ↦ absurd (true≢false (sym (above _ (part_total.antisymm p r) (u.beaten r c place)) ∙ low))
  | inr k ↦ sym k.0
]
  where
    above : (o : Ordering) → o ≡ ordering_reverse (part_cmp r p) → part_cmp r p ≡ Less → is_gt o ≡ true
    above o e less = ap is_gt (e ∙ ap ordering_reverse less)

-- ---- two lists of registers

pub together_push : (R S : List Part) (p : Part) → together R (S ++ p ∷ []) ≡ put_part p (together R S)
together_push R [] p = refl
together_push R (q ∷ S) p = together_push (put_part q R) S p

pub together_ascending : (R S : List Part) → is_ascending R ≡ true → is_ascending (together R S) ≡ true
together_ascending R [] a = a
together_ascending R (p ∷ S) a = together_ascending (put_part p R) S (put_ascending R p a)

represents_more : (R S h : List Part) → RepresentsHistory R h → RepresentsHistory (together R S) (h ++ S)
represents_more R [] h s = subst (λ (l : List Part). RepresentsHistory R l) (sym (append-nil h)) s
represents_more R (p ∷ S) h s = subst (λ (l : List Part). RepresentsHistory (together (put_part p R) S) l) (append_assoc h (p ∷ []) S) (represents_more (put_part p R) S (h ++ p ∷ []) (represents_one R h p s))

-- registers in place of what they represent
represents_along : (M h S g : List Part) → RepresentsHistory S g → RepresentsHistory M (h ++ S) → RepresentsHistory M (h ++ g)
represents_along M h S g t s = record {
  ascending = s.ascending;
  greatest = all_from (is_greatest (h ++ g)) M (λ x c.
      let top = register_greatest M (h ++ S) s x c in
      greatest_from (h ++ g) x record {
        taken = elim (Contains-append_cases h S x top.taken) [
          | inl left ↦ Contains-append_left h g x left
          | inr right ↦ Contains-append_right h g x (register_greatest S g t x right).taken
        ];
        top = λ y inside same. elim (Contains-append_cases h g y inside) [
          | inl left ↦ top.top y (Contains-append_left h S y left) same
          | inr right ↦
              let r = register_of S g t y right in
              let below = (register_greatest S g t r.0 r.1).top y right (place_sym r.0 y r.2) in
              part_le_trans y r.0 x below (top.top r.0 (Contains-append_right h S r.0 r.1) (place_trans r.0 y x r.2 same))
        ];
      });
  covered = all_from (λ part. list_any (λ register. same_place register part) M) (h ++ g) (λ y inside. elim (Contains-append_cases h g y inside) [
    | inl left ↦ let m = register_of M (h ++ S) s y (Contains-append_left h S y left) in any_from (λ register. same_place register y) M m.0 m.1 m.2
    | inr right ↦
        let r = register_of S g t y right in
        let m = register_of M (h ++ S) s r.0 (Contains-append_right h S r.0 r.1) in
        any_from (λ register. same_place register y) M m.0 m.1 (place_trans m.0 r.0 y m.2 r.2)
  ]);
}

pub represents_both : (R S h g : List Part) → RepresentsHistory R h → RepresentsHistory S g → RepresentsHistory (together R S) (h ++ g)
represents_both R S h g s t = represents_along (together R S) h S g t (represents_more R S h s)

-- ---- the register of a place

module _ (R S : List Part) (a : is_ascending R ≡ true) (b : is_ascending S ≡ true) where
  represented : RepresentsHistory (together R S) (R ++ S)
  represented = represents_more R S R (represents_itself R a)

  -- no less than those of its place in both
  top_in : (x : Part) → Contains (R ++ S) x → ((y : Part) → Contains R y → same_place y x ≡ true → is_le (part_cmp y x) ≡ true)
      → ((y : Part) → Contains S y → same_place y x ≡ true → is_le (part_cmp y x) ≡ true) → Contains (together R S) x
  top_in x c f g = greatest_register (together R S) (R ++ S) represented x (record {
    taken = c;
    top = λ y inside same. elim (Contains-append_cases R S y inside) [ inl left ↦ f y left same | inr right ↦ g y right same ];
  })

  -- the one register of a place is no less than any of it
  one_of : (T : List Part) (x : Part) → is_ascending T ≡ true → Contains T x → (y : Part) → Contains T y → same_place y x ≡ true → is_le (part_cmp y x) ≡ true
  one_of T x t c y d same = subst (λ (z : Part). is_le (part_cmp z x) ≡ true) (sym (ascending_unique T y x t d c same)) (part_le_refl x)

  at_place : (x y place : Part) → place_cmp x place ≡ Equal → same_place y x ≡ true → place_cmp y place ≡ Equal
  at_place x y place e same = is_eq_true _ (place_trans y x place same (ap is_eq e))

  pub first_alone : (place x : Part) → IsRegister R place x → HasNoRegister S place → IsRegister (together R S) place x
  first_alone place x r n = (
    top_in x (Contains-append_left R S x r.0) (one_of R x a r.0) (λ y c same. absurd (n y c (at_place x y place r.1 same))),
    r.1,
  )

  pub second_alone : (place x : Part) → IsRegister S place x → HasNoRegister R place → IsRegister (together R S) place x
  second_alone place x r n = (
    top_in x (Contains-append_right R S x r.0) (λ y c same. absurd (n y c (at_place x y place r.1 same))) (one_of S x b r.0),
    r.1,
  )

  pub none_of_both : (place : Part) → HasNoRegister R place → HasNoRegister S place → HasNoRegister (together R S) place
  none_of_both place n m x c e = elim (Contains-append_cases R S x (register_greatest (together R S) (R ++ S) represented x c).taken) [
    | inl left ↦ n x left e
    | inr right ↦ m x right e
  ]

  -- of one place two
  between : (x y place : Part) → place_cmp x place ≡ Equal → place_cmp y place ≡ Equal → same_place x y ≡ true
  between x y place e f = place_trans x place y (ap is_eq e) (place_sym y place (ap is_eq f))

  pub first_greater : (place x y : Part) → IsRegister R place x → IsRegister S place y → is_gt (part_cmp x y) ≡ true → IsRegister (together R S) place x
  first_greater place x y r s above = (
    top_in x (Contains-append_left R S x r.0) (one_of R x a r.0) (λ z c same.
        let is = ascending_unique S z y b c s.0 (between z y place (at_place x z place r.1 same) s.1) in
        subst (λ (w : Part). is_le (part_cmp w x) ≡ true) (sym is) (ap is_le (part_total.antisymm y x ∙ ap ordering_reverse (is_gt_true _ above)))),
    r.1,
  )

  pub second_greater : (place x y : Part) → IsRegister R place x → IsRegister S place y → is_gt (part_cmp x y) ≡ false → IsRegister (together R S) place y
  second_greater place x y r s low = (
    top_in y (Contains-append_right R S y s.0) (λ z c same.
        let is = ascending_unique R z x a c r.0 (between z x place (at_place y z place s.1 same) r.1) in
        subst (λ (w : Part). is_le (part_cmp w y) ≡ true) (sym is) (le_not_gt _ low))
        (one_of S y b s.0),
    s.1,
  )

-- a place without a register has nothing in the view
pub nothing_shown : (M h : List Part) (p : Part) → RepresentsHistory M h → HasNoRegister M p → false ≡ in_view h p
nothing_shown M h p s n = sym (false_from_ne_true _ (λ v. n p (in_view_at M h s p v).0 (tied_itself place_total p)))

pub nothing_seen : (M h : List Part) (place : Part) → RepresentsHistory M h → HasNoRegister M place → (x : Part) → in_view h x ≡ true → same_place x place ≡ true → ⊥
nothing_seen M h place s n x v here = n x (in_view_at M h s x v).0 (is_eq_true _ here)

-- a gap has no register
pub gap_is : (R : List Part) (place : Part) (at : ℕ) → IsGap R place at → HasNoRegister R place
gap_is R place at gap x c e = elim (Contains-append_cases (take at R) (drop at R) x (subst (λ (xs : List Part). Contains xs x) (sym (take-append-drop at R)) c)) [
  | inl left ↦ true≢false (sym (all_at (λ r. is_lt (place_cmp r place)) (take at R) x gap.below left) ∙ ap is_lt e)
  | inr right ↦ true≢false (sym (all_at (λ r. is_gt (place_cmp r place)) (drop at R) x gap.above right) ∙ ap is_gt e)
]
