-- What taking a part does to the registers and to the view.
use Rattle.std.proofs.Common.{◌≡◌, ℕ, suc, Bool, true, false, cond, List, [], ◌∷◌, ◌++◌, inl, inr, get_or, set, take, drop, refl, sym, ap, ◌∙◌, subst}
use Rattle.std.specs.declared.cmp.Ordering.{Ordering}
use Rattle.std.specs.declared.cmp.Ordering.TheVariants.{Less, Equal, Greater}
use Rattle.std.specs.Ordering.{ordering_reverse, is_eq, is_lt, is_gt, is_le}
use Rattle.std.specs.Cmp.{both_ways as same_tests}
use Rattle.std.specs.List.{Contains, insert}
use Rattle.std.proofs.lemmas.Bool.{and_parts, and_from, true≢false, both_ways, cases_Bool, false_from_ne_true}
use Rattle.std.proofs.lemmas.Cmp.{alike_right, tied_itself}
use Rattle.std.proofs.lemmas.List.{take-append-drop, set_split}
use Rattle.std.proofs.Math.Seq.{drop-cons}
use Rattle.std.proofs.lemmas.List.Elements.{Contains-append_left, Contains-append_right, Contains-append_cases}
use Rattle.profile.specs.rooms.Revisions.{Part, place_cmp, part_cmp, same_place, leaves_in_view, in_view}
use Rattle.itip_order.specs.declared.held.Freshness.TheVariants.{Fresh, Same, Stale}
use Rattle.itip_order.specs.Freshness.{IsFreshness}
use Rattle.itip_order.specs.Registers.{is_ascending, is_allowed_by, is_known, RepresentsHistory, IsAt, IsGap}
use Rattle.itip_order.proofs.Lists.{all_at, all_from, any_at, in_head, in_tail, in_cons, none_in_nil}
use Rattle.itip_order.proofs.Order.{place_total, part_total}
use Rattle.itip_order.proofs.Registers.{Puts, represents_kept, represents_put, in_view_from, in_view_at, register_greatest, register_of, place_sym, place_trans, greatest_unique, allows_same_place, eq_refl}
use Rattle.ical_values.proofs.Facts.{is_lt_true}

pub is_gt_true : (o : Ordering) → is_gt o ≡ true → o ≡ Greater
is_gt_true Less e = absurd (true≢false (sym e))
is_gt_true Equal e = absurd (true≢false (sym e))
is_gt_true Greater e = refl

-- the part's place is above all of the one list and below all of the other
pub record Between (A B : List Part) (p : Part) : Type 0 where
  pub low : (x : Part) → Contains A x → place_cmp x p ≡ Less
  pub high : (x : Part) → Contains B x → place_cmp p x ≡ Less

low_other : (A B : List Part) (p : Part) → Between A B p → (x : Part) → Contains A x → same_place x p ≡ false
low_other A B p w x c = ap is_eq (w.low x c)

high_other : (A B : List Part) (p : Part) → Between A B p → (x : Part) → Contains B x → same_place x p ≡ false
high_other A B p w x c = ap is_eq (place_total.antisymm x p ∙ ap ordering_reverse (w.high x c))

ascending_between : (A B : List Part) (p : Part) → is_ascending (A ++ B) ≡ true → Between A B p → is_ascending (A ++ p ∷ B) ≡ true
ascending_between [] B p a w = and_from _ _ (all_from (λ y. is_lt (place_cmp p y)) B (λ x c. ap is_lt (w.high x c))) a
ascending_between (x ∷ A) B p a w =
    let both = and_parts _ _ a in
    let below = λ (y : Part) (c : Contains (A ++ B) y). all_at (λ y. is_lt (place_cmp x y)) (A ++ B) y both.0 c in
    and_from _ _
    (all_from (λ y. is_lt (place_cmp x y)) (A ++ p ∷ B) (λ y c. elim (Contains-append_cases A (p ∷ B) y c) [
      | inl left ↦ below y (Contains-append_left A B y left)
      | inr right ↦ elim (in_cons p B y right) [
        | inl same ↦ subst (λ (z : Part). is_lt (place_cmp x z) ≡ true) same (ap is_lt (w.low x (in_head x A)))
        | inr later ↦ below y (Contains-append_right A B y later)
      ]
    ]))
    (ascending_between A B p both.1 record { low = λ y c. w.low y (in_tail x A y c); high = w.high })

-- without its middle a list still ascends
ascending_without : (A : List Part) (r : Part) (B : List Part) → is_ascending (A ++ r ∷ B) ≡ true → is_ascending (A ++ B) ≡ true
ascending_without [] r B a = (and_parts _ _ a).1
ascending_without (x ∷ A) r B a =
    let both = and_parts _ _ a in
    and_from _ _
    (all_from (λ y. is_lt (place_cmp x y)) (A ++ B) (λ y c. all_at (λ y. is_lt (place_cmp x y)) (A ++ r ∷ B) y both.0 (elim (Contains-append_cases A B y c) [
      | inl left ↦ Contains-append_left A (r ∷ B) y left
      | inr right ↦ Contains-append_right A (r ∷ B) y (in_tail r B y right)
    ])))
    (ascending_without A r B both.1)

-- the middle is between the sides
between_sides : (A : List Part) (r : Part) (B : List Part) → is_ascending (A ++ r ∷ B) ≡ true → Between A B r
between_sides [] r B a = record {
  low = λ x c. absurd (none_in_nil x c);
  high = λ x c. is_lt_true _ (all_at (λ y. is_lt (place_cmp r y)) B x (and_parts _ _ a).0 c);
}
between_sides (y ∷ A) r B a =
    let both = and_parts _ _ a in
    let rest = between_sides A r B both.1 in
    record {
      low = λ x c. elim (in_cons y A x c) [
        | inl same ↦ subst (λ (z : Part). place_cmp z r ≡ Less) same (is_lt_true _ (all_at (λ z. is_lt (place_cmp y z)) (A ++ r ∷ B) r both.0 (Contains-append_right A (r ∷ B) r (in_head r B))))
        | inr later ↦ rest.low x later
      ];
      high = rest.high;
    }

-- a part in the gap
pub puts_between : (A B : List Part) (p : Part) → is_ascending (A ++ B) ≡ true → Between A B p → Puts (A ++ B) (A ++ p ∷ B) p
puts_between A B p a w = record {
  ascending = ascending_between A B p a w;
  put = Contains-append_right A (p ∷ B) p (in_head p B);
  others = λ x c. elim (Contains-append_cases A (p ∷ B) x c) [
    | inl left ↦ inr (Contains-append_left A B x left, low_other A B p w x left)
    | inr right ↦ elim (in_cons p B x right) [
      | inl same ↦ inl same
      | inr later ↦ inr (Contains-append_right A B x later, high_other A B p w x later)
    ]
  ];
  kept = λ x c other. elim (Contains-append_cases A B x c) [
    | inl left ↦ Contains-append_left A (p ∷ B) x left
    | inr right ↦ Contains-append_right A (p ∷ B) x (in_tail p B x right)
  ];
  beaten = λ x c same. elim (Contains-append_cases A B x c) [
    | inl left ↦ absurd (both_ways _ (low_other A B p w x left) same)
    | inr right ↦ absurd (both_ways _ (high_other A B p w x right) same)
  ];
}

-- a part over the lesser part of its place
pub puts_over : (A : List Part) (r : Part) (B : List Part) (p : Part) → is_ascending (A ++ r ∷ B) ≡ true → place_cmp r p ≡ Equal → part_cmp p r ≡ Greater → Puts (A ++ r ∷ B) (A ++ p ∷ B) p
puts_over A r B p a place greater =
    let w = between_sides A r B a in
    let v : Between A B p = record {
      low = λ x c. sym (alike_right place_total r p x place) ∙ w.low x c;
      high = λ x c. sym (place_total.congr r p x place) ∙ w.high x c;
    } in
    record {
      ascending = ascending_between A B p (ascending_without A r B a) v;
      put = Contains-append_right A (p ∷ B) p (in_head p B);
      others = λ x c. elim (Contains-append_cases A (p ∷ B) x c) [
        | inl left ↦ inr (Contains-append_left A (r ∷ B) x left, low_other A B p v x left)
        | inr right ↦ elim (in_cons p B x right) [
          | inl same ↦ inl same
          | inr later ↦ inr (Contains-append_right A (r ∷ B) x (in_tail r B x later), high_other A B p v x later)
        ]
      ];
      kept = λ x c other. elim (Contains-append_cases A (r ∷ B) x c) [
        | inl left ↦ Contains-append_left A (p ∷ B) x left
        | inr right ↦ elim (in_cons r B x right) [
          | inl same ↦ absurd (both_ways _ other (ap is_eq (subst (λ (z : Part). place_cmp z p ≡ Equal) same place)))
          | inr later ↦ Contains-append_right A (p ∷ B) x (in_tail p B x later)
        ]
      ];
      beaten = λ x c same. elim (Contains-append_cases A (r ∷ B) x c) [
        | inl left ↦ absurd (both_ways _ (low_other A B p v x left) same)
        | inr right ↦ elim (in_cons r B x right) [
          | inl is_r ↦ subst (λ (z : Part). part_cmp z p ≡ Less) is_r (part_total.antisymm r p ∙ ap ordering_reverse greater)
          | inr later ↦ absurd (both_ways _ (high_other A B p v x later) same)
        ]
      ];
    }

pub puts_insert : (R : List Part) (p : Part) (at : ℕ) → is_ascending R ≡ true → IsGap R p at → Puts R (insert R at p) p
puts_insert R p at a gap =
    let e = take-append-drop at R in
    let w : Between (take at R) (drop at R) p = record {
      low = λ x c. is_lt_true _ (all_at (λ r. is_lt (place_cmp r p)) (take at R) x gap.below c);
      high = λ x c. place_total.antisymm p x ∙ ap ordering_reverse (is_gt_true _ (all_at (λ r. is_gt (place_cmp r p)) (drop at R) x gap.above c));
    } in
    subst (λ (xs : List Part). Puts xs (take at R ++ p ∷ drop at R) p) e (puts_between (take at R) (drop at R) p (rw e a) w)

pub puts_set : (R : List Part) (p r : Part) (at : ℕ) → is_ascending R ≡ true → IsAt R p at → r ≡ get_or R at r → part_cmp p r ≡ Greater → Puts R (set R at p) p
puts_set R p r at a found is greater =
    let in_range = found.in_range in
    let e : take at R ++ r ∷ drop (suc at) R ≡ R = ap (λ z. take at R ++ z ∷ drop (suc at) R) is ∙ ap (λ zs. take at R ++ zs) (sym (drop-cons R at r in_range)) ∙ take-append-drop at R in
    let place : place_cmp r p ≡ Equal = subst (λ (z : Part). place_cmp z p ≡ Equal) (sym is) (found.same r) in
    rw set_split
    (subst (λ (xs : List Part). Puts xs (take at R ++ p ∷ drop (suc at) R) p) e (puts_over (take at R) r (drop (suc at) R) p (rw e a) place greater))

allowed_after : (R R' : List Part) (p : Part) → Puts R R' p → is_allowed_by R p ≡ true → is_allowed_by R' p ≡ true
allowed_after R R' p u a = all_from (λ whole. leaves_in_view whole p) R' (λ x c. elim (u.others x c) [
  | inl itself ↦ allows_same_place x p (ap is_eq (subst (λ (z : Part). place_cmp z p ≡ Equal) itself (tied_itself place_total p)))
  | inr other ↦ all_at (λ whole. leaves_in_view whole p) R x a other.0
])

allowed_before : (R R' : List Part) (p : Part) → Puts R R' p → is_allowed_by R' p ≡ true → is_allowed_by R p ≡ true
allowed_before R R' p u a = all_from (λ whole. leaves_in_view whole p) R (λ x c. elim (cases_Bool (same_place x p)) [
  | inl here ↦ allows_same_place x p here
  | inr there ↦ all_at (λ whole. leaves_in_view whole p) R' x a (u.kept x c there)
])

-- a part that was put wasn't a register before
not_before : (R R' : List Part) (p : Part) → Puts R R' p → Contains R p → ⊥
not_before R R' p u c = true≢false (sym (ap is_lt (u.beaten p c (eq_refl p))) ∙ ap is_lt (tied_itself part_total p))

-- the part was put in the registers
pub entered_is : (R R' h : List Part) (p : Part) (b : Bool) → RepresentsHistory R h → Puts R R' p → b ≡ is_allowed_by R p → IsFreshness (cond b Fresh Stale) h p
entered_is R R' h p true s u e = (in_view_from R' (h ++ p ∷ []) (represents_put R R' h p s u) p u.put (allowed_after R R' p u (sym e)), λ v. not_before R R' p u (in_view_at R h s p v).0)
entered_is R R' h p false s u e = λ v. true≢false (sym (allowed_before R R' p u (in_view_at R' (h ++ p ∷ []) (represents_put R R' h p s u) p v).1) ∙ sym e)

-- the part is its register
pub repeated_is : (R h : List Part) (p : Part) (b : Bool) → RepresentsHistory R h → Contains R p → b ≡ is_allowed_by R p → IsFreshness (cond b Same Stale) h p
repeated_is R h p true s c e = (in_view_from R (h ++ p ∷ []) (represents_kept R h p p s c (eq_refl p) (ap is_le (tied_itself part_total p))) p c (sym e), in_view_from R h s p c (sym e))
repeated_is R h p false s c e = λ v. true≢false (sym (in_view_at R (h ++ p ∷ []) (represents_kept R h p p s c (eq_refl p) (ap is_le (tied_itself part_total p))) p v).1 ∙ sym e)

-- the part is below its register
pub stale_is : (R h : List Part) (p r : Part) → RepresentsHistory R h → Contains R r → same_place r p ≡ true → part_cmp p r ≡ Less → IsFreshness Stale h p
stale_is R h p r s c place less v =
    let in_R = (in_view_at R (h ++ p ∷ []) (represents_kept R h p r s c place (ap is_le less)) p v).0 in
    let same = greatest_unique h r p (register_greatest R h s r c) (register_greatest R h s p in_R) place in
    true≢false (sym (ap is_lt (subst (λ (z : Part). part_cmp p z ≡ Less) same less)) ∙ ap is_lt (tied_itself part_total p))

-- without a register of its slot no part of it was taken
pub unknown_is : (R h : List Part) (p : Part) (at : ℕ) → RepresentsHistory R h → IsGap R p at → is_known h p ≡ false
unknown_is R h p at s gap = false_from_ne_true _ (λ known.
    let found = any_at (λ taken. same_place taken p) h known in
    let r = register_of R h s found.0 found.1 in
    let here = place_trans r.0 found.0 p r.2 found.2 in
    elim (Contains-append_cases (take at R) (drop at R) r.0 (subst (λ (xs : List Part). Contains xs r.0) (sym (take-append-drop at R)) r.1)) [
      | inl left ↦ true≢false (sym here ∙ ap is_eq (is_lt_true _ (all_at (λ x. is_lt (place_cmp x p)) (take at R) r.0 gap.below left)))
      | inr right ↦ true≢false (sym here ∙ ap is_eq (is_gt_true _ (all_at (λ x. is_gt (place_cmp x p)) (drop at R) r.0 gap.above right)))
    ])

-- a register is in the view where it is allowed
pub shown_is : (R h : List Part) (p : Part) → RepresentsHistory R h → Contains R p → is_allowed_by R p ≡ in_view h p
shown_is R h p s c = same_tests _ _ (in_view_from R h s p c) (λ v. (in_view_at R h s p v).1)

-- a part that doesn't tie with the register of its slot isn't in the view
pub hidden_is : (R h : List Part) (p r : Part) → RepresentsHistory R h → Contains R r → same_place r p ≡ true → is_eq (part_cmp p r) ≡ false → false ≡ in_view h p
hidden_is R h p r s c place other = sym (false_from_ne_true _ (λ v.
    let same = greatest_unique h r p (register_greatest R h s r c) (register_greatest R h s p (in_view_at R h s p v).0) place in
    true≢false (sym (ap is_eq (tied_itself part_total p)) ∙ subst (λ (z : Part). is_eq (part_cmp p z) ≡ false) same other)))

-- a register that isn't allowed is of a place of which nothing is in the view
pub none_is : (R h : List Part) (p r : Part) → RepresentsHistory R h → Contains R r → same_place r p ≡ true → is_allowed_by R r ≡ false → (x : Part) → in_view h x ≡ true → same_place x p ≡ true → ⊥
none_is R h p r s c place out x v here =
    let at = in_view_at R h s x v in
    let same = greatest_unique h x r (register_greatest R h s x at.0) (register_greatest R h s r c) (place_trans x p r here (place_sym r p place)) in
    true≢false (sym at.1 ∙ ap (is_allowed_by R) same ∙ out)
