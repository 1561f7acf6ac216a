-- The same parts in any order, with any repeats, give the same registers and the same view.
use Rattle.std.proofs.Common.{◌≡◌, true, List, [], ◌∷◌, inl, inr, refl, sym, ap, ◌∙◌, subst}
use Rattle.std.specs.Ordering.{is_lt, is_le}
use Rattle.std.specs.Cmp.{both_ways}
use Rattle.std.specs.List.{list_any, Contains}
use Rattle.std.proofs.lemmas.Bool.{and_parts, and_from, true≢false}
use Rattle.std.proofs.lemmas.Cmp.{tied_itself}
use Rattle.profile.specs.rooms.Revisions.{Part, place_cmp, part_cmp, same_place, is_greatest, implies, leaves_in_view, in_view}
use Rattle.itip_order.specs.Registers.{is_ascending, RepresentsHistory, SameParts}
use Rattle.itip_order.proofs.Lists.{all_at, all_from, any_from, in_cons, in_head, in_tail, none_in_nil}
use Rattle.itip_order.proofs.Order.{place_total}
use Rattle.itip_order.proofs.Allowed.{ascending_unique}
use Rattle.itip_order.proofs.Registers.{eq_refl, part_le_refl, Greatest, greatest_at, greatest_from, greatest_register, register_greatest, implies_at, implies_from}
use Rattle.ical_values.proofs.Facts.{is_lt_true}

-- no place is below itself
below_itself : (x : Part) → is_lt (place_cmp x x) ≡ true → ⊥
below_itself x e = true≢false (sym e ∙ ap is_lt (tied_itself place_total x))

below_each_other : (x y : Part) → is_lt (place_cmp x y) ≡ true → is_lt (place_cmp y x) ≡ true → ⊥
below_each_other x y p q = below_itself x (ap is_lt (place_total.trans x y x (is_lt_true _ p) (is_lt_true _ q)))

-- ascending lists with the same elements are equal
pub ascending_same : (R S : List Part) → is_ascending R ≡ true → is_ascending S ≡ true → ((x : Part) → Contains R x → Contains S x) → ((x : Part) → Contains S x → Contains R x) → R ≡ S
ascending_same [] [] a b f g = refl
ascending_same [] (y ∷ S) a b f g = absurd (none_in_nil y (g y (in_head y S)))
ascending_same (x ∷ R) [] a b f g = absurd (none_in_nil x (f x (in_head x R)))
ascending_same (x ∷ R) (y ∷ S) a b f g =
    let above_x = λ (z : Part) (c : Contains R z). all_at (λ w. is_lt (place_cmp x w)) R z (and_parts _ _ a).0 c in
    let above_y = λ (z : Part) (c : Contains S z). all_at (λ w. is_lt (place_cmp y w)) S z (and_parts _ _ b).0 c in
    let first : x ≡ y =
    elim (in_cons y S x (f x (in_head x R))) [
      | inl same ↦ sym same
      | inr x_later ↦ elim (in_cons x R y (g y (in_head y S))) [
        | inl same ↦ same
        | inr y_later ↦ absurd (below_each_other x y (above_x y y_later) (above_y x x_later))
      ]
    ] in
    let to = λ (z : Part) (c : Contains R z).
    let Q : Type 0 = Contains S z in
    let q : Q = elim (in_cons y S z (f z (in_tail x R z c))) [
      | inl same ↦ absurd (below_itself x (subst (λ (w : Part). is_lt (place_cmp x w) ≡ true) (sym same ∙ sym first) (above_x z c)))
      | inr later ↦ later
    ] in q in
    let from = λ (z : Part) (c : Contains S z).
    let Q : Type 0 = Contains R z in
    let q : Q = elim (in_cons x R z (g z (in_tail y S z c))) [
      | inl same ↦ absurd (below_itself y (subst (λ (w : Part). is_lt (place_cmp y w) ≡ true) (sym same ∙ first) (above_y z c)))
      | inr later ↦ later
    ] in q in
    let rest = ascending_same R S (and_parts _ _ a).1 (and_parts _ _ b).1 to from in
    λ i. first i ∷ rest i

greatest_along : (xs ys : List Part) (x : Part) → SameParts xs ys → Greatest xs x → Greatest ys x
greatest_along xs ys x same g = record { taken = (same x).0 g.taken; top = λ y c. g.top y ((same y).1 c) }

same_back : (xs ys : List Part) → SameParts xs ys → SameParts ys xs
same_back xs ys same = λ x. ((same x).1, (same x).0)

pub same_registers : (R S xs ys : List Part) → RepresentsHistory R xs → RepresentsHistory S ys → SameParts xs ys → R ≡ S
same_registers R S xs ys s t same =
    ascending_same R S s.ascending t.ascending
    (λ x c. greatest_register S ys t x (greatest_along xs ys x same (register_greatest R xs s x c)))
    (λ x c. greatest_register R xs s x (greatest_along ys xs x (same_back xs ys same) (register_greatest S ys t x c)))

view_along : (xs ys : List Part) (x : Part) → SameParts xs ys → in_view xs x ≡ true → in_view ys x ≡ true
view_along xs ys x same v =
    let both = and_parts _ _ v in
    and_from _ _ (greatest_from ys x (greatest_along xs ys x same (greatest_at xs x both.0)))
    (all_from (λ whole. implies (is_greatest ys whole) (leaves_in_view whole x)) ys (λ w c. implies_from _ _ (λ g.
    let back = greatest_from xs w (greatest_along ys xs w (same_back xs ys same) (greatest_at ys w g)) in
    implies_at _ _ (all_at (λ whole. implies (is_greatest xs whole) (leaves_in_view whole x)) xs w both.1 ((same w).1 c)) back)))

pub same_view : (xs ys : List Part) → SameParts xs ys → (x : Part) → in_view xs x ≡ in_view ys x
same_view xs ys same x = both_ways _ _ (view_along xs ys x same) (view_along ys xs x (same_back xs ys same))

-- ascending parts are the greatest of themselves
pub represents_itself : (R : List Part) → is_ascending R ≡ true → RepresentsHistory R R
represents_itself R a = record {
  ascending = a;
  greatest = all_from (is_greatest R) R (λ x c. greatest_from R x record {
    taken = c;
    top = λ y d e. subst (λ (z : Part). is_le (part_cmp z x) ≡ true) (sym (ascending_unique R y x a d c e)) (part_le_refl x);
  });
  covered = all_from (λ part. list_any (λ register. same_place register part) R) R (λ x c. any_from (λ register. same_place register x) R x c (eq_refl x));
}
