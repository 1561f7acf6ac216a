-- The one Whole register of a part's meeting says whether the part is in the view.
use Rattle.std.proofs.Common.{◌≡◌, Bool, true, false, ◌&&◌, ◌||◌, List, [], ◌∷◌, inl, inr, sym, ap, ◌∙◌, subst}
use Rattle.std.specs.declared.cmp.Ordering.{Ordering}
use Rattle.std.specs.declared.cmp.Ordering.TheVariants.{Less, Equal, Greater}
use Rattle.std.specs.Ordering.{ordering_then, is_eq, is_lt, is_gt}
use Rattle.std.specs.Cmp.{both_ways}
use Rattle.std.specs.List.{Contains}
use Rattle.std.proofs.lemmas.Bool.{and_parts, true≢false, or_left, or_right, and_from}
use Rattle.profile.specs.rooms.Revisions.{Whole, Part, place_cmp, same_meeting, same_place, is_whole, stays_beside, leaves_in_view}
use Rattle.itip_order.specs.Registers.{is_ascending, is_allowed_by, at_slot, IsRegister, HasNoRegister}
use Rattle.itip_order.proofs.Lists.{all_at, all_from, in_cons, none_in_nil}
use Rattle.itip_order.proofs.Order.{then_equal, is_eq_true}
use Rattle.itip_order.proofs.Registers.{implies_at, implies_from, place_sym, place_trans}

eq_then : (a b : Ordering) → is_eq a ≡ true → is_eq b ≡ true → is_eq (ordering_then a b) ≡ true
eq_then Less b p q = p
eq_then Equal b p q = q
eq_then Greater b p q = p

lt_not_eq : (o : Ordering) → is_lt o ≡ true → is_eq o ≡ true → ⊥
lt_not_eq Less p q = true≢false (sym q)
lt_not_eq Equal p q = true≢false (sym p)
lt_not_eq Greater p q = true≢false (sym p)

gt_not_eq : (o : Ordering) → is_gt o ≡ true → is_eq o ≡ true → ⊥
gt_not_eq Less p q = true≢false (sym q)
gt_not_eq Equal p q = true≢false (sym p)
gt_not_eq Greater p q = true≢false (sym q)

-- ascending parts have different places
pub ascending_unique : (R : List Part) (x y : Part) → is_ascending R ≡ true → Contains R x → Contains R y → same_place x y ≡ true → x ≡ y
ascending_unique [] x y a c d e = absurd (none_in_nil x c)
ascending_unique (z ∷ R) x y a c d e =
    let both = and_parts _ _ a in
    elim (in_cons z R x c) [
      | inl first ↦ elim (in_cons z R y d) [
        | inl same ↦ sym first ∙ same
        | inr later ↦ absurd (lt_not_eq _ (all_at (λ w. is_lt (place_cmp z w)) R y both.0 later) (subst (λ (w : Part). same_place w y ≡ true) (sym first) e))
      ]
      | inr later ↦ elim (in_cons z R y d) [
        | inl first ↦ absurd (lt_not_eq _ (all_at (λ w. is_lt (place_cmp z w)) R x both.0 later) (subst (λ (w : Part). same_place w x ≡ true) (sym first) (place_sym x y e)))
        | inr second ↦ ascending_unique R x y both.1 later second e
      ]
    ]

-- a Whole of the meeting is at the place of the meeting's Whole
at_whole : (x p : Part) → (is_whole x && same_meeting x p) ≡ true → same_place x (at_slot p Whole) ≡ true
at_whole x p e = let both = and_parts _ _ e in eq_then _ _ both.1 both.0

pub allowed_whole : (R : List Part) (p : Part) → is_whole p ≡ true → true ≡ is_allowed_by R p
allowed_whole R p whole = sym (all_from (λ w. leaves_in_view w p) R (λ x c. or_left _ _ whole))

or_right_of : (a b : Bool) → a ≡ false → (a || b) ≡ true → b ≡ true
or_right_of true b p q = absurd (true≢false p)
or_right_of false b p q = q

pub allowed_absent : (R : List Part) (p : Part) → HasNoRegister R (at_slot p Whole) → true ≡ is_allowed_by R p
allowed_absent R p none = sym (all_from (λ w. leaves_in_view w p) R (λ x c.
    or_right (is_whole p) _ (implies_from _ _ (λ whole. absurd (none x c (is_eq_true _ (at_whole x p whole)))))))

pub allowed_found : (R : List Part) (p w : Part) → is_ascending R ≡ true → is_whole p ≡ false → IsRegister R (at_slot p Whole) w → stays_beside w p ≡ is_allowed_by R p
allowed_found R p w a other found =
    let both = then_equal _ _ found.1 in
    both_ways (stays_beside w p) (is_allowed_by R p)
    (λ stays. all_from (λ v. leaves_in_view v p) R (λ x c. or_right (is_whole p) _ (implies_from _ _ (λ whole.
    let same = ascending_unique R x w a c found.0 (place_trans x (at_slot p Whole) w (at_whole x p whole) (place_sym w (at_slot p Whole) (ap is_eq found.1))) in
    subst (λ (z : Part). stays_beside z p ≡ true) (sym same) stays))))
    (λ allowed. implies_at _ _ (or_right_of (is_whole p) _ other (all_at (λ v. leaves_in_view v p) R w allowed found.0)) (and_from _ _ (ap is_eq both.1) (ap is_eq both.0)))
