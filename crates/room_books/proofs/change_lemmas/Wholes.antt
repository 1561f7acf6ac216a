-- What a look-up in the view says of the whole of a meeting: the greatest part of it is always there.
-- Cited by lacks_whole.
use Rattle.std.proofs.Common.{◌≡◌, ◌∙◌, Bool, true, false, not, ◌&&◌, List, Option, None, Some, sym, ap, IsTrue}
use Rattle.std.specs.Prelude.{IfSome, IfNone, is_some}
use denote.Ref.{Bor}
use Rattle.std.specs.Ordering.{is_eq, ordering_then}
use Rattle.std.specs.List.{list_all, Contains}
use Rattle.std.proofs.lemmas.Bool.{and_parts, and_from, or_left, false_from_ne_true}
use Rattle.itip_order.specs.Parts.{part_of}
use Rattle.itip_order.specs.Registers.{RepresentsHistory, IsInView, HasNone, at_slot}
use Rattle.itip_order.specs.declared.part.Part.{Part as HeldPart}
use Rattle.itip_order.proofs.Lists.{all_from, any_at, any_from}
use Rattle.itip_order.proofs.Lasting.{greatest_of, view_taken}
use Rattle.itip_order.proofs.Order.{is_eq_true, then_equal}
use Rattle.itip_order.proofs.Registers.{greatest_from, implies_from, place_trans}
use Rattle.profile.specs.rooms.Revisions.{Part, Whole, slot_cmp, meeting_cmp, in_view, is_greatest, is_whole, implies, leaves_in_view, stays_beside, same_meeting, same_place}
use Rattle.profile.specs.rooms.Rooms.{lacks_whole}

-- the place of the whole, by meeting and slot
place_whole : (x p : Part) → is_whole x ≡ true → same_meeting x p ≡ true → same_place x (at_slot p Whole) ≡ true
place_whole x p w m = ap (λ o. is_eq (ordering_then o (slot_cmp x.slot Whole))) (is_eq_true _ m) ∙ w

whole_place : (x p : Part) → same_place x (at_slot p Whole) ≡ true → (is_whole x && same_meeting x p) ≡ true
whole_place x p e =
    let both = then_equal (meeting_cmp x (at_slot p Whole)) (slot_cmp x.slot Whole) (is_eq_true _ e) in
    and_from _ _ (ap is_eq both.1) (ap is_eq both.0)

not_back : (b c : Bool) → not b ≡ c → b ≡ not c
not_back true c e = ap not e
not_back false c e = ap not e

-- the greatest part of a whole is in the view
module _ (history : List Part) (p : Part) where
  seen_whole : (x : Part) → Contains history x → is_whole x ≡ true → same_meeting x p ≡ true → (g : Part) × (in_view history g ≡ true) × (same_place g (at_slot p Whole) ≡ true)
  seen_whole x c w m =
      let g = greatest_of history x c in
      let place = place_trans g.0 x (at_slot p Whole) g.2 (place_whole x p w m) in
      let whole : is_whole g.0 ≡ true = (and_parts (is_whole g.0) (same_meeting g.0 p) (whole_place g.0 p place)).0 in (
        g.0,
        and_from (is_greatest history g.0) (list_all (λ h. implies (is_greatest history h) (leaves_in_view h g.0)) history) (greatest_from history g.0 g.1)
            (all_from (λ h. implies (is_greatest history h) (leaves_in_view h g.0)) history (λ h _.
            implies_from (is_greatest history h) (leaves_in_view h g.0) (λ _. or_left (is_whole g.0) (implies (is_whole h && same_meeting h g.0) (stays_beside h g.0)) whole))),
        place,
      )

  pub whole_lacking : (held : List Part) → RepresentsHistory held history → (r : Option (Bor HeldPart)) → IfSome r (λ f. IsInView held (part_of f.now) × IsTrue (same_place (part_of f.now) (at_slot p Whole))) → IfNone r (HasNone held (at_slot p Whole))
      → (none : Bool) → not none ≡ is_some r → none ≡ lacks_whole history p
  whole_lacking held s (Some f) found empty none is =
      let there = any_from (λ other. is_whole other && same_meeting other p) history (part_of f.now) (view_taken history (part_of f.now) (found.0 history s)) (whole_place (part_of f.now) p found.1) in
      not_back none true is ∙ sym (ap not there)
  whole_lacking held s None found empty none is = not_back none false is ∙ sym (ap not (false_from_ne_true _ (λ h.
      let x = any_at (λ other. is_whole other && same_meeting other p) history h in
      let both = and_parts (is_whole x.0) (same_meeting x.0 p) x.2 in
      let g = seen_whole x.0 x.1 both.0 both.1 in
      empty history s g.0 g.1 g.2)))
