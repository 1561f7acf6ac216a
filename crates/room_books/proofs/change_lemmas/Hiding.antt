-- What a look-up in the view says of a hidden instance.
-- Cited by is_start_hidden.
use Rattle.std.proofs.Common.{◌≡◌, ℤ, Bool, true, ◌&&◌, Option, None, Some, sym, ap, subst, IsTrue, List}
use Rattle.std.specs.Prelude.{IfSome, IfNone, is_some}
use denote.Ref.{Bor}
use Rattle.std.specs.Ordering.{is_eq}
use Rattle.std.proofs.lemmas.Bool.{and_parts, and_from, false_from_ne_true}
use Rattle.itip_order.specs.Parts.{part_of}
use Rattle.itip_order.specs.Registers.{RepresentsHistory, IsInView, HasNone, at_slot}
use Rattle.itip_order.specs.declared.part.Part.{Part as HeldPart}
use Rattle.itip_order.proofs.Lists.{any_at, any_from}
use Rattle.itip_order.proofs.Lasting.{view_taken}
use Rattle.profile.specs.checker.Instances.{Instance}
use Rattle.profile.specs.rooms.Revisions.{Part, Slot, Whole, At, slot_cmp, in_view, same_place}
use Rattle.profile.specs.rooms.Rooms.{is_hidden}

module _ (held history : List Part) (s : RepresentsHistory held history) (p : Part) (booked : Instance) (slot : ℤ) (e : booked.key.slot ≡ slot) where
  abbrev hides : Part → ℤ → Part → Bool
  hides q t o = in_view history o && same_place o (record q { slot = At t })

  pub hidden_whole : p.slot ≡ Whole → (r : Option (Bor HeldPart)) → IfSome r (λ f. IsInView held (part_of f.now) × IsTrue (same_place (part_of f.now) (at_slot p (At slot)))) → IfNone r (HasNone held (at_slot p (At slot)))
      → is_some r ≡ is_hidden history p booked
  hidden_whole w (Some f) found none =
      let seen = found.0 history s in
      let here = subst (λ (t : ℤ). same_place (part_of f.now) (record p { slot = At t }) ≡ true) (sym e) found.1 in
      sym (and_from _ _ (ap (λ (x : Slot). is_eq (slot_cmp x Whole)) w)
      (any_from (hides p booked.key.slot) history (part_of f.now) (view_taken history (part_of f.now) seen) (and_from _ _ seen here)))
  hidden_whole w None found none = sym (false_from_ne_true _ (λ h.
      let x = any_at (hides p booked.key.slot) history (and_parts _ _ h).1 in
      let both = and_parts _ _ x.2 in
      none history s x.0 both.0 (subst (λ (t : ℤ). same_place x.0 (record p { slot = At t }) ≡ true) e both.1)))
