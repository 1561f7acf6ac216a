-- The slots of the parts of claims.
-- Cited by slots_of.
use Rattle.std.proofs.Common.{◌≡◌, ◌∙◌, true, List, map, sym, ap, subst}
use Rattle.std.specs.List.{Contains}
use Rattle.std.specs.List.Sorted.{IsPermutation}
use Rattle.std.specs.Ordering.{is_eq}
use Rattle.std.proofs.lemmas.Cmp.{tied_itself}
use Rattle.std.proofs.lemmas.List.Sorted.{list_any-IsPermutation}
use Rattle.itip_order.specs.declared.part.Slot.{Slot}
use Rattle.itip_order.specs.Parts.{part_of, slot_of}
use Rattle.itip_order.proofs.Lists.{any_from}
use Rattle.itip_order.proofs.Order.{slot_total}
use Rattle.profile.specs.rooms.Revisions.{Part, slot_cmp}
use Rattle.room_books.specs.declared.claim.Claim.{Claim}
use Rattle.room_books.specs.Taking.{parts_said}
use Rattle.room_books.specs.Slots.{AllTouch}
use Rattle.room_books.proofs.shared_lemmas.Pairs.{map_at, map_from}

pub all_touch : (claims : List Claim) (slots sorted : List Slot) → slots ≡ map (λ (claim : Claim). claim.part.slot) claims → IsPermutation slots sorted → AllTouch sorted (parts_said claims)
all_touch claims slots sorted e same part c =
    let of_slot : Slot → _ = λ own. is_eq (slot_cmp (slot_of own) part.slot) in
    let claim = map_at (λ (x : Claim). part_of x.part) claims part c in
    let among = subst (λ (l : List Slot). Contains l claim.0.part.slot) (sym e) (map_from (λ (x : Claim). x.part.slot) claims claim.0 claim.1) in
    let equal : of_slot claim.0.part.slot ≡ true = ap (λ (p : Part). is_eq (slot_cmp (slot_of claim.0.part.slot) p.slot)) (sym claim.2) ∙ ap is_eq (tied_itself slot_total (slot_of claim.0.part.slot)) in
    sym (list_any-IsPermutation of_slot slots sorted same) ∙ any_from of_slot slots claim.0.part.slot among equal
