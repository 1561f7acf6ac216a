use Rattle.std.proofs.Common.{◌≡◌, ◌++◌, Contains, List, map, sym, ap, subst, ◌∙◌}
use Rattle.itip_order.specs.Parts.{slot_of}
use Rattle.itip_order.proofs.SlotsOf.{slots_said, slots_together}
use Rattle.itip_order.proofs.together.Together.slots.Goals as goal
use Rattle.profile.specs.rooms.Revisions as revisions

pub returns : goal.returns
returns c = λ part among.
    let first = c.self.inside.first.now in
    let second = c.self.inside.second.now in
    let is : map slot_of c.push_slots-2.new.slots.items ≡ slots_said first ++ slots_said second =
    c.in_ok-push_slots-2.ensures ∙ ap (λ l. l ++ slots_said second) (c.in_ok-push_slots.ensures ∙ ap (λ l. map slot_of l ++ slots_said first) c.new-slots.ensures.items) in
    subst (λ (l : List revisions.Slot). Contains l part.slot) (sym is)
    (slots_together first second part (subst (λ (l : List revisions.Part). Contains l part) (sym c.self.view_is) among))
