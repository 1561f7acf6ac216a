use Rattle.std.proofs.Common.{◌≡◌, true, List, ap, ◌∙◌, subst}
use Rattle.std.specs.Ordering.{is_eq}
use Rattle.profile.specs.rooms.Revisions as revisions
use Rattle.itip_order.specs.Parts.{part_of, parts_of, slot_of}
use Rattle.itip_order.specs.Registers.{is_ascending}
use Rattle.itip_order.proofs.Allowed.{allowed_whole, allowed_absent, allowed_found}
use Rattle.itip_order.proofs.Joined.{together_ascending}
use Rattle.itip_order.proofs.together.Together.allows.Goals as goal

pub returns-in-Whole : goal.returns-in-Whole
returns-in-Whole c = allowed_whole c.args.self.now (part_of c.args.part.now) (ap (λ slot. is_eq (revisions.slot_cmp (slot_of slot) revisions.Whole)) c.in-Whole.is)

pub returns-in-Some : goal.returns-in-Some
returns-in-Some c =
    let other = ap (λ slot. is_eq (revisions.slot_cmp (slot_of slot) revisions.Whole)) c.in-At.is in
    let ascends = subst (λ (M : List revisions.Part). is_ascending M ≡ true) c.self.view_is (together_ascending (parts_of c.self.inside.first.now) (parts_of c.self.inside.second.now) c.self.invariant.0) in
    c.stays_with.ensures ∙ allowed_found c.args.self.now (part_of c.args.part.now) (part_of c.in-Some.whole.now) ascends other c.in-Some.ensures.found

pub returns-in-None : goal.returns-in-None
returns-in-None c = allowed_absent c.args.self.now (part_of c.args.part.now) c.in-None.ensures.none
