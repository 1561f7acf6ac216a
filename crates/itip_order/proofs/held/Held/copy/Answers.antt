use Rattle.std.proofs.Common.{◌≡◌, true, List, sym, ◌∙◌, subst}
use Rattle.profile.specs.rooms.Revisions as revisions
use Rattle.itip_order.specs.Registers.{is_ascending}
use Rattle.itip_order.proofs.Steps.{parts_of_clones}
use Rattle.itip_order.proofs.held.Held.copy.Goals as goal

pub invariant_of-result : goal.invariant_of-result
invariant_of-result c = subst (λ (R : List revisions.Part). is_ascending R ≡ true) (sym (parts_of_clones _ _ c.in_ok-registers.ensures.cases.0)) c.self.invariant

pub returns : goal.returns
returns c = parts_of_clones _ _ c.in_ok-registers.ensures.cases.0 ∙ c.self.view_is
