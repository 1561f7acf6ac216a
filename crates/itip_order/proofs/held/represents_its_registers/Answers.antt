use Rattle.std.proofs.Common.{◌≡◌, true, List, subst}
use Rattle.profile.specs.rooms.Revisions as revisions
use Rattle.itip_order.specs.Registers.{is_ascending}
use Rattle.itip_order.proofs.Orders.{represents_itself}
use Rattle.itip_order.proofs.held.represents_its_registers.Goals as goal

pub returns : goal.returns
returns c = represents_itself _ (subst (λ (R : List revisions.Part). is_ascending R ≡ true) c.held.view_is c.held.invariant)
