use Rattle.itip_order.proofs.Orders.{same_registers, same_view}
use Rattle.itip_order.proofs.held.same_parts_same_view.Goals as goal

pub returns-clause-held : goal.returns-clause-held
returns-clause-held c = λ xs ys s t same. same_registers _ _ xs ys s t same

pub returns-clause-view : goal.returns-clause-view
returns-clause-view c = λ xs ys same part. same_view xs ys same part
