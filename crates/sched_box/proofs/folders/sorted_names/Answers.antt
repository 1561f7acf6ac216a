use Rattle.sched_box.proofs.NameOrder.{names_kept}
use Rattle.sched_box.proofs.folders.sorted_names.Goals as goal

pub returns-clause-names : goal.returns-clause-names
returns-clause-names g c = λ known. names_kept _ _ _ (c.in_ok-names.ensures.names known) c.put_in_order.ensures.same c.put_in_order.ensures.rising
