use Rattle.std.proofs.Common.{rules}
use Rattle.std.specs.Ordering.{is_lt}
use Rattle.std.proofs.lemmas.Fn.{always_returns_same}
use Rattle.std.proofs.lemmas.List.Sorted.{ranks_by}
use Rattle.profile.specs.checker.Instances.{instance_cmp}
use Rattle.cal_events.specs.Calendar.{instance_of}
use Rattle.cal_agenda.proofs.Order.{instance_total}
use Rattle.cal_agenda.proofs.in_order.sort.Goals as goal

pub returns-clause-rises : goal.returns-clause-rises
returns-clause-rises c =
    c.sort_unstable_by.ensures.sorted (λ a b. is_lt (instance_cmp (instance_of a) (instance_of b))) (ranks_by instance_total instance_of)
    (always_returns_same _ _ _ (λ a r g called. (search rules, search rules)))
