use Rattle.std.proofs.lemmas.List.Filters.{dedup_is}
use Rattle.cal_events.proofs.instants_lemmas.InOrder.{still_sorted, strictly_sorted, ascends, kept_once}
use Rattle.cal_events.proofs.instants.Instants.of.Goals as goal

pub invariant_of-result : goal.invariant_of-result
invariant_of-result c =
    let is = dedup_is _ _ _ c.dedup.ensures.filtered in
    (still_sorted _ _ c.sort_unstable.ensures.sorted is, strictly_sorted _ _ c.sort_unstable.ensures.sorted is)

pub returns-clause-ascending : goal.returns-clause-ascending
returns-clause-ascending c = ascends _ (strictly_sorted _ _ c.sort_unstable.ensures.sorted (dedup_is _ _ _ c.dedup.ensures.filtered))

pub returns-clause-same : goal.returns-clause-same
returns-clause-same c = λ t. kept_once c.args.instants.items _ _ c.sort_unstable.ensures.permutation (dedup_is _ _ _ c.dedup.ensures.filtered) t
