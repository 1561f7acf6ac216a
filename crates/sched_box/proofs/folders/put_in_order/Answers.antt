use Rattle.std.proofs.lemmas.List.Filters.{dedup_is}
use Rattle.sched_box.proofs.NameOrder.{put_rising, put_same}
use Rattle.sched_box.proofs.folders.put_in_order.Goals as goal

pub returns-clause-same : goal.returns-clause-same
returns-clause-same c = put_same _ _ _ c.sort_unstable.ensures.permutation (dedup_is _ _ _ c.dedup.ensures.filtered)

pub returns-clause-rising : goal.returns-clause-rising
returns-clause-rising c = put_rising _ _ c.sort_unstable.ensures.sorted (dedup_is _ _ _ c.dedup.ensures.filtered)
