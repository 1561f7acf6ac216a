use Rattle.std.proofs.Common.{rules}
use Rattle.cal_events.proofs.sweep_lemmas.SweepLemmas.{rises_from_sort, found_by_sweep, none_by_sweep}
use Rattle.cal_events.proofs.sweep.first_overlap.Goals as goal

pub returns-clause-found : goal.returns-clause-found
returns-clause-found c =
    found_by_sweep c.args.spans.now _ _ _ c.overlap_of_neighbours.result c.in_ok-placed.ensures c.sort_unstable_by_key.ensures.permutation (rises_from_sort _ c.sort_unstable_by_key.ensures.sorted (λ a r q k. search rules)) c.deref.ensures.value c.overlap_of_neighbours.ensures.found

pub returns-clause-none : goal.returns-clause-none
returns-clause-none c =
    none_by_sweep c.args.spans.now _ _ _ c.overlap_of_neighbours.result c.in_ok-placed.ensures c.sort_unstable_by_key.ensures.permutation (rises_from_sort _ c.sort_unstable_by_key.ensures.sorted (λ a r q k. search rules)) c.deref.ensures.value c.overlap_of_neighbours.ensures.none
