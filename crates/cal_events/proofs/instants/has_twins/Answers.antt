use Rattle.std.proofs.Common.{List, ℤ, subst}
use Rattle.std.specs.Prelude.{MatchBool}
use Rattle.std.specs.Ordering.{int_eq}
use Rattle.cal_events.specs.Neighbours.{HaveEqual, HaveNoEqual}
use Rattle.cal_events.proofs.instants_lemmas.InOrder.{twins_found, twins_moved}
use Rattle.cal_events.proofs.instants.has_twins.Goals as goal

pub returns : goal.returns
returns c =
    let sorted = c.sort_unstable.new.self.items in
    let found = c.has_equal_neighbours.result in
    twins_moved c.args.instants.items sorted c.sort_unstable.ensures.permutation found
    (twins_found sorted c.sort_unstable.ensures.sorted found
    (subst (λ (l : List ℤ). MatchBool found (HaveEqual int_eq l) (HaveNoEqual int_eq l)) c.deref.ensures.value c.has_equal_neighbours.ensures))
