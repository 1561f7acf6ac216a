use Rattle.std.proofs.Common.{◌≡◌, ◌∙◌, sym, subst, List, ℤ, to_z, of_z, w64, to_z-of_z}
use Rattle.std.specs.Prelude.{Contains, IsTrue, ◌↔◌}
use Rattle.std.specs.Ordering.{int_cmp}
use Rattle.std.specs.Result.{is_ok}
use Rattle.std.specs.List.Sorted.{IsSorted}
use Rattle.cal_events.proofs.instants_lemmas.InOrder.{has_found}
use Rattle.cal_events.proofs.instants.Instants.has.Goals as goal

pub returns : goal.returns
returns c =
    let same : to_z w64 (of_z w64 c.args.instant) ≡ c.args.instant = to_z-of_z c.ranges.instant in
    let is = c.deref.ensures.value ∙ c.self.view_is in
    let up = subst (IsSorted int_cmp) (sym c.deref.ensures.value) c.self.invariant.0 in
    let found = has_found c.deref.result.now up c.args.instant c.binary_search.result c.binary_search.ensures.bound (rw same at c.binary_search.ensures.position) in
    rw c.is_ok.ensures.value (subst (λ (l : List ℤ). IsTrue (is_ok c.binary_search.result) ↔ Contains l c.args.instant) is found)
