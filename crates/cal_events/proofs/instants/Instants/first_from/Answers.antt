use Rattle.std.proofs.Common.{◌≡◌, ◌∙◌, sym, ap, subst, List, arith, rules, get_or, ℤ, FitsSigned, to_z, of_z, w64, to_z-of_z}
use Rattle.std.specs.Prelude.{None, Some, int_lt}
use Rattle.std.specs.Ordering.{int_cmp}
use Rattle.std.specs.List.Sorted.{IsSorted}
use Rattle.std.proofs.lemmas.List.Sorted.{IsPartitionPoint-from_clause}
use Rattle.cal_events.specs.Instants.{IsFirstFrom}
use Rattle.cal_events.proofs.instants_lemmas.InOrder.{first_there, none_there, parted}
use Rattle.cal_events.proofs.instants.Instants.first_from.Goals as goal

pub returns-then-at-len : goal.returns-then-at-len
returns-then-at-len c =
    let from = c.args.from in
    let xs = c.deref.result.now in
    let up = subst (IsSorted int_cmp) (sym c.deref.ensures.value) c.self.invariant.0 in
    let same : to_z w64 (of_z w64 from) ≡ from = to_z-of_z c.ranges.from in
    let point = IsPartitionPoint-from_clause (λ y. int_lt y from) xs c.partition_point-at.result c.partition_point-at.ensures.partitioned (parted xs up from) (λ a r q k. search rules) in
    let is = c.deref.ensures.value ∙ c.self.view_is in
    let at = c.partition_point-at.result in
    let x = c.index.result.now in
    let fits : FitsSigned w64 x = search rules in
    let cast : to_z w64 (of_z w64 x) ≡ x = to_z-of_z fits in
    rw cast (subst (λ (l : List ℤ). IsFirstFrom l from (Some x)) is (first_there xs up from at point x (omega (arith, c.if-at-len.true, c.len.ensures, c.deref.ensures.len)) (ap (λ (l : List ℤ). get_or l at x) c.deref.ensures.value ∙ sym c.index.ensures)))

pub returns : goal.returns
returns c =
    let from = c.args.from in
    let xs = c.deref.result.now in
    let up = subst (IsSorted int_cmp) (sym c.deref.ensures.value) c.self.invariant.0 in
    let same : to_z w64 (of_z w64 from) ≡ from = to_z-of_z c.ranges.from in
    let point = IsPartitionPoint-from_clause (λ y. int_lt y from) xs c.partition_point-at.result c.partition_point-at.ensures.partitioned (parted xs up from) (λ a r q k. search rules) in
    let is = c.deref.ensures.value ∙ c.self.view_is in
    subst (λ (l : List ℤ). IsFirstFrom l from None) is (none_there xs up from c.partition_point-at.result point (omega (arith, c.if-at-len.false, c.len.ensures, c.deref.ensures.len)))
