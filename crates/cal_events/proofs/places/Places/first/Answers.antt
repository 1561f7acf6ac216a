use Rattle.std.proofs.Common.{◌∙◌, sym, ap, subst, not, List, arith, rules, get_or}
use Rattle.std.specs.Prelude.{Some, None}
use Rattle.std.specs.List.Sorted.{IsSorted}
use Rattle.std.proofs.lemmas.List.Sorted.{IsPartitionPoint-from_clause}
use Rattle.cal_events.specs.Instances.{IsSoonest}
use Rattle.cal_events.specs.PlaceOrder.{moved_cmp}
use Rattle.cal_events.specs.Places.{place_of, is_to_come, IsPlaceToCome}
use Rattle.cal_events.specs.declared.places.Moved.{Moved}
use Rattle.cal_events.proofs.shared_lemmas.PlaceLemmas.{to_come_parted, first_found, none_found}
use Rattle.cal_events.proofs.places.Places.first.Goals as goal

pub returns-then-at-len : goal.returns-then-at-len
returns-then-at-len c =
    let after = c.args.after in
    let ms = c.deref.result.now in
    let up = subst (IsSorted moved_cmp) (sym c.deref.ensures.value) c.self.invariant in
    let at = c.partition_point-at.result in
    let point = IsPartitionPoint-from_clause (λ m. not (is_to_come after m)) ms at c.partition_point-at.ensures.partitioned (to_come_parted ms up after) (λ a r q k. search rules) in
    let is = c.deref.ensures.value ∙ c.self.view_is in
    let m = c.index.result.now in
    let found = first_found ms up after at point m (omega (arith, c.if-at-len.true, c.len.ensures, c.deref.ensures.len)) (ap (λ (l : List Moved). get_or l at m) c.deref.ensures.value ∙ sym c.index.ensures) in
    subst (λ p. IsSoonest (IsPlaceToCome c.args.self.now after) (Some p)) (sym c.place.ensures) (subst (λ (l : List Moved). IsSoonest (IsPlaceToCome l after) (Some (place_of m))) is found)

pub returns : goal.returns
returns c =
    let after = c.args.after in
    let ms = c.deref.result.now in
    let up = subst (IsSorted moved_cmp) (sym c.deref.ensures.value) c.self.invariant in
    let at = c.partition_point-at.result in
    let point = IsPartitionPoint-from_clause (λ m. not (is_to_come after m)) ms at c.partition_point-at.ensures.partitioned (to_come_parted ms up after) (λ a r q k. search rules) in
    let is = c.deref.ensures.value ∙ c.self.view_is in
    subst (λ (l : List Moved). IsSoonest (IsPlaceToCome l after) None) is (none_found ms up after at point (omega (arith, c.if-at-len.false, c.len.ensures, c.deref.ensures.len)))
