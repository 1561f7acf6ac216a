use Rattle.std.proofs.Common.{◌∙◌, sym, ap, subst, List, arith, rules, get_or}
use Rattle.std.specs.Prelude.{None}
use Rattle.std.specs.List.Sorted.{IsSorted}
use Rattle.std.proofs.lemmas.List.Sorted.{IsPartitionPoint-from_clause}
use Rattle.cal_events.specs.PlaceOrder.{moved_cmp}
use Rattle.cal_events.specs.Places.{is_left_of, IsWhichAt}
use Rattle.cal_events.specs.declared.places.Moved.{Moved}
use Rattle.cal_events.proofs.shared_lemmas.PlaceLemmas.{left_parted, none_at, none_there, not_there}
use Rattle.cal_events.proofs.places.Places.which.Goals as goal
use Rattle.cal_events.proofs.places.Places.which.Goals.{else-at-len-via-then-at-len+else-is_at, else-at-len-via-else-at-len}

pub returns : goal.returns
returns c =
    let place = c.args.place in
    let ms = c.deref.result.now in
    let up = subst (IsSorted moved_cmp) (sym c.deref.ensures.value) c.self.invariant in
    let at = c.partition_point-at.result in
    let point = IsPartitionPoint-from_clause (is_left_of place) ms at c.partition_point-at.ensures.partitioned (left_parted ms up place) (λ a r q k. search rules) in
    let is = c.deref.ensures.value ∙ c.self.view_is in
    subst (λ (l : List Moved). IsWhichAt l place None) is (elim c.else-at-len.branch [
      | else-at-len-via-then-at-len+else-is_at w ↦
          let m = w.index.result.now in
          none_there ms up place at point m (omega (arith, w.if-at-len.true, c.len.ensures, c.deref.ensures.len)) (ap (λ (l : List Moved). get_or l at m) c.deref.ensures.value ∙ sym w.index.ensures)
          (not_there m place (sym w.is_at.ensures ∙ w.if-is_at.false))
      | else-at-len-via-else-at-len w ↦ none_at ms up place at point (omega (arith, w.if-at-len.false, c.len.ensures, c.deref.ensures.len))
    ])
