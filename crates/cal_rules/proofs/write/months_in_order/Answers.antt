use Rattle.std.proofs.Common.{◌+◌, refl, take, arith}
use Rattle.std.proofs.lemmas.List.{take_all, take_more}
use Rattle.profile.specs.faults.Faults.{is_between}
use Rattle.cal_rules.proofs.InOrder.{month_bounds}
use Rattle.cal_rules.proofs.Sorting.{months_sorted, one_place, no_place, all_at}
use Rattle.cal_rules.proofs.write.months_in_order.Goals as goal

pub loop-month-init : goal.loop-month-init
loop-month-init c = no_place (λ x. x) 1 12 _ _ c.new-places.ensures.items refl

pub loop-month-preserved : goal.loop-month-preserved
loop-month-preserved c =
    let b = month_bounds _ (all_at (is_between 1 12) c.args.months.now c.loop-month.month-index 0 c.requires c.loop-month-test.true) in
    one_place (λ x. x) 1 12 (take c.loop-month.month-index c.args.months.now) (take (c.loop-month.month-index + 1) c.args.months.now) c.loop-month.places.items c.push.new.self.items _ _ c.loop-month.invariant
    (take_more c.args.months.now c.loop-month.month-index 0 c.loop-month-test.true) c.in_ok-push.ensures.items refl b.0 (omega (arith, b.1))

pub returns : goal.returns
returns c =
    let o = c.put_in_order.ensures in
    months_sorted c.args.months.now c.loop-month.places.items c.put_in_order.new.places.items (rw (take_all c.loop-month.month-index c.args.months.now c.loop-month-test.false) at c.loop-month.invariant) o.rises o.keeps o.adds_none
