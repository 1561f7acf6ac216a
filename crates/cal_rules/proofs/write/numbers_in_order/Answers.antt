use Rattle.std.proofs.Common.{◌+◌, ◌∙◌, ap, take, get_or, pos, w16, FitsSigned, to_z-of_z, rules, arith}
use Rattle.std.proofs.lemmas.List.{take_all, take_more}
use Rattle.profile.specs.series.Rules.{is_place}
use Rattle.profile.specs.series.RuleTexts.{nth_number}
use Rattle.cal_rules.proofs.Sorting.{numbers_sorted, one_place, all_below, all_at}
use Rattle.cal_rules.proofs.write.numbers_in_order.Goals as goal

pub place_of_number-requires : goal.place_of_number-requires
place_of_number-requires c =
    let fits : FitsSigned w16 (get_or c.args.numbers.now c.loop-number.number-index (pos 0)) = search rules in
    ap (is_place 366) (to_z-of_z fits) ∙ all_at (is_place 366) c.args.numbers.now c.loop-number.number-index _ c.requires c.loop-number-test.true

pub loop-number-preserved : goal.loop-number-preserved
loop-number-preserved c =
    let fits : FitsSigned w16 (get_or c.args.numbers.now c.loop-number.number-index (pos 0)) = search rules in
    one_place nth_number 0 733 (take c.loop-number.number-index c.args.numbers.now) (take (c.loop-number.number-index + 1) c.args.numbers.now) c.loop-number.places.items c.push.new.self.items c.place_of_number.result _ c.loop-number.invariant
    (take_more c.args.numbers.now c.loop-number.number-index (pos 0) c.loop-number-test.true) c.in_ok-push.ensures.items (c.place_of_number.ensures.1 ∙ to_z-of_z fits) (omega arith) c.place_of_number.ensures.0

pub returns-clause-lists : goal.returns-clause-lists
returns-clause-lists c =
    let o = c.put_in_order.ensures in
    numbers_sorted c.args.numbers.now c.loop-number.places.items c.put_in_order.new.places.items (rw (take_all c.loop-number.number-index c.args.numbers.now c.loop-number-test.false) at c.loop-number.invariant) o.rises o.keeps o.adds_none

pub returns-clause-below : goal.returns-clause-below
returns-clause-below c = all_below 0 733 c.loop-number.places.items c.put_in_order.new.places.items c.loop-number.invariant.within c.put_in_order.ensures.adds_none
