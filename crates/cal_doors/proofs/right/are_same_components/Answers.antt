use Rattle.std.proofs.Common.{◌≡◌, ◌∙◌, sym, ◌-◌, ◌+◌, length, take, drop, arith}
use Rattle.std.proofs.lemmas.Bool.Decides.{nat_tests}
use Rattle.std.proofs.lemmas.List.{drop_all, nil_from_length}
use Rattle.ical_tree.proofs.OneLine.{at_place}
use Rattle.cal_doors.proofs.RightOthers.{zone_before, same_first, none_left, rest_of}
use Rattle.cal_doors.proofs.right.are_same_components.Goals as goal

pub loop-component-preserved-then-is_named : goal.loop-component-preserved-then-is_named
loop-component-preserved-then-is_named c =
    let before = c.args.before.now in
    let i = c.loop-component.component-index in
    let x = c.component-item.result in
    zone_before before (drop i before) (drop (i + 1) before) c.args.after.now c.loop-component.left.now x (at_place before i x c.loop-component-test.true c.component-item.is)
    (sym c.is_named.ensures ∙ c.if-is_named.true) c.loop-component.invariant

pub loop-component-preserved : goal.loop-component-preserved
loop-component-preserved c =
    let before = c.args.before.now in
    let i = c.loop-component.component-index in
    let x = c.component-item.result in
    let past = c.past_zones-left.result.now in
    let other = c.other-item.result in
    same_first before (drop i before) (drop (i + 1) before) c.args.after.now c.loop-component.left.now past (take (length past - 1) (drop 1 past)) x other
    (at_place before i x c.loop-component-test.true c.component-item.is) (sym c.is_named.ensures ∙ c.if-is_named.false) c.past_zones-left.ensures
    (rest_of past other (omega (arith, c.in-len1-up.len_at_least)) c.other-item.is) (c.is_same.ensures c.if-not-is_same.false) c.loop-component.invariant

pub returns : goal.returns
returns c = λ same.
    let before = c.args.before.now in
    let i = c.loop-component.component-index in
    let past = c.past_zones.result.now in
    let empty : length past ≡ 0 = grind (arith, nat_tests, same, c.is_empty.ensures) in
    none_left before (drop i before) c.args.after.now c.loop-component.left.now past (drop_all i before c.loop-component-test.false) c.past_zones.ensures (nil_from_length past empty)
    c.loop-component.invariant
