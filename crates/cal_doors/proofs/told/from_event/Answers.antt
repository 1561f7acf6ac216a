use Rattle.std.proofs.Common.{◌∙◌, sym, ◌-◌, length, take, drop, arith}
use Rattle.std.proofs.lemmas.List.{nil_from_length}
use Rattle.cal_doors.proofs.RightOthers.{rest_of}
use Rattle.cal_doors.proofs.ToldEvents.{pass_other, begin_here, begin_none}
use Rattle.cal_doors.proofs.told.from_event.Goals as goal

pub loop-left-preserved : goal.loop-left-preserved
loop-left-preserved c =
    let left = c.loop-left.left.now in
    let first = c.first-item.result in
    pass_other c.args.components.now left (take (length left - 1) (drop 1 left)) first (rest_of left first (omega (arith, c.in-len1-up.len_at_least)) c.first-item.is)
    (sym c.is_named.ensures ∙ c.if-is_named.false) c.loop-left.invariant

pub returns-then-is_named : goal.returns-then-is_named
returns-then-is_named c =
    let left = c.loop-left.left.now in
    let first = c.first-item.result in
    begin_here c.args.components.now left (take (length left - 1) (drop 1 left)) first (rest_of left first (omega (arith, c.in-len1-up.len_at_least)) c.first-item.is)
    (sym c.is_named.ensures ∙ c.if-is_named.true) c.loop-left.invariant

pub returns : goal.returns
returns c =
    let left = c.loop-left.left.now in
    begin_none c.args.components.now left (nil_from_length left (omega (arith, c.in_default.len_below))) c.loop-left.invariant
