use Rattle.std.proofs.Common.{arith}
use Rattle.cal_period.proofs.Sharers.{singles_more, none_of_singles}
use Rattle.cal_period.proofs.beside.single_beside_series.Goals as goal

pub loop-single-preserved : goal.loop-single-preserved
loop-single-preserved c = singles_more c.args.calendar.now c.loop-single.single c.beside_single.result c.beside_single.ensures c.in_default.is c.loop-single.invariant

pub returns : goal.returns
returns c =
    let past = c.loop-single-test.false in
    let count = c.single_count-single-end.ensures in
    none_of_singles c.args.calendar.now c.loop-single.single (omega (arith, past, count)) c.loop-single.invariant
