use Rattle.std.proofs.Common.{arith}
use Rattle.cal_rules.proofs.Multiples.{none_of_zero, least_count, no_count}
use Rattle.cal_rules.proofs.period.least_count.Goals as goal

pub returns-then-b-eq0 : goal.returns-then-b-eq0
returns-then-b-eq0 c = none_of_zero c.args.a c.args.b c.args.most c.requires.some c.if-b-eq0.true

pub returns-then-count-a-eq0 : goal.returns-then-count-a-eq0
returns-then-count-a-eq0 c =
    let i = c.loop-count.invariant in
    let t = c.loop-count-test.true in
    least_count c.args.a c.args.b c.args.most c.loop-count.count i.begun (omega (arith, t)) c.if-count-a-eq0.true i.none

pub returns : goal.returns
returns c =
    let i = c.loop-count.invariant in
    let past = c.loop-count-test.false in
    no_count c.args.a c.args.b c.args.most c.loop-count.count (omega (arith, past)) i.none
