use Rattle.std.proofs.Common.{rules, arith}
use Rattle.cal_events.proofs.neighbours_lemmas.SideBySide.{equal_at, one_further}
use Rattle.cal_events.proofs.neighbours.has_equal_neighbours.Goals as goal

pub loop-next-init : goal.loop-next-init
loop-next-init g c = λ k d w. absurd (omega (arith, w))

pub returns-then-eq : goal.returns-then-eq
returns-then-eq g c =
    equal_at g.T.PartialEq.eq c.args.values.now c.loop-next.next (search rules) c.loop-next-test.true _ _ c.index-values-next.is c.index-values-next-in-loop-next.is c.if-eq.ensures

pub loop-next-preserved : goal.loop-next-preserved
loop-next-preserved g c =
    one_further g.T.PartialEq.eq c.args.values.now c.loop-next.next (search rules) c.loop-next-test.true _ _ c.index-values-next.is c.index-values-next-in-loop-next.is
    c.loop-next.invariant c.if-eq.ensures

pub returns : goal.returns
returns g c = λ k d w. c.loop-next.invariant k d (omega (arith, w, c.loop-next-test.false))
