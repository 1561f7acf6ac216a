use Rattle.std.proofs.Common.{arith}
use Rattle.cal_period.proofs.AroundLemmas.{low_at}
use Rattle.cal_period.proofs.arcs.is_last_over.Goals as goal

pub is_over-requires-clause-first : goal.is_over-requires-clause-first
is_over-requires-clause-first c =
    low_at c.args.m c.args.all.now c.args.width c.requires.all _ _ (omega arith)

pub is_over-requires-clause-next : goal.is_over-requires-clause-next
is_over-requires-clause-next c =
    low_at c.args.m c.args.all.now c.args.width c.requires.all _ _ (omega arith)
