use Rattle.itip_messages.proofs.shared_lemmas.LineLemmas.{that_line}
use Rattle.std.proofs.lemmas.Result.{on_ok_weaker}
use Rattle.itip_messages.proofs.reply.write_decision.Goals as goal

pub returns-in-Accepted-clause-ok : goal.returns-in-Accepted-clause-ok
returns-in-Accepted-clause-ok c = rw c.in-Accepted.is (on_ok_weaker c.line.result (that_line _ _ _) c.line.ensures.ok)

pub returns-in-Busy-clause-ok : goal.returns-in-Busy-clause-ok
returns-in-Busy-clause-ok c = rw c.in-Busy.is c.write_conflict.ensures.ok

pub returns-in-SeriesLimit-clause-ok : goal.returns-in-SeriesLimit-clause-ok
returns-in-SeriesLimit-clause-ok c = rw c.in-SeriesLimit.is (on_ok_weaker c.line-in-SeriesLimit.result (that_line _ _ _) c.line-in-SeriesLimit.ensures.ok)

pub returns-in-SinglesLimit-clause-ok : goal.returns-in-SinglesLimit-clause-ok
returns-in-SinglesLimit-clause-ok c = rw c.in-SinglesLimit.is (on_ok_weaker c.line-in-SinglesLimit.result (that_line _ _ _) c.line-in-SinglesLimit.ensures.ok)
