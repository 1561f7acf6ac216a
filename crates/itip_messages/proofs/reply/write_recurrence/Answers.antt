use Rattle.itip_messages.proofs.shared_lemmas.LineLemmas.{slot_line}
use Rattle.std.proofs.lemmas.Result.{on_ok_weaker}
use Rattle.itip_messages.proofs.reply.write_recurrence.Goals as goal

pub returns-in-Some-clause-ok : goal.returns-in-Some-clause-ok
returns-in-Some-clause-ok c = rw c.in-Some.is (on_ok_weaker c.stamp.result (slot_line _ _ _) c.stamp.ensures.ok)
