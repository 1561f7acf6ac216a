use Rattle.std.proofs.Common.{arith}
use Rattle.ical_values.specs.Octets.{address_octets}
use Rattle.room_books.specs.Taking.{answers_then}
use Rattle.room_books.proofs.reply_lemmas.Replying.{told_more}
use Rattle.room_books.proofs.reply.write_answers.Goals as goal

pub loop-claim-preserved : goal.loop-claim-preserved
loop-claim-preserved c =
    told_more (address_octets c.args.room.now) (answers_then c.args.before.now c.args.changes.now) c.args.shown.now c.loop-claim.claim-index c.claim-item.result c.args.object.now c.loop-claim.object c.write_answer.new.object (omega arith) c.claim-item.is
    c.loop-claim.invariant c.in_ok-write_answer.ensures
