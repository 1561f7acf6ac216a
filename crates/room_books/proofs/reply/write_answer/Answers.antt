use Rattle.ical_values.specs.Octets.{address_octets}
use Rattle.itip_order.specs.Parts.{part_of}
use Rattle.room_books.specs.Taking.{answers_then}
use Rattle.room_books.proofs.reply_lemmas.Replying.{told_line}
use Rattle.room_books.proofs.reply.write_answer.Goals as goal

pub returns : goal.returns
returns c can =
    told_line (address_octets c.args.room.now) (answers_then c.args.before.now c.args.changes.now) (part_of c.args.part.now) c.in-Some.event c.args.object.now c.write_event.new.object c.in-Some.ensures.event c.in_ok-write_event.ensures.ok
