use Rattle.std.proofs.Common.{sym, subst}
use Rattle.ical_values.specs.Octets.{address_octets}
use Rattle.room_books.specs.Reply.{IsReplyOf}
use Rattle.room_books.specs.Taking.{answers_then}
use Rattle.room_books.proofs.reply_lemmas.Replying.{reply_whole}
use Rattle.room_books.proofs.reply.reply_of.Goals as goal

pub returns : goal.returns
returns c tell =
    let room = address_octets c.args.room.now in
    let answers = answers_then c.args.before.now c.args.changes.now in
    subst (IsReplyOf room answers c.args.shown.now) (sym c.finish.ensures)
    (reply_whole room answers c.args.shown.now c.new-object.result c.begin_calendar.new.self c.write_answers.new.object c.end_calendar.new.self c.new-object.ensures c.in_ok-begin_calendar.ensures.ok
    c.in_ok-write_answers.ensures c.in_ok-end_calendar.ensures.ok tell)
