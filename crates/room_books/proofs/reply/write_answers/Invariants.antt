use Rattle.std.proofs.Common.{take}
use Rattle.ical_values.specs.Octets.{address_octets}
use Rattle.room_books.specs.Taking.{answers_then}
use Rattle.room_books.specs.Reply.{AllTell, WritesAnswers}
use Rattle.room_books.proofs.reply.write_answers.Given as goal

abbrev pub invariant-loop-claim : goal.invariant-loop-claim
invariant-loop-claim l = AllTell (answers_then l.before l.changes) l.shown → WritesAnswers (address_octets l.room) (answers_then l.before l.changes) (take l.claim-index l.shown) l.initial.object l.object
