use Rattle.std.proofs.Common.{refl}
use Rattle.room_books.proofs.reply.event_of.Goals as goal

pub returns-clause-event : goal.returns-clause-event
returns-clause-event c = record {
  given = c.in_ok-given.given.now;
  kept = c.in_ok-given.ensures.found.0;
  same = c.in_ok-given.ensures.found.1;
  answers_it = record { organiser = refl; uid = refl; slot = c.in_ok-recurrence.ensures.slot; sequence = refl };
  room_is = refl;
  moment = refl;
  outcome = c.in-Some.ensures.decision;
}
