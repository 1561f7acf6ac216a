use Rattle.std.proofs.Common.{◌∙◌, sym}
use Rattle.organiser_books.proofs.meeting.StoredMeeting.take_reply.Goals as goal

pub returns-clause-seen : goal.returns-clause-seen
returns-clause-seen c = λ stored replies revision seen. c.in_ok-hear_all.ensures.seen stored replies revision seen (sym c.is_strange.ensures ∙ c.if-is_strange.false)
