-- A reply is heard as it was written.
use Rattle.itip_messages.proofs.law_lemmas.HeardLaws.{replies_heard}
use Rattle.itip_messages.proofs.law.replies_are_heard.Goals as goal

pub returns : goal.returns
returns c = replies_heard c.lines_read_back.ensures.lines c.lines_read_back.ensures.reads
