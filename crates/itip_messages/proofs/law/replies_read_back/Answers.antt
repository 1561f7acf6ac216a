-- A reply that was written reads back as one object.
use Rattle.itip_messages.proofs.law_lemmas.ReplyReads.{reply_reads}
use Rattle.itip_messages.proofs.law.replies_read_back.Goals as goal

pub returns : goal.returns
returns c = reply_reads c.lines_read_back.ensures.lines c.lines_read_back.ensures.reads
