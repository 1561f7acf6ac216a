-- A refresh is heard as it was written.
use Rattle.itip_messages.proofs.law_lemmas.HeardLaws.{refreshes_heard}
use Rattle.itip_messages.proofs.law.refreshes_are_heard.Goals as goal

pub returns : goal.returns
returns c = refreshes_heard c.lines_read_back.ensures.lines c.lines_read_back.ensures.reads
