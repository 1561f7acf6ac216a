-- A REQUEST that was written of a store reads back.
use Rattle.itip_messages.proofs.sent_law_lemmas.RequestReads.{request_reads}
use Rattle.itip_messages.proofs.sent_law.requests_read_back.Goals as goal

pub returns : goal.returns
returns c = request_reads c.lines_read_back.ensures.lines c.lines_read_back.ensures.reads c.zone_reads_back.ensures
