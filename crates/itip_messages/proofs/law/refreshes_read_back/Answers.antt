-- A refresh that was written reads back as one object, and says which meeting is asked for.
use Rattle.itip_messages.proofs.law_lemmas.RefreshReads.{refresh_reads, refresh_says}
use Rattle.itip_messages.proofs.law.refreshes_read_back.Goals as goal

pub returns-clause-reads : goal.returns-clause-reads
returns-clause-reads c = refresh_reads c.lines_read_back.ensures.lines c.lines_read_back.ensures.reads

pub returns-clause-says : goal.returns-clause-says
returns-clause-says c = refresh_says
