-- A VEVENT that was written says the answer.
use Rattle.itip_messages.proofs.law_lemmas.AnswerReads.{answer_reads}
use Rattle.itip_messages.proofs.law.answers_read_back.Goals as goal

pub returns : goal.returns
returns c = answer_reads
