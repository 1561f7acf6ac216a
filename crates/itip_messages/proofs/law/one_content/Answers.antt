-- An event of a message has one content.
use Rattle.itip_messages.proofs.law_lemmas.OneContent.{one_content}
use Rattle.itip_messages.proofs.law.one_content.Goals as goal

pub returns : goal.returns
returns c = one_content c.one_stamp.ensures.form c.one_local_time.ensures.form c.one_offset.ensures.form
