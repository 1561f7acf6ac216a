use Rattle.itip_order.proofs.Lasting.{view_taken, view_one, gone_for_good}
use Rattle.itip_order.proofs.held.view_is_lasting.Goals as goal

pub returns-clause-taken : goal.returns-clause-taken
returns-clause-taken c = λ history part shown. view_taken history part shown

pub returns-clause-one_of_a_slot : goal.returns-clause-one_of_a_slot
returns-clause-one_of_a_slot c = λ history one other v w place. view_one history one other v w place

pub returns-clause-gone_for_good : goal.returns-clause-gone_for_good
returns-clause-gone_for_good c = λ history more part taken gone. gone_for_good history more part taken gone
