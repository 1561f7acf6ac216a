use Rattle.box_laws.proofs.law_lemmas.FileByFile.{file_by_file}
use Rattle.box_laws.proofs.law_lemmas.Inboxes.{inboxes_act_as_one}
use Rattle.box_laws.proofs.law_lemmas.NewBoxes.{new_boxes}
use Rattle.box_laws.proofs.law_lemmas.OneByOne.{one_by_one}
use Rattle.box_laws.proofs.law_lemmas.Runs.{act_as_one}
use Rattle.box_laws.proofs.law.several_act_as_one.Goals as goal

pub returns-clause-answers : goal.returns-clause-answers
returns-clause-answers c = one_by_one

pub returns-clause-files : goal.returns-clause-files
returns-clause-files c = file_by_file

pub returns-clause-new_boxes : goal.returns-clause-new_boxes
returns-clause-new_boxes c = new_boxes

-- octets say one message, and none where they have a fault
pub returns-clause-one : goal.returns-clause-one
returns-clause-one c = act_as_one (record { one = c.one_message.ensures.one; or_a_fault = c.one_message.ensures.or_a_fault })

pub returns-clause-inboxes : goal.returns-clause-inboxes
returns-clause-inboxes c = inboxes_act_as_one (record { one = c.one_message.ensures.one; or_a_fault = c.one_message.ensures.or_a_fault })
