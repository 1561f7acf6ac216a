-- Each step adds answers to parts that it took first.
use Rattle.room_books.proofs.laws_lemmas.OneAnswer.{answers_stay, answered_once}
use Rattle.room_books.proofs.laws.answers_stay.Goals as goal

pub returns-clause-stays : goal.returns-clause-stays
returns-clause-stays c = λ before after deliveries runs answer. answers_stay before deliveries after runs answer

pub returns-clause-once : goal.returns-clause-once
returns-clause-once c = answered_once
