use Rattle.itip_order.specs.Parts.{slot_of}
use Rattle.room_books.proofs.shared_lemmas.SlotPlaces.{first_at, none_at}
use Rattle.room_books.proofs.slots.answer_of.Goals as goal

pub returns-in_default-clause-none : goal.returns-in_default-clause-none
returns-in_default-clause-none c = none_at c.args.answers.now (slot_of c.args.slot) c.answers_of-own.result.now c.answers_of-own.ensures c.in_default.ensures.value

pub returns-clause-found : goal.returns-clause-found
returns-clause-found c = first_at c.args.answers.now (slot_of c.args.slot) c.answers_of-own.result.now c.in-Some.given.now c.answers_of-own.ensures c.in-Some.ensures.value
