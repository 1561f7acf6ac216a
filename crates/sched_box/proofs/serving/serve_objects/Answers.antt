use Rattle.std.proofs.Common.{ℕ, subst}
use Rattle.sched_devices.specs.Input.{ForTaken}
use Rattle.sched_devices.proofs.InputLemmas.{known_of}
use Rattle.sched_box.specs.Serving.{ServesBooks}
use Rattle.sched_box.proofs.ServingLemmas.{any_served}
use Rattle.sched_box.proofs.serving.serve_objects.Goals as goal

pub returns-clause-taken : goal.returns-clause-taken
returns-clause-taken g c =
    let P : ℕ → Type 0 = λ most.
    ForTaken g.R.Input.takes g.R.Input.lent g.R.Input.has_ended c.args.reader.now c.answer_each.new.reader
    (ServesBooks g.J.Journal.tells c.args.journal.now c.answer_each.new.journal most c.args.now c.args.books.now c.answer_each.new.books (g.R.Input.fills c.args.reader.now) (g.R.Input.fills c.answer_each.new.reader) (g.W.Output.contents c.args.writer.now)
    (g.W.Output.contents c.answer_each.new.writer) c.answer_each.result) in
    subst P c.new-objects.ensures.left c.answer_each.ensures.taken

pub returns-clause-serves : goal.returns-clause-serves
returns-clause-serves g c = (known_of _ _ _ g.R.Input.remaining c.args.reader.now c.answer_each.new.reader _ g.met.R.Input.known_follows g.met.R.Input.takes_known (returns-clause-taken g c) (λ left h. any_served _ _ _ _ _ _ _ left _ _ _ _ _ h)).serves

pub returns-clause-tells : goal.returns-clause-tells
returns-clause-tells g c = (known_of _ _ _ g.R.Input.remaining c.args.reader.now c.answer_each.new.reader _ g.met.R.Input.known_follows g.met.R.Input.takes_known (returns-clause-taken g c) (λ left h. any_served _ _ _ _ _ _ _ left _ _ _ _ _ h)).tells

pub returns-clause-fills : goal.returns-clause-fills
returns-clause-fills g c = (known_of _ _ _ g.R.Input.remaining c.args.reader.now c.answer_each.new.reader _ g.met.R.Input.known_follows g.met.R.Input.takes_known (returns-clause-taken g c) (λ left h. any_served _ _ _ _ _ _ _ left _ _ _ _ _ h)).fills

pub returns-clause-bound : goal.returns-clause-bound
returns-clause-bound g c = (known_of _ _ _ g.R.Input.remaining c.args.reader.now c.answer_each.new.reader _ g.met.R.Input.known_follows g.met.R.Input.takes_known (returns-clause-taken g c) (λ left h. any_served _ _ _ _ _ _ _ left _ _ _ _ _ h)).bound
