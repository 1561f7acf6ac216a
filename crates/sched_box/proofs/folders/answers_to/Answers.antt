use Rattle.sched_box.proofs.TellingLemmas.{octets_told}
use Rattle.sched_box.proofs.folders.answers_to.Goals as goal

pub returns-in-Ok-clause-tells : goal.returns-in-Ok-clause-tells
returns-in-Ok-clause-tells g c = λ before have.
    octets_told g.J.Journal.tells c.args.journal.now c.serve_objects.new.journal c.args.moment c.args.octets.now before c.serve_objects.new.books _ c.new-answers.result.items c.serve_objects.new.writer.items _ c.new-answers.ensures.items
    (c.in-Ok.ensures.tells before have)
