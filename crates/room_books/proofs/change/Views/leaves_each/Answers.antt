use Rattle.std.proofs.Common.{List, sym, subst, arith}
use Rattle.std.specs.List.{Contains}
use Rattle.std.proofs.lemmas.List.{take_all}
use Rattle.room_books.specs.declared.meeting.PartAnswer.{PartAnswer}
use Rattle.itip_order.specs.Parts.{part_of}
use Rattle.room_books.proofs.change_lemmas.Looking.{one_confirms}
use Rattle.room_books.proofs.change.Views.leaves_each.Goals as goal

pub returns : goal.returns
returns c = λ yes_it history represented given among.
    c.loop-given.invariant history represented given (subst (λ (l : List PartAnswer). Contains l given) (sym (take_all c.loop-given.given-index c.args.answers.now (omega arith))) among)

pub loop-given-preserved : goal.loop-given-preserved
loop-given-preserved c = λ history represented.
    one_confirms c.args.self.now.slots.now history (part_of c.args.part.now) c.args.answers.now c.loop-given.given-index c.given-item.result c.loop-given-test.true c.given-item.is (c.loop-given.invariant history represented)
    (c.leaves_all.ensures c.if-not-leaves_all.false history represented)
