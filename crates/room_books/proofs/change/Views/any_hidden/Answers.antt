use Rattle.std.proofs.Common.{◌≡◌, List, ◌∙◌, ◌+◌, pos, sym, subst, take, arith}
use Rattle.std.proofs.lemmas.List.{take_all, take_more}
use Rattle.itip_order.specs.Parts.{part_of}
use Rattle.cal_events.specs.declared.instance.Single.{Single}
use Rattle.room_books.specs.Taking.{left_beside}
use Rattle.room_books.proofs.change_lemmas.Own.{beside_push}
use Rattle.room_books.proofs.change.Views.any_hidden.Goals as goal

pub loop-single-preserved : goal.loop-single-preserved
loop-single-preserved c = λ history represented.
    let singles = c.args.singles.now in let i = c.loop-single.single-index in
    let d : Single = record { slot = pos 0; span = record { start = pos 0; end = pos 0 } } in
    beside_push c.args.self.now.slots.now history (part_of c.args.part.now) singles (take i singles) (take (i + 1) singles) i d c.loop-single-test.true (take_more singles i d c.loop-single-test.true) (c.loop-single.invariant history represented)
    (sym (c.is_hidden_by.ensures history represented) ∙ c.if-is_hidden_by.false)

pub returns : goal.returns
returns c = λ none history represented.
    let singles = c.args.singles.now in
    subst (λ (l : List Single). l ≡ left_beside c.args.self.now.slots.now history (part_of c.args.part.now) l) (take_all c.loop-single.single-index singles (omega arith)) (c.loop-single.invariant history represented)
