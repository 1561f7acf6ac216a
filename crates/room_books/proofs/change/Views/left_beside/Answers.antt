use Rattle.std.proofs.Common.{List, [], ◌∙◌, sym, subst, arith}
use Rattle.std.proofs.lemmas.List.{take_all}
use Rattle.itip_order.specs.Parts.{part_of}
use Rattle.cal_events.specs.declared.instance.Single.{Single}
use Rattle.room_books.specs.Gone.{Sheds}
use Rattle.room_books.proofs.change_lemmas.Own.{beside_push, beside_pass}
use Rattle.room_books.proofs.change_lemmas.Splits.{sheds_none, sheds_stay, sheds_go}
use Rattle.room_books.proofs.change.Views.left_beside.Goals as goal

pub loop-single-init : goal.loop-single-init
loop-single-init c =
    let gone = c.args.gone.now.items in
    (λ history s. c.new-left.ensures.items, subst (λ (l : List Single). Sheds [] l gone gone) (sym c.new-left.ensures.items) (sheds_none gone))

pub loop-single-preserved : goal.loop-single-preserved
loop-single-preserved c = (
  λ history s.
      beside_push c.args.self.now.slots.now history (part_of c.args.part.now) c.args.singles.now c.loop-single.left.items c.push-in-loop-single.new.self.items c.loop-single.single-index _ (omega arith) c.in_ok-push-2.ensures.items (c.loop-single.invariant.0 history s)
      (sym (c.is_hidden_by.ensures history s) ∙ c.if-is_hidden_by.false),
  sheds_stay c.args.singles.now c.loop-single.left.items c.push-in-loop-single.new.self.items c.args.gone.now.items c.loop-single.gone.items c.loop-single.single-index _ (omega arith) c.in_ok-push-2.ensures.items c.loop-single.invariant.1,
)

pub returns-clause-sheds : goal.returns-clause-sheds
returns-clause-sheds c = subst (λ (l : List Single). Sheds l c.loop-single.left.items c.args.gone.now.items c.loop-single.gone.items) (take_all c.loop-single.single-index c.args.singles.now (omega arith)) c.loop-single.invariant.1

pub loop-single-preserved-then-is_hidden_by : goal.loop-single-preserved-then-is_hidden_by
loop-single-preserved-then-is_hidden_by c = (
  λ history s.
      beside_pass c.args.self.now.slots.now history (part_of c.args.part.now) c.args.singles.now c.loop-single.left.items c.loop-single.single-index _ (omega arith) (c.loop-single.invariant.0 history s)
      (sym (c.is_hidden_by.ensures history s) ∙ c.if-is_hidden_by.true),
  sheds_go c.args.singles.now c.loop-single.left.items c.args.gone.now.items c.loop-single.gone.items c.push.new.self.items c.loop-single.single-index _ (omega arith) c.in_ok-push.ensures.items c.loop-single.invariant.1,
)
