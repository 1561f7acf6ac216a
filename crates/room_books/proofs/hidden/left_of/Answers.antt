use Rattle.std.proofs.Common.{◌∙◌, sym, subst, arith, pos}
use Rattle.std.proofs.lemmas.List.{take_all}
use Rattle.itip_order.specs.Parts.{part_of}
use Rattle.room_books.specs.Gone.{IsPartOf}
use Rattle.room_books.proofs.change_lemmas.Own.{left_push, left_pass}
use Rattle.room_books.proofs.shared_lemmas.Parts.{part_push, part_pass}
use Rattle.room_books.proofs.hidden.left_of.Goals as goal

pub loop-single-preserved : goal.loop-single-preserved
loop-single-preserved c = (
  λ history s.
      left_push history (part_of c.args.part.now) c.args.singles.now c.loop-single.left.items c.push.new.self.items c.loop-single.single-index _ (omega arith) c.in_ok-push.ensures.items (c.loop-single.invariant.0 history s)
      (sym (c.is_hidden.ensures history s) ∙ c.if-is_hidden.false),
  part_push c.args.singles.now c.loop-single.left.items c.push.new.self.items c.loop-single.single-index _ (omega arith) c.in_ok-push.ensures.items c.loop-single.invariant.1,
)

pub returns-clause-part : goal.returns-clause-part
returns-clause-part c = subst (IsPartOf c.loop-single.left.items) (take_all c.loop-single.single-index c.args.singles.now (omega arith)) c.loop-single.invariant.1

pub loop-single-preserved-then-is_hidden : goal.loop-single-preserved-then-is_hidden
loop-single-preserved-then-is_hidden c = (
  λ history s.
      left_pass history (part_of c.args.part.now) c.args.singles.now c.loop-single.left.items c.loop-single.single-index _ (omega arith) (c.loop-single.invariant.0 history s)
      (sym (c.is_hidden.ensures history s) ∙ c.if-is_hidden.true),
  part_pass c.args.singles.now c.loop-single.left.items c.loop-single.single-index (record { slot = pos 0; span = record { start = pos 0; end = pos 0 } }) (omega arith) c.loop-single.invariant.1,
)
