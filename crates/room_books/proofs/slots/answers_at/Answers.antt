use Rattle.std.proofs.Common.{◌∙◌, ◌+◌, ◌++◌, List, drop, sym, ap, subst, arith}
use Rattle.std.proofs.lemmas.List.{take_rest}
use Rattle.itip_order.specs.declared.part.Slot.TheVariants as own
use Rattle.room_books.specs.declared.meeting.PartAnswer.{PartAnswer}
use Rattle.room_books.specs.Slots.{givens}
use Rattle.room_books.proofs.slots_lemmas.Walking.{IsWalked, walk_end, walk_more, walk_start}
use Rattle.room_books.proofs.slots.answers_at.Goals as goal

pub loop-slot-init : goal.loop-slot-init
loop-slot-init c =
    subst (λ (l : List PartAnswer). IsWalked c.args.slots.now 0 c.args.answers.now c.args.answers.now l) (sym (ap givens c.new-are.ensures.items)) (walk_start c.args.slots.now c.args.answers.now c.requires.answers)

pub loop-slot-preserved : goal.loop-slot-preserved
loop-slot-preserved c =
    let slots = c.args.slots.now in let i = c.loop-slot.slot-index in let rest = c.loop-slot.rest in
    let walked = walk_more slots c.requires.slots i own.Whole c.loop-slot-test.true c.args.answers.now rest.now (givens c.loop-slot.are.items) c.place_past-past.result c.place_past-past.ensures c.loop-slot.invariant in
    subst (λ (l : List PartAnswer). IsWalked slots (i + 1) c.args.answers.now l (givens c.push_all.new.are.items)) (sym (take_rest rest.now c.place_past-past.result))
    (subst (λ (l : List PartAnswer). IsWalked slots (i + 1) c.args.answers.now (drop c.place_past-past.result rest.now) l) (sym (c.in_ok-push_all.ensures ∙ ap (λ l. givens c.loop-slot.are.items ++ l) c.answers_of.ensures)) walked)

pub returns : goal.returns
returns c = walk_end c.args.slots.now c.loop-slot.slot-index c.args.answers.now c.loop-slot.rest.now (givens c.loop-slot.are.items) (omega arith) c.loop-slot.invariant
