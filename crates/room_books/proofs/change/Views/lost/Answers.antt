use Rattle.std.proofs.Common.{◌≡◌, ◌∙◌, ◌++◌, [], false, List, drop, sym, ap, subst, arith, append-nil}
use Rattle.std.proofs.lemmas.List.{drop_all}
use Rattle.itip_order.specs.declared.part.Slot.{Slot as OwnSlot}
use Rattle.itip_order.specs.declared.part.Slot.TheVariants as own
use Rattle.itip_order.specs.Parts.{part_of, slot_of}
use Rattle.std.specs.List.{Contains}
use Rattle.room_books.specs.declared.meeting.PartAnswer.{PartAnswer}
use Rattle.room_books.specs.Slots.{is_touched, IsUntouched}
use Rattle.room_books.proofs.change_lemmas.Looking.{AreLost, lost_all, lost_pass, lost_push}
use Rattle.room_books.proofs.shared_lemmas.SlotPlaces.{pairs_sorted}
use Rattle.room_books.proofs.change.Views.lost.Goals as goal

pub loop-slot-init : goal.loop-slot-init
loop-slot-init c =
    let slots = c.args.self.now.slots.now in let before = c.args.before.now.held in let after = c.args.self.now.after.now in let part = part_of c.args.self.now.part.now in let answers = c.args.before.now.answers.items in
    let looked = c.in_ok-looked.looked.items in
    let all = lost_all slots before after part answers looked c.in_ok-looked.ensures.rises
    (subst (λ (l : List PartAnswer). (given : PartAnswer) → Contains l given → is_touched looked (slot_of given.slot) ≡ false → IsUntouched slots (slot_of given.slot)) c.deref.ensures.value c.in_ok-looked.ensures.others) in
    subst (λ (l : List OwnSlot). AreLost slots before after part answers (c.new-lost.result.items ++ l)) (sym c.deref-slot-items.ensures.value)
    (subst (λ (l : List OwnSlot). AreLost slots before after part answers (l ++ looked)) (sym c.new-lost.ensures.items) all)

pub loop-slot-preserved-then-stays : goal.loop-slot-preserved-then-stays
loop-slot-preserved-then-stays c =
    let slots = c.args.self.now.slots.now in let before = c.args.before.now.held in let after = c.args.self.now.after.now in let part = part_of c.args.self.now.part.now in let answers = c.args.before.now.answers.items in
    lost_pass slots before after part answers c.deref-slot-items.result.now c.loop-slot.lost.items c.loop-slot.slot-index own.Whole c.loop-slot-test.true c.loop-slot.invariant (c.stays.ensures c.if-stays.true)

pub loop-slot-preserved : goal.loop-slot-preserved
loop-slot-preserved c =
    let slots = c.args.self.now.slots.now in let before = c.args.before.now.held in let after = c.args.self.now.after.now in let part = part_of c.args.self.now.part.now in let answers = c.args.before.now.answers.items in
    lost_push slots before after part answers c.deref-slot-items.result.now c.loop-slot.lost.items c.push.new.self.items c.loop-slot.slot-index own.Whole c.loop-slot-test.true c.in_ok-push.ensures.items c.loop-slot.invariant

pub returns-clause-rises : goal.returns-clause-rises
returns-clause-rises c =
    let are = c.loop-slot.invariant in
    let lost = c.loop-slot.lost.items in
    let none : drop c.loop-slot.slot-index c.deref-slot-items.result.now ≡ [] = drop_all c.loop-slot.slot-index c.deref-slot-items.result.now (omega arith) in
    let is : lost ++ drop c.loop-slot.slot-index c.deref-slot-items.result.now ≡ lost = ap (λ l. lost ++ l) none ∙ append-nil lost in
    pairs_sorted slot_of lost (subst (AreLost c.args.self.now.slots.now c.args.before.now.held c.args.self.now.after.now (part_of c.args.self.now.part.now) c.args.before.now.answers.items) is are).rises

pub returns-clause-others : goal.returns-clause-others
returns-clause-others c =
    let are = c.loop-slot.invariant in
    let lost = c.loop-slot.lost.items in
    let none : drop c.loop-slot.slot-index c.deref-slot-items.result.now ≡ [] = drop_all c.loop-slot.slot-index c.deref-slot-items.result.now (omega arith) in
    let is : lost ++ drop c.loop-slot.slot-index c.deref-slot-items.result.now ≡ lost = ap (λ l. lost ++ l) none ∙ append-nil lost in
    (subst (AreLost c.args.self.now.slots.now c.args.before.now.held c.args.self.now.after.now (part_of c.args.self.now.part.now) c.args.before.now.answers.items) is are).others
