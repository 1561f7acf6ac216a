use Rattle.std.proofs.Common.{get_or, refl, ◌∙◌, arith}
use Rattle.std.proofs.lemmas.List.{get_or_default}
use Rattle.itip_order.specs.declared.part.Slot.TheVariants as own
use Rattle.room_books.proofs.shared_lemmas.SlotPlaces.{without_more, without_none}
use Rattle.room_books.proofs.kept.take_out.Goals as goal

pub loop-slot-init : goal.loop-slot-init
loop-slot-init c = (without_none c.args.answers.now.items, c.requires, omega arith, refl)

pub loop-slot-preserved : goal.loop-slot-preserved
loop-slot-preserved c =
    let before = c.loop-slot.invariant in
    let slots = c.args.slots.now in let i = c.loop-slot.slot-index in
    let slot = get_or slots i own.Whole in
    let len = c.take_out_of.ensures.len in let l2 = before.2 in (
      without_more slots slot i c.args.answers.now.items c.loop-slot.answers.items c.take_out_of.new.answers.items c.loop-slot-test.true (get_or_default slots i own.Whole slot c.loop-slot-test.true) before.0 c.take_out_of.ensures.items,
      c.take_out_of.ensures.by_slot,
      omega (arith, len, l2),
      c.take_out_of.ensures.capacity ∙ before.3,
    )
