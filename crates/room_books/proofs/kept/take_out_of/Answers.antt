use Rattle.std.proofs.Common.{◌≡◌, ◌++◌, not, ap, sym, ◌∙◌, List, take, drop, refl, subst, arith}
use Rattle.std.specs.List.{remove}
use Rattle.std.proofs.lemmas.List.{take-append-drop}
use Rattle.itip_order.specs.Parts.{slot_of}
use Rattle.room_books.specs.declared.meeting.PartAnswer.{PartAnswer}
use Rattle.room_books.specs.Slots.{AreAnswersBySlot, is_at, is_below, is_up_to, IsSplitAt}
use Rattle.room_books.proofs.shared_lemmas.SlotPlaces.{by_slot_filter, in_order, one_out, others_at}
use Rattle.room_books.proofs.kept.take_out_of.Goals as goal

pub loop-place-init : goal.loop-place-init
loop-place-init c = (sym (take-append-drop c.place_before-from.result c.args.answers.now.items), refl, refl, omega arith)

pub remove-requires : goal.remove-requires
remove-requires c =
    let before = c.loop-place.invariant.1 in let test = c.loop-place-test.true in let within = c.place_past-to.ensures.within in let len = c.deref-2.ensures.len in
    omega (arith, before, test, within, len)

pub loop-place-preserved : goal.loop-place-preserved
loop-place-preserved c =
    let old = c.args.answers.now.items in let from = c.place_before-from.result in let place = c.loop-place._place in
    let before = c.loop-place.invariant in let test = c.loop-place-test.true in
    let to = subst (λ (l : List PartAnswer). IsSplitAt (is_up_to (slot_of c.args.slot)) l c.place_past-to.result) c.deref-2.ensures.value c.place_past-to.ensures in
    let within = to.within in let b3 = before.3 in let b1 = before.1 in let len = c.remove.ensures.len in (
      c.remove.ensures.items ∙ ap (λ l. remove l from) before.0 ∙ one_out old from place b3 (omega (arith, test, within)),
      omega (arith, b1, len),
      c.remove.ensures.capacity ∙ before.2,
      omega (arith, b3),
    )

pub returns-clause-items : goal.returns-clause-items
returns-clause-items c =
    let old = c.args.answers.now.items in let slot = slot_of c.args.slot in
    let first = subst (λ (l : List PartAnswer). IsSplitAt (is_below slot) l c.place_before-from.result) c.deref.ensures.value c.place_before-from.ensures in
    let past = subst (λ (l : List PartAnswer). IsSplitAt (is_up_to slot) l c.place_past-to.result) c.deref-2.ensures.value c.place_past-to.ensures in
    let order = in_order old slot c.place_before-from.result c.place_past-to.result first past in
    let test = c.loop-place-test.false in
    let end : c.loop-place._place ≡ c.place_past-to.result = omega (arith, order, test) in
    c.loop-place.invariant.0 ∙ ap (λ n. take c.place_before-from.result old ++ drop n old) end ∙ others_at old slot c.place_before-from.result c.place_past-to.result first past

pub returns-clause-by_slot : goal.returns-clause-by_slot
returns-clause-by_slot c =
    let old = c.args.answers.now.items in let slot = slot_of c.args.slot in
    subst AreAnswersBySlot (sym (returns-clause-items c)) (by_slot_filter (λ g. not (is_at slot g)) old c.requires)

pub returns-clause-len : goal.returns-clause-len
returns-clause-len c = let before = c.loop-place.invariant.1 in let low = c.loop-place.invariant.3 in omega (arith, before, low)
