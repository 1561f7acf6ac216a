use Rattle.std.proofs.Common.{◌∷◌, sym, subst, List}
use Rattle.itip_order.specs.Parts.{slot_of}
use Rattle.room_books.specs.declared.meeting.PartAnswer.{PartAnswer}
use Rattle.room_books.specs.Slots.{AreAnswersBySlot, Reordered, is_up_to, IsSplitAt}
use Rattle.room_books.proofs.shared_lemmas.SlotPlaces.{put_by_slot, put_reordered}
use Rattle.room_books.proofs.kept.put.Goals as goal

pub returns-clause-put : goal.returns-clause-put
returns-clause-put c =
    let old = c.args.answers.now.items in
    subst (Reordered (c.args.given ∷ old)) (sym c.in_ok-insert.ensures.items) (put_reordered old c.args.given c.place_past-at.result)

pub returns-clause-by_slot : goal.returns-clause-by_slot
returns-clause-by_slot c =
    let at = subst (λ (l : List PartAnswer). IsSplitAt (is_up_to (slot_of c.args.given.slot)) l c.place_past-at.result) c.deref.ensures.value c.place_past-at.ensures in
    subst AreAnswersBySlot (sym c.in_ok-insert.ensures.items) (put_by_slot c.args.answers.now.items c.args.given c.place_past-at.result c.requires at)
