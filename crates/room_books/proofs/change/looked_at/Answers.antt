use Rattle.std.proofs.Common.{◌∙◌, ◌++◌, ◌∷◌, [], List, sym, ap, subst}
use Rattle.std.specs.List.Sorted.{IsSortedByKey}
use Rattle.std.proofs.lemmas.Bool.{both_ways}
use Rattle.itip_order.specs.declared.part.Slot.{Slot as OwnSlot}
use Rattle.itip_order.specs.declared.part.Slot.TheVariants as own
use Rattle.itip_order.specs.Parts.{slot_of}
use Rattle.profile.specs.rooms.Revisions.{slot_cmp}
use Rattle.room_books.specs.Slots.{is_touched}
use Rattle.room_books.proofs.change_lemmas.Looking.{all_looked, slots_rise, whole_looked, whole_rises}
use Rattle.room_books.proofs.change.looked_at.Goals as goal

pub returns-then-is_touched-clause-rises : goal.returns-then-is_touched-clause-rises
returns-then-is_touched-clause-rises c =
    subst (λ (l : List OwnSlot). IsSortedByKey slot_of slot_cmp l) (sym c.in_ok-all.ensures) (slots_rise c.args.answers.now c.requires.answers)

pub returns-then-is_touched-clause-others : goal.returns-then-is_touched-clause-others
returns-then-is_touched-clause-others c = λ given among none.
    absurd (both_ways _ (sym (ap (λ l. is_touched l (slot_of given.slot)) c.in_ok-all.ensures) ∙ none) (all_looked c.args.answers.now given among))

pub returns-clause-rises : goal.returns-clause-rises
returns-clause-rises c =
    let is = c.in_ok-extend_from_slice.ensures.items ∙ ap (λ (l : List OwnSlot). l ++ c.args.slots.now) (c.in_ok-push.ensures.items ∙ ap (λ (l : List OwnSlot). l ++ own.Whole ∷ []) c.new-looked.ensures.items) in
    subst (λ (l : List OwnSlot). IsSortedByKey slot_of slot_cmp l) (sym is) (whole_rises c.args.slots.now c.requires.slots)

pub returns-clause-others : goal.returns-clause-others
returns-clause-others c = λ given among none.
    let is = c.in_ok-extend_from_slice.ensures.items ∙ ap (λ (l : List OwnSlot). l ++ c.args.slots.now) (c.in_ok-push.ensures.items ∙ ap (λ (l : List OwnSlot). l ++ own.Whole ∷ []) c.new-looked.ensures.items) in
    whole_looked c.args.slots.now (slot_of given.slot) (sym c.is_touched.ensures ∙ c.if-is_touched.false) (sym (ap (λ l. is_touched l (slot_of given.slot)) is) ∙ none)
