use Rattle.std.proofs.Common.{◌≡◌, inl, inr, false, sym, ap, ◌∙◌, not, List, subst}
use Rattle.std.specs.List.{Contains}
use Rattle.std.proofs.lemmas.Bool.{both_ways, not-true}
use Rattle.std.proofs.lemmas.List.Elements.{Contains-append_left, Contains-append_right, Contains-append_cases}
use Rattle.itip_order.specs.Parts.{slot_of}
use Rattle.itip_order.proofs.Lists.{filter_at, filter_from}
use Rattle.room_books.specs.declared.meeting.PartAnswer.{PartAnswer}
use Rattle.room_books.specs.Slots.{left_without, is_touched}
use Rattle.room_books.proofs.slots.answer_after.Goals as goal

pub returns-in_default-answer_of-clause-none : goal.returns-in_default-answer_of-clause-none
returns-in_default-answer_of-clause-none c = λ given among same.
    let changes = c.args.changes.now in let before = c.args.before.now in
    elim (Contains-append_cases (left_without changes.lost.items before) changes.new.items given among) [
      | inl old ↦ c.in_default-answer_of.ensures.none given (filter_at (λ (g : PartAnswer). not (is_touched changes.lost.items (slot_of g.slot))) before given old).0 same
      | inr new ↦ c.in_default.ensures.none given (subst (λ (l : List PartAnswer). Contains l given) (sym c.deref.ensures.value) new) same
    ]

pub returns-then-is_touched-clause-none : goal.returns-then-is_touched-clause-none
returns-then-is_touched-clause-none c = λ given among same.
    let changes = c.args.changes.now in let before = c.args.before.now in
    elim (Contains-append_cases (left_without changes.lost.items before) changes.new.items given among) [
      | inl old ↦
          let apart = not-true _ (filter_at (λ (g : PartAnswer). not (is_touched changes.lost.items (slot_of g.slot))) before given old).1 in
          both_ways _ apart (ap (is_touched changes.lost.items) same ∙ sym (ap (λ l. is_touched l (slot_of c.args.slot)) c.deref-2.ensures.value) ∙ sym c.is_touched.ensures ∙ c.if-is_touched.true)
      | inr new ↦ c.in_default.ensures.none given (subst (λ (l : List PartAnswer). Contains l given) (sym c.deref.ensures.value) new) same
    ]

pub returns-in-Some-clause-found : goal.returns-in-Some-clause-found
returns-in-Some-clause-found c =
    let changes = c.args.changes.now in let given = c.in-Some.given.now in (
      Contains-append_right (left_without changes.lost.items c.args.before.now) changes.new.items given (subst (λ (l : List PartAnswer). Contains l given) c.deref.ensures.value c.in-Some.ensures.found.0),
      c.in-Some.ensures.found.1,
    )

pub returns-clause-found : goal.returns-clause-found
returns-clause-found c =
    let changes = c.args.changes.now in let before = c.args.before.now in let given = c.in-Some-answer_of.given.now in
    let found = c.in-Some-answer_of.ensures.found in
    let untouched : is_touched changes.lost.items (slot_of given.slot) ≡ false = ap (is_touched changes.lost.items) found.1 ∙ sym (ap (λ l. is_touched l (slot_of c.args.slot)) c.deref-2.ensures.value) ∙ sym c.is_touched.ensures ∙ c.if-is_touched.false in (
      Contains-append_left (left_without changes.lost.items before) changes.new.items given (filter_from (λ (g : PartAnswer). not (is_touched changes.lost.items (slot_of g.slot))) before given found.0 (ap not untouched)),
      found.1,
    )
